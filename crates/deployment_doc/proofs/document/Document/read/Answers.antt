use Rattle.tree_core.specs.View.{view}
use Rattle.deployment_doc.proofs.Soundness.{sound}
use Rattle.deployment_doc.proofs.document.Document.read.Goals as goal

pub returns-clause-sound : goal.returns-clause-sound
returns-clause-sound c = sound c.args.bytes.now (view c.in-Ok.tree) c.document_of.result c.in-Ok.ensures.regular c.document_of.ensures
