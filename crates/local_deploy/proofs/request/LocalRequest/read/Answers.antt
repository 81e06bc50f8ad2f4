use Rattle.tree_core.specs.View.{view}
use Rattle.local_deploy.proofs.Soundness.{sound}
use Rattle.local_deploy.proofs.request.LocalRequest.read.Goals as goal

pub returns-clause-sound : goal.returns-clause-sound
returns-clause-sound c = sound (view c.in-Ok.tree) c.request_of.result c.in-Ok.ensures.regular c.request_of.ensures
