use Rattle.std.proofs.Common.{◌∙◌}
use Rattle.tree_core.specs.View.{view}
use Rattle.workload.proofs.Steps.{document_made}
use Rattle.workload.proofs.documents.draw_document.Goals as goal

pub returns-clause-document : goal.returns-clause-document
returns-clause-document c =
    rw (document_made c.args.number c.args.generator.now.state c.draw_below-group.result c.draw_below-group.new.self.state c.as_slice.result.now
    (view c.in_ok-tree.tree) c.draw_below-group.ensures.value c.draw_below-group.ensures.state
    (c.as_slice.ensures.value ∙ c.in_ok-roots.ensures.roots) c.in_ok-tree.ensures.tree)
    at c.bytes_of.ensures
