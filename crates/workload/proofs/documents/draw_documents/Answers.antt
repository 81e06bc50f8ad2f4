use Rattle.std.proofs.Common.{refl}
use Rattle.workload.specs.Documents.{drawn_documents}
use Rattle.workload.proofs.Steps.{document_drawn, document_state}
use Rattle.workload.proofs.documents.draw_documents.Goals as goal

pub loop-number-init : goal.loop-number-init
unfolding drawn_documents
loop-number-init c = record { drawn = c.new-drawn.ensures.items; state = refl }

pub loop-number-preserved : goal.loop-number-preserved
loop-number-preserved c = record {
  drawn = document_drawn _ _ _ c.loop-number.invariant.state _ _ _ c.loop-number.invariant.drawn c.in_ok-draw_document.ensures.document
      c.in_ok-push.ensures.items;
  state = document_state _ _ _ c.loop-number.invariant.state _ c.in_ok-draw_document.ensures.state;
}
