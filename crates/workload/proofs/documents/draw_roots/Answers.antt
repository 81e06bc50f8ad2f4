use Rattle.std.proofs.Common.{refl}
use Rattle.workload.specs.Documents.{drawn_roots}
use Rattle.workload.proofs.Steps.{root_drawn, root_state}
use Rattle.workload.proofs.documents.draw_roots.Goals as goal

pub loop-root-init : goal.loop-root-init
unfolding drawn_roots
loop-root-init c = record { roots = c.new-roots.ensures.items; state = refl }

pub loop-root-preserved : goal.loop-root-preserved
loop-root-preserved c = record {
  roots = root_drawn _ _ _ c.loop-root.invariant.state _ _ _ c.loop-root.invariant.roots c.draw_below.ensures.value c.in_ok-push.ensures.items;
  state = root_state _ _ _ c.loop-root.invariant.state _ c.draw_below.ensures.state;
}
