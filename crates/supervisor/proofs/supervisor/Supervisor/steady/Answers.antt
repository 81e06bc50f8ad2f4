use Rattle.std.proofs.Common.{refl, sym, subst}
use Rattle.components.specs.Changes.{forgetting}
use Rattle.components.specs.Whole.{AreWhole}
use Rattle.supervisor.proofs.Goings.{forgetting_whole}
use Rattle.components.proofs.Kept.{kept_all, length_all, forgetting_children, stays_forgetting}
use Rattle.components.proofs.Whole.{mapped_whole}
use Rattle.supervisor.proofs.supervisor.Supervisor.steady.Goals as goal

pub invariant_of-self : goal.invariant_of-self
invariant_of-self c = (
  kept_all forgetting forgetting_children stays_forgetting _ _ c.forget_all.new.slots.items c.self.invariant.0 c.forget_all.ensures refl
      refl,
  length_all forgetting c.self.inside.slots.items c.forget_all.new.slots.items _ c.self.invariant.1 c.forget_all.ensures,
  subst AreWhole (sym c.forget_all.ensures) (mapped_whole forgetting forgetting_whole c.self.inside.slots.items c.self.invariant.2),
)
