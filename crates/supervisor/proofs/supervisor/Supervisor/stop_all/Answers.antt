use Rattle.std.proofs.Common.{refl, sym, subst}
use Rattle.components.specs.Changes.{leaving}
use Rattle.components.specs.Whole.{AreWhole}
use Rattle.supervisor.proofs.Goings.{leaving_whole}
use Rattle.components.proofs.Kept.{kept_all, length_all, leaving_children, stays_leaving}
use Rattle.components.proofs.Whole.{mapped_whole}
use Rattle.supervisor.proofs.supervisor.Supervisor.stop_all.Goals as goal

pub invariant_of-self : goal.invariant_of-self
invariant_of-self c = (
  kept_all leaving leaving_children stays_leaving _ _ c.leave_all.new.slots.items c.self.invariant.0 c.leave_all.ensures refl refl,
  length_all leaving c.self.inside.slots.items c.leave_all.new.slots.items _ c.self.invariant.1 c.leave_all.ensures,
  subst AreWhole (sym c.leave_all.ensures) (mapped_whole leaving leaving_whole c.self.inside.slots.items c.self.invariant.2),
)
