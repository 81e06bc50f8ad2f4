use Rattle.std.proofs.Common.{◌≡◌, ◌++◌, take, drop}
use Rattle.components.specs.Changes.{placed}
use Rattle.components.specs.Components.{ComponentState, component_name}
use Rattle.supervisor.proofs.merging.place_among.Given as goal

abbrev pub invariant-loop-at : goal.invariant-loop-at
invariant-loop-at l = (p : ComponentState) → component_name p ≡ l.name → placed p l.slots ≡ take l.at l.slots ++ placed p (drop l.at l.slots)
