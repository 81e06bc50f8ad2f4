use Rattle.std.proofs.Common.{◌≡◌, take, true, false}
use Rattle.std.specs.List.{list_any}
use Rattle.components.specs.Flags.{at_moment}
use Rattle.components.specs.Turns.{may_act}
use Rattle.supervisor.proofs.acting.first_deed.Given as goal

abbrev pub invariant-loop-at : goal.invariant-loop-at
invariant-loop-at l = list_any (may_act (at_moment l.slots l.moment true)) (take l.at l.slots) ≡ false
