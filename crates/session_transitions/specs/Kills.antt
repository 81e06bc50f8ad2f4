-- What the kills leave with which a call gives up.
use Rattle.std.specs.Prelude.{◌≡◌}
use Rattle.std.specs.List.{list_any}
use Rattle.components.specs.Turns.{owes}
use Rattle.histories.specs.States.{SessionState}

-- What is still to be recorded, and whether the call ends for a restart, is as it was.
pub record KeepsRest (p q : SessionState) : Type 0 where
  pub owed : list_any owes q.world.parts ≡ list_any owes p.world.parts
  pub boot_end : q.boot_end ≡ p.boot_end
  pub over : q.over ≡ p.over
