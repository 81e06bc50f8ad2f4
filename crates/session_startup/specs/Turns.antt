-- What a turn leaves, and the turns of a stage.
use Rattle.std.specs.Prelude.{◌≡◌, ℕ, true, false, List, Option, Some, None}
use Rattle.device.specs.Devices.{Device}
use Rattle.step_runner.specs.Entries.{Told}
use Rattle.components.specs.Components.{Components, is_settled}
use Rattle.histories.specs.States.{SessionState}
use Rattle.session_startup.specs.Runs.{IsAtTurnStart, HasNoActLeft}
use Rattle.session_startup.specs.declared.turns.Turned.{Turned}
use Rattle.session_startup.specs.declared.turns.Turned.TheVariants as turned

-- the stage goes on, or has come to this
abbrev pub TurnLeft : Option Turned → SessionState → Device → Components → Told → List ℕ → Type 0
TurnLeft None q d world told living = IsAtTurnStart q d world told living
TurnLeft (Some turned.Settled) q d world told living = HasNoActLeft q d false world told living × (is_settled q.world ≡ true)
TurnLeft (Some turned.Broken) q d world told living = HasNoActLeft q d true world told living
