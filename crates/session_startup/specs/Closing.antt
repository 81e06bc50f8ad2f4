-- Where a deployment may close at once.
use Rattle.std.specs.Prelude.{◌≡◌, List, [], ◌∷◌}
use Rattle.nuc_base.specs.declared.kinds.Outcome.{Outcome}
use Rattle.records.specs.Stored.{Closed}
use Rattle.device.specs.Devices.{Device}
use Rattle.histories.specs.TraceEvents.{TraceEvent, Recorded}
use Rattle.histories.specs.States.{SessionState}
use Rattle.histories.specs.Follows.{MayFollow}

-- the close is the next that may happen
pub record MayCloseNow (p : SessionState) (d : Device) (outcome : Outcome) : Type 0 where
  pub device_is : p.device ≡ d
  pub follows : MayFollow p (Recorded (Closed outcome))

-- and it is all that happens
abbrev pub just_closed : Outcome → List TraceEvent
just_closed outcome = Recorded (Closed outcome) ∷ []
