-- What the records of one deployment leave as it is.
use Rattle.std.specs.Prelude.{◌≡◌, Option, option_map}
use Rattle.records.specs.Stored.{Plan}
use Rattle.device.specs.Devices.{Device}

-- the plan of the pending deployment
abbrev pub plan_of : Device → Option Plan
plan_of d = option_map (λ q. q.plan) d.pending

-- The same plan is pending, beside the same set, on a device of the same origin.
pub record IsSameDeployment (d e : Device) : Type 0 where
  pub origin : e.origin ≡ d.origin
  pub set : e.set ≡ d.set
  pub plan : plan_of e ≡ plan_of d
