-- How long the record of a plan is.
use Rattle.std.specs.Prelude.{ℕ, ◌≤◌, List, length}
use Rattle.nuc_base.specs.declared.platform.Platform.{Platform}
use Rattle.records.specs.Layout.{Spelled}
use Rattle.records.specs.Stored.{Plan, Accepted}
use Rattle.device.specs.Plans.{IsPlan}

-- the spelling of a plan's record has at most 33,554,432 bytes
abbrev pub PlansAreShort : Type 0
PlansAreShort = (platform : Platform) (plan : Plan) (bytes : List ℕ) → IsPlan platform plan → Spelled bytes (Accepted plan) → length bytes ≤ 33554432
