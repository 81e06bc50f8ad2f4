-- What the stage of a device asks of a session. Of a device a history needs this and nothing else.
use Rattle.std.specs.Prelude.{ℕ, Bool, true, false, List, [], Option, Some, None, if◌then◌else◌}
use Rattle.records.specs.Stored.{Item, Record, Accepted, Activating, Failing, FailingBack}
use Rattle.records.specs.declared.record.Origin.{Origin}
use Rattle.device.specs.Devices.{Device, Pending}
use Rattle.device.specs.Lawful.{next_boot, no_failures}
use Rattle.device.specs.declared.staged.Stage.TheVariants as stages

pub data Phase : Type 0 where
  idle : Phase  -- nothing is pending
  booting : Phase  -- the plan's bootstraps run
  activating : Phase  -- the plan's items come up
  backing : Phase  -- the set's bootstraps run again
  rolling : Phase  -- the set's items come up again

abbrev pub is_idle : Phase → Bool
is_idle idle = true
is_idle f = false

-- bootstraps run
abbrev pub has_boots : Phase → Bool
has_boots booting = true
has_boots backing = true
has_boots f = false

pub record Duty : Type 0 where
  pub origin : Option Origin
  pub phase : Phase
  pub items : List Item  -- who runs
  pub counts : List ℕ  -- how often each of them failed
  pub boots : List Item  -- among whom the bootstraps are
  pub next_bootstrap : Option (List ℕ)  -- whose bootstrap comes next
  pub begun : Bool  -- it was begun

-- whose bootstrap comes next; after a failed one none does
abbrev pub next_bootstrap_of : Pending → Option (List ℕ)
next_bootstrap_of q = if q.boot_failed then None else next_boot q

abbrev pub duty_in : Device → Pending → Duty
duty_in d q = elim q.stage [
  | stages.Booting ↦ record {
    origin = d.origin;
    phase = booting;
    items = d.set;
    counts = q.failures;
    boots = q.plan.items;
    next_bootstrap = next_bootstrap_of q;
    begun = q.begun;
  }
  | stages.Activating ↦ record {
    origin = d.origin;
    phase = activating;
    items = q.plan.items;
    counts = q.failures;
    boots = [];
    next_bootstrap = None;
    begun = false;
  }
  | stages.Backing ↦ record {
    origin = d.origin;
    phase = backing;
    items = d.set;
    counts = q.failures;
    boots = d.set;
    next_bootstrap = next_bootstrap_of q;
    begun = q.begun;
  }
  | stages.Rolling ↦ record { origin = d.origin; phase = rolling; items = d.set; counts = q.failures; boots = []; next_bootstrap = None; begun = false }
]

abbrev pub duty_of : Device → Duty
duty_of d = elim d.pending [
  | None ↦ record { origin = d.origin; phase = idle; items = d.set; counts = no_failures; boots = []; next_bootstrap = None; begun = false }
  | Some q ↦ duty_in d q
]

-- with this record another stage begins, or a deployment
abbrev pub begins_stage : Record → Bool
begins_stage (Accepted p) = true
begins_stage Activating = true
begins_stage (Failing n) = true
begins_stage (FailingBack n) = true
begins_stage r = false

-- ---- who the components are, by how far the stage is

pub data Generation : Type 0 where
  previous : Generation  -- those of before this stage stand, and nothing was asked of them yet
  draining : Generation  -- all that stand are being stopped, so that the stage can begin; or none stands
  current : Generation  -- those of the stage stand, and beside them those that go away
  shutting_down : Generation  -- all are being stopped for the end of the call

abbrev pub is_current : Generation → Bool
is_current current = true
is_current c = false

abbrev pub is_shutting_down : Generation → Bool
is_shutting_down shutting_down = true
is_shutting_down c = false
