-- Rows: a component of a new version that fails three times, and what follows.
use Rattle.std.specs.Prelude.{◌∷◌, [], ℕ, false, List, Some, codes, replicate}
use Rattle.nuc_base.specs.declared.kinds.Step.TheVariants as step
use Rattle.nuc_base.specs.declared.kinds.Outcome.TheVariants as outcomes
use Rattle.lifecycle.specs.declared.kinds.After.TheVariants as after
use Rattle.lifecycle.specs.declared.kinds.LifeEvent.TheVariants as event
use Rattle.lifecycle.specs.declared.kinds.State.{State}
use Rattle.lifecycle.specs.declared.kinds.State.TheVariants as state
use Rattle.records.specs.Stored.{Item, StepFailed, Failing, Closed}
use Rattle.records.specs.declared.record.Origin.{Origin}
use Rattle.step_runner.specs.declared.entries.Seen.TheVariants as seen
use Rattle.device.specs.Lawful.{no_failures}
use Rattle.device.specs.declared.staged.Stage.TheVariants as stages
use Rattle.components.specs.Fitted.{Fitted}
use Rattle.components.specs.Components.{ComponentState}
use Rattle.device.specs.Devices.{Device}
use Rattle.histories.specs.TraceEvents.{TraceEvent, Ran, Recorded, Moved, ReadClock, Changed, StopsAll}
use Rattle.histories.specs.States.{SessionState, state_after}
use Rattle.history_rows.specs.Rows.{item, starts_up, recovers, script, device_of, pending_in, plan_of, state_at, call_begins, world_of, idle_part}
use Rattle.history_rows.specs.Rows.{running_part, starting_part, runs, asked, not_asked, ends, good, bad, a, b, one, two}

abbrev pub old_a : Item
old_a = item a one

abbrev pub new_a : Item
new_a = item a two

abbrev pub old_up : Fitted
old_up = starts_up old_a []

-- with a recover step
abbrev pub new_up : Fitted
new_up = recovers new_a

abbrev pub counts_of : ℕ → List ℕ
counts_of n = n ∷ replicate 127 0

-- the new version in this state, with so many recorded failures
abbrev pub driven : Origin → State → ℕ → SessionState
driven o s n = state_at (device_of o (old_a ∷ []) (Some (pending_in stages.Activating (plan_of (new_a ∷ []) []) (counts_of n))))
    (world_of (idle_part new_up s n ∷ []))

-- its startup begins, and ends after a while
abbrev pub one_try : List TraceEvent
one_try =
    Ran (not_asked 0 (ends bad 7 120000)) 0 step.Startup
    ∷ Ran (asked 0 (seen.Started 7 (script (codes "s")))) 0 step.Startup ∷ Moved 0 event.MayBegin ∷ []

abbrev pub tried : Origin → ℕ → SessionState
tried o n = state_after (driven o state.Installed n) one_try

abbrev pub records_it : List TraceEvent
records_it = Recorded (StepFailed a step.Startup bad) ∷ []

-- recover runs, and it is installed again
abbrev pub recovers_it : List TraceEvent
recovers_it =
    Ran (not_asked 9 (ends good 8 60000)) 0 step.Recover
    ∷ Ran (asked 9 (seen.Started 8 (script (codes "v")))) 0 step.Recover ∷ Moved 0 event.Retry ∷ ReadClock 9 ∷ []

abbrev pub failed_once : Origin → SessionState
failed_once o = state_after (tried o 0) records_it

-- the third failure was recorded
abbrev pub broken : Origin → SessionState
broken o = state_after (tried o 2) records_it

-- all is stopped, and the old version comes back
abbrev pub rolls_back : List Fitted → List TraceEvent
rolls_back made = Changed made no_failures false ∷ Moved 0 (event.Stop after.Gone) ∷ StopsAll ∷ Recorded (Failing a) ∷ []

abbrev pub rolling : Origin → SessionState
rolling o = state_after (broken o) (rolls_back (old_up ∷ []))

abbrev pub comes_back : List TraceEvent
comes_back =
    Recorded (Closed outcomes.RollbackComplete) ∷ Ran (not_asked 9 (ends good 9 120000)) 0 step.Startup
    ∷ Ran (asked 9 (seen.Started 9 (script (codes "s")))) 0 step.Startup ∷ Moved 0 event.MayBegin ∷ Moved 0 event.MayBegin ∷ ReadClock 9 ∷ []

abbrev pub is_back : Origin → SessionState
is_back o = state_after (rolling o) comes_back

abbrev pub stops_it : List TraceEvent
stops_it = Moved 0 (event.Stop after.Gone) ∷ StopsAll ∷ []

-- under DO_NOTHING it closes as it is
abbrev pub keeps_it : List TraceEvent
keeps_it = Moved 0 (event.Stop after.Gone) ∷ StopsAll ∷ Recorded (Closed outcomes.RollbackNotRequested) ∷ []

-- the old version breaks too
abbrev pub breaking : Origin → SessionState
breaking o = state_at (device_of o (old_a ∷ []) (Some (pending_in stages.Rolling (plan_of (new_a ∷ []) []) (counts_of 2))))
    (world_of (idle_part old_up state.Installed 2 ∷ []))

abbrev pub breaks_too : List TraceEvent
breaks_too = Recorded (Closed outcomes.UnableToRollback) ∷ Recorded (StepFailed a step.Startup bad) ∷ one_try

abbrev pub closes_it : List TraceEvent
closes_it = Recorded (Closed outcomes.RollbackNotRequested) ∷ []

-- beside it stands another that may begin
abbrev pub broken_beside : Origin → SessionState
broken_beside o = state_at (device_of o (old_a ∷ []) (Some (pending_in stages.Activating (plan_of (new_a ∷ item b one ∷ []) []) (counts_of 3))))
    (world_of (idle_part new_up state.Broken 3 ∷ idle_part (starts_up (item b one) []) state.Installed 0 ∷ []))

-- beside it stands another that may begin, and it is up
abbrev pub beside_up : Origin → SessionState
beside_up o = state_at (device_of o (old_a ∷ []) (Some (pending_in stages.Activating (plan_of (new_a ∷ item b one ∷ []) []) no_failures)))
    (world_of (running_part (runs new_a [] []) 7 ∷ idle_part (starts_up (item b one) []) state.Installed 0 ∷ []))

-- a call begins with so many recorded failures
abbrev pub resumed : Origin → ℕ → SessionState
resumed o n = call_begins (device_of o (old_a ∷ []) (Some (pending_in stages.Activating (plan_of (new_a ∷ []) []) (counts_of n))))

abbrev pub failures_of : List ComponentState → List ℕ
failures_of [] = []
failures_of (p ∷ ps) = p.life.failures ∷ failures_of ps

abbrev pub failures_in : SessionState → List ℕ
failures_in p = failures_of p.world.parts

abbrev pub booting_with : Origin → Device
booting_with o = device_of o [] (Some (pending_in stages.Booting (plan_of (new_a ∷ []) []) no_failures))

-- its startup lives
abbrev pub starting : Origin → SessionState
starting o = state_at (device_of o (old_a ∷ []) (Some (pending_in stages.Activating (plan_of (new_a ∷ []) []) no_failures)))
    (world_of (starting_part new_up 7 120000 ∷ []))
