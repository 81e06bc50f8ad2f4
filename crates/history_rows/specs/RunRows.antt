-- Rows: one component with a run step, a step that is skipped, limits of steps.
use Rattle.std.specs.Prelude.{◌∷◌, [], ◌++◌, ℕ, true, false, List, Some, codes, replicate}
use Rattle.nuc_base.specs.declared.kinds.Step.TheVariants as step
use Rattle.nuc_base.specs.declared.kinds.Exit.TheVariants as exits
use Rattle.nuc_base.specs.declared.kinds.Outcome.TheVariants as outcomes
use Rattle.lifecycle.specs.declared.kinds.After.TheVariants as after
use Rattle.lifecycle.specs.declared.kinds.LifeEvent.TheVariants as event
use Rattle.lifecycle.specs.declared.kinds.State.{State}
use Rattle.lifecycle.specs.declared.kinds.State.TheVariants as state
use Rattle.records.specs.Stored.{Item, StepFailed, Failing, Closed, Activating}
use Rattle.records.specs.declared.record.Origin.{Origin}
use Rattle.step_runner.specs.declared.entries.Seen.TheVariants as seen
use Rattle.device.specs.Lawful.{no_failures}
use Rattle.device.specs.declared.staged.Stage.TheVariants as stages
use Rattle.components.specs.Fitted.{Fitted}
use Rattle.histories.specs.TraceEvents.{TraceEvent, Ran, WaitElapsed, Recorded, Moved, ReadClock, Changed, StopsAll}
use Rattle.histories.specs.States.{SessionState, state_after}
use Rattle.history_rows.specs.Rows.{item, made, bare, idle_part, runs, starts_up, skipping, script, device_of, pending_in, plan_of, state_at, call_begins}
use Rattle.history_rows.specs.Rows.{world_of, starting_part, asked, not_asked, ends, good, a, one}

-- ---- a component with a run step

abbrev pub hello : Item
hello = item a one

abbrev pub hello_up : Fitted
hello_up = runs hello [] []

abbrev pub hello_accepted : Origin → SessionState
hello_accepted o = call_begins (device_of o [] (Some (pending_in stages.Booting (plan_of (hello ∷ []) []) no_failures)))

abbrev pub activates : List Fitted → List TraceEvent
activates fs = Changed fs no_failures false ∷ Recorded Activating ∷ []

abbrev pub hello_moves : List TraceEvent
hello_moves = Moved 0 event.MayBegin ∷ Moved 0 event.MayBegin ∷ []

abbrev pub hello_begins : List TraceEvent
hello_begins = hello_moves ++ activates (hello_up ∷ [])

abbrev pub hello_starts : List TraceEvent
hello_starts = Ran (asked 0 (seen.Started 0 (script (codes "r")))) 0 step.Run ∷ ReadClock 0 ∷ []

abbrev pub hello_ends : List TraceEvent
hello_ends = Ran (not_asked 0 (seen.Killed 0)) 0 step.Run ∷ StopsAll ∷ Recorded (Closed outcomes.Successful) ∷ []

abbrev pub hello_begun : Origin → SessionState
hello_begun o = state_after (hello_accepted o) hello_begins

abbrev pub hello_runs : Origin → SessionState
hello_runs o = state_after (hello_begun o) hello_starts

abbrev pub hello_changed : Origin → SessionState
hello_changed o = state_after (hello_accepted o) (activates (hello_up ∷ []))

-- ---- an install step with Skipif

abbrev pub skip_up : Fitted
skip_up = skipping hello

abbrev pub skip_begun : Origin → SessionState
skip_begun o = state_after (hello_accepted o) (Moved 0 event.MayBegin ∷ activates (skip_up ∷ []))

abbrev pub skips_it : List TraceEvent
skips_it = Recorded (Closed outcomes.Successful) ∷ Moved 0 event.MayBegin ∷ Ran (asked 0 (seen.Exists (codes "/opt/x") true)) 0 step.Install ∷ ReadClock 0 ∷ []

abbrev pub installs_it : List TraceEvent
installs_it = Ran (not_asked 0 (seen.Started 0 (script (codes "i")))) 0 step.Install ∷ Ran (asked 0 (seen.Exists (codes "/opt/x") false)) 0 step.Install ∷
    ReadClock 0 ∷ []

-- ---- the limit of a startup

abbrev pub up : Fitted
up = starts_up hello []

-- its startup was begun at 0
abbrev pub limited : Origin → SessionState
limited o = state_at (device_of o [] (Some (pending_in stages.Activating (plan_of (hello ∷ []) []) no_failures))) (world_of (starting_part up 0 120000 ∷ []))

abbrev pub in_time : List TraceEvent
in_time = Recorded (Closed outcomes.Successful) ∷ Ran (asked 0 (ends good 0 120000)) 0 step.Startup ∷ []

abbrev pub timed_out : List TraceEvent
timed_out = Ran (asked 120000 (seen.Killed 0)) 0 step.Startup ∷ ReadClock 120000 ∷ WaitElapsed (asked 0 (seen.Elapsed 120000)) ∷ []

abbrev pub too_late : List TraceEvent
too_late = Recorded (StepFailed a step.Startup exits.TimedOut) ∷ timed_out

-- the probe answers no, or yes
abbrev pub probed_no : List TraceEvent
probed_no = Ran (asked 0 (seen.Exists (codes "/opt/x") false)) 0 step.Install ∷ ReadClock 0 ∷ []

abbrev pub probed_yes : List TraceEvent
probed_yes = Ran (asked 0 (seen.Exists (codes "/opt/x") true)) 0 step.Install ∷ ReadClock 0 ∷ []

-- ---- a runner that refuses every start

-- with an install step
abbrev pub installing : Fitted
installing = record (bare hello [] []) { install = Some (made (codes "i") (Some 120000)) }

-- the component in this state, with so many recorded failures
abbrev pub refusing : Origin → State → ℕ → SessionState
refusing o s n = state_at (device_of o [] (Some (pending_in stages.Activating (plan_of (hello ∷ []) []) (n ∷ replicate 127 0))))
    (world_of (idle_part installing s n ∷ []))

-- its start is refused
abbrev pub is_refused : List TraceEvent
is_refused = Ran (asked 0 (seen.Refused (script (codes "i")))) 0 step.Install ∷ Moved 0 event.MayBegin ∷ []

abbrev pub records_refusal : List TraceEvent
records_refusal = Recorded (StepFailed a step.Install exits.NotStarted) ∷ []

-- and tried again
abbrev pub refused_again : List TraceEvent
refused_again = Ran (not_asked 0 (seen.Refused (script (codes "i")))) 0 step.Install ∷ Moved 0 event.MayBegin ∷ Moved 0 event.Retry ∷ []

abbrev pub refused_once : Origin → SessionState
refused_once o = state_after (refusing o state.New 0) is_refused

abbrev pub recorded_once : Origin → SessionState
recorded_once o = state_after (refused_once o) records_refusal

abbrev pub refused_twice : Origin → SessionState
refused_twice o = state_after (recorded_once o) refused_again

abbrev pub recorded_twice : Origin → SessionState
recorded_twice o = state_after (refused_twice o) records_refusal

abbrev pub refused_thrice : Origin → SessionState
refused_thrice o = state_after (recorded_twice o) refused_again

abbrev pub recorded_thrice : Origin → SessionState
recorded_thrice o = state_after (refused_thrice o) records_refusal

-- nothing was there before
abbrev pub goes_back : List TraceEvent
goes_back =
    Recorded (Closed outcomes.RollbackComplete) ∷ Changed [] no_failures false ∷ Moved 0 (event.Stop after.Gone) ∷ StopsAll ∷ Recorded (Failing a) ∷ []
