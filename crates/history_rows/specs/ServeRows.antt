-- Rows: several components, their needs, and a change of one while serving.
use Rattle.std.specs.Prelude.{◌∷◌, [], ◌++◌, ℕ, true, false, List, Some, None, codes}
use Rattle.nuc_base.specs.declared.kinds.Step.TheVariants as step
use Rattle.nuc_base.specs.declared.kinds.Outcome.TheVariants as outcomes
use Rattle.lifecycle.specs.declared.kinds.LifeEvent.TheVariants as event
use Rattle.lifecycle.specs.declared.kinds.State.TheVariants as state
use Rattle.records.specs.Stored.{Item, Accepted, Activating, Closed}
use Rattle.records.specs.declared.record.Origin.{Origin}
use Rattle.step_runner.specs.declared.entries.Seen.TheVariants as seen
use Rattle.device.specs.Devices.{Device}
use Rattle.device.specs.Lawful.{no_failures}
use Rattle.device.specs.declared.staged.Stage.TheVariants as stages
use Rattle.components.specs.Fitted.{Fitted}
use Rattle.components.specs.Components.{Components, ComponentState}
use Rattle.histories.specs.TraceEvents.{TraceEvent, Ran, WaitElapsed, Recorded, Moved, ReadClock, InboxAsked, Changed, StopsAll, document, nothing, closed}
use Rattle.histories.specs.States.{SessionState, state_after}
use Rattle.history_rows.specs.Rows.{item, set_up, runs, starts_up, script, device_of, pending_in, plan_of, state_at, call_begins, serve_begins, world_of}
use Rattle.history_rows.specs.Rows.{idle_part, starting_part, owing_part, asked, not_asked, a, b, c, one}

abbrev pub item_d : Item
item_d = item a one

abbrev pub changed_d : Item
changed_d = set_up item_d

abbrev pub item_h : Item
item_h = item b one

abbrev pub item_s : Item
item_s = item c one

-- b needs a, and c needs it softly
abbrev pub up_h : Fitted
up_h = runs item_h (a ∷ []) []

abbrev pub up_s : Fitted
up_s = runs item_s [] (a ∷ [])

abbrev pub old_fitted : List Fitted
old_fitted = runs item_d [] [] ∷ up_h ∷ up_s ∷ []

abbrev pub new_items : List Item
new_items = changed_d ∷ item_h ∷ item_s ∷ []

abbrev pub new_fitted : List Fitted
new_fitted = runs changed_d [] [] ∷ up_h ∷ up_s ∷ []

-- the three run, and their set is to change
abbrev pub set_device : Origin → Device
set_device o = device_of o (item_d ∷ item_h ∷ item_s ∷ []) None

abbrev pub serve_three : Origin → SessionState
serve_three o = serve_begins 3 (set_device o)

-- the set comes up
abbrev pub brings_up : List Fitted → List TraceEvent
brings_up made = Changed made no_failures true ∷ []

abbrev pub start_run : ℕ → ℕ → List TraceEvent
start_run n k = Ran (not_asked 0 (seen.Started n (script (codes "r")))) k step.Run ∷ Moved k event.MayBegin ∷ []

abbrev pub begin_run : ℕ → ℕ → List TraceEvent
begin_run n k = start_run n k ++ (Moved k event.MayBegin ∷ [])

abbrev pub first_run : List TraceEvent
first_run = Ran (asked 0 (seen.Started 0 (script (codes "r")))) 0 step.Run ∷ Moved 0 event.MayBegin ∷ Moved 0 event.MayBegin ∷ ReadClock 0 ∷ []

abbrev pub set_opened : Origin → SessionState
set_opened o = state_after (serve_three o) (brings_up old_fitted)

abbrev pub one_up : Origin → SessionState
one_up o = state_after (set_opened o) first_run

abbrev pub two_up : Origin → SessionState
two_up o = state_after (one_up o) (begin_run 1 1)

abbrev pub all_up : Origin → SessionState
all_up o = state_after (two_up o) (begin_run 2 2)

-- a document comes, which changes a
abbrev pub takes : List TraceEvent
takes = Recorded Activating ∷ Recorded (Accepted (plan_of new_items [])) ∷ InboxAsked document ∷ []

abbrev pub serving : Origin → SessionState
serving o = state_after (all_up o) takes

abbrev pub changes : List Fitted → List TraceEvent
changes made = Changed made no_failures false ∷ []

abbrev pub changing : Origin → SessionState
changing o = state_after (serving o) (changes new_fitted)

abbrev pub stops_two : List TraceEvent
stops_two = Ran (not_asked 0 (seen.Killed 0)) 0 step.Run ∷ Ran (not_asked 0 (seen.Killed 1)) 1 step.Run ∷ []

abbrev pub stopped_two : Origin → SessionState
stopped_two o = state_after (changing o) stops_two

abbrev pub started_first : Origin → SessionState
started_first o = state_after (stopped_two o) (begin_run 3 0)

abbrev pub starts_second : List TraceEvent
starts_second = Recorded (Closed outcomes.Successful) ∷ start_run 4 1

abbrev pub served : Origin → SessionState
served o = state_after (started_first o) starts_second

-- the inbox is closed, and all are stopped
abbrev pub stops_three : List TraceEvent
stops_three =
    Ran (not_asked 0 (seen.Killed 2)) 2 step.Run ∷ Ran (not_asked 0 (seen.Killed 3)) 0 step.Run ∷ Ran (not_asked 0 (seen.Killed 4)) 1 step.Run
    ∷ StopsAll ∷ InboxAsked closed ∷ []

abbrev pub serve_over : Origin → SessionState
serve_over o = state_after (served o) stops_three

-- ---- an empty set, and an inbox that has nothing

abbrev pub serve_none : ℕ → Origin → SessionState
serve_none turns o = serve_begins turns (device_of o [] None)

abbrev pub none_opened : ℕ → Origin → SessionState
none_opened turns o = state_after (serve_none turns o) (ReadClock 0 ∷ Changed [] no_failures true ∷ [])

-- one turn
abbrev pub turn_passes : List TraceEvent
turn_passes = ReadClock 1000 ∷ WaitElapsed (asked 0 (seen.Elapsed 1000)) ∷ InboxAsked nothing ∷ []

abbrev pub turn_more : List TraceEvent
turn_more = ReadClock 2000 ∷ WaitElapsed (asked 1000 (seen.Elapsed 1000)) ∷ InboxAsked nothing ∷ []

abbrev pub one_turn : Origin → SessionState
one_turn o = state_after (none_opened 2 o) turn_passes

abbrev pub two_turns : Origin → SessionState
two_turns o = state_after (one_turn o) turn_more

-- ---- a pending deployment that `serve` finishes

-- a is up by a startup step, and is closed
abbrev pub finishing : Origin → SessionState
finishing o = state_after (record (state_at (device_of o [] (Some (pending_in stages.Activating (plan_of (item_d ∷ []) []) no_failures)))
    (world_of (idle_part (starts_up item_d []) state.Running 0 ∷ []))) { serves = true; turns = 2 }) (Recorded (Closed outcomes.Successful) ∷ [])

-- a plan whose bootstrap failed, with no component left
abbrev pub closed_without : Origin → SessionState
closed_without o = state_after (record (call_begins (device_of o []
    (Some (record (pending_in stages.Booting (plan_of (item_d ∷ []) (a ∷ [])) no_failures) { begun = true; boot_failed = true })))) {
      serves = true;
      turns =
          2;
    })
    (Recorded (Closed outcomes.RollbackNotRequested) ∷ [])

-- ---- two that start

abbrev pub two_device : Origin → Device
two_device o = device_of o [] (Some (pending_in stages.Activating (plan_of (item_d ∷ item_h ∷ []) []) no_failures))

-- a starts, and b needs it
abbrev pub needed_starts : Origin → SessionState
needed_starts o = state_at (two_device o) (world_of (starting_part (starts_up item_d []) 0 120000 ∷ idle_part up_h state.Installed 0 ∷ []))

-- a starts, and b does not need it
abbrev pub other_starts : Origin → SessionState
other_starts o = state_at (two_device o) (world_of (starting_part (starts_up item_d []) 0 120000 ∷ idle_part (runs item_h [] []) state.Installed 0 ∷ []))

-- both may begin
abbrev pub both_wait : Origin → SessionState
both_wait o = state_at (two_device o) (world_of (idle_part (runs item_d [] []) state.Installed 0 ∷ idle_part (runs item_h [] []) state.Installed 0 ∷ []))

-- b, which is installed, needs this one softly, or hard
abbrev pub softly : ComponentState → List ComponentState
softly p = p ∷ idle_part (runs item_h [] (a ∷ [])) state.Installed 0 ∷ []

abbrev pub hardly : ComponentState → List ComponentState
hardly p = p ∷ idle_part up_h state.Installed 0 ∷ []

abbrev pub beside : Origin → List ComponentState → SessionState
beside o parts = state_at (two_device o) (world_of parts)

-- ---- a call that serves

-- the set has one component
abbrev pub serve_state : Origin → SessionState
serve_state o = serve_begins 2 (device_of o (item_d ∷ []) None)

-- ---- a component fails

abbrev pub failing : Components
failing = world_of (owing_part (starts_up item_d []) ∷ [])

-- where nothing is pending
abbrev pub fails_serving : Origin → SessionState
fails_serving o = record (state_at (device_of o (item_d ∷ []) None) (record failing { steady = true })) { serves = true; opened = true; turns = 2 }

-- and in a deployment
abbrev pub fails_driven : Origin → SessionState
fails_driven o = state_at (two_device o) failing
