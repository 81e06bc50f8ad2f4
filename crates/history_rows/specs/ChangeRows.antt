-- Rows: texts that change for one that stays, a child that outlives its shutdown, and who is stopped because of a failure.
use Rattle.std.specs.Prelude.{◌∷◌, [], ℕ, true, false, List, length, Option, Some, None, codes, replicate}
use Rattle.nuc_base.specs.declared.kinds.Step.{Step}
use Rattle.nuc_base.specs.declared.kinds.Step.TheVariants as step
use Rattle.nuc_base.specs.declared.kinds.Exit.{Exit}
use Rattle.lifecycle.specs.Life.{begun}
use Rattle.lifecycle.specs.declared.kinds.After.{After}
use Rattle.lifecycle.specs.declared.kinds.After.TheVariants as after
use Rattle.lifecycle.specs.declared.kinds.LifeEvent.TheVariants as event
use Rattle.lifecycle.specs.declared.kinds.State.TheVariants as state
use Rattle.records.specs.Stored.{Item}
use Rattle.records.specs.declared.record.Origin.{Origin}
use Rattle.step_runner.specs.declared.entries.Seen.TheVariants as seen
use Rattle.device.specs.Lawful.{no_failures}
use Rattle.device.specs.declared.staged.Stage.TheVariants as stages
use Rattle.components.specs.Fitted.{Fitted, steps_of}
use Rattle.components.specs.Components.{ComponentState, Components}
use Rattle.components.specs.Lives.{lived_at}
use Rattle.components.specs.Changes.{changed_to}
use Rattle.components.specs.Events.{handed_at}
use Rattle.components.specs.declared.kinds.Prepared.{Prepared}
use Rattle.histories.specs.TraceEvents.{TraceEvent, Ran, Moved, ReadClock, Changed}
use Rattle.histories.specs.Phases.{draining}
use Rattle.histories.specs.States.{SessionState, state_after}
use Rattle.history_rows.specs.Rows.{item, made, bare, runs, device_of, pending_in, plan_of, state_at, before_change, world_of, idle_part, running_part}
use Rattle.history_rows.specs.Rows.{starting_part, owing_part, starts_up, asked, not_asked, ends, good, bad, a, b, c, one, two}

-- ---- texts that change

abbrev pub item_a : Item
item_a = item a one

-- what it needs softly has another configuration now
abbrev pub other_text : Fitted
other_text = record (bare item_a [] []) { run = Some (made (codes "x") None) }

abbrev pub stays : Origin → SessionState
stays o = before_change (device_of o (item_a ∷ []) (Some (pending_in stages.Activating (plan_of (item_a ∷ []) []) no_failures)))
    (world_of (idle_part (runs item_a [] []) state.Installed 0 ∷ []))

abbrev pub has_other_text : Origin → SessionState
has_other_text o = state_after (stays o) (Changed (other_text ∷ []) no_failures false ∷ [])

abbrev pub begins_again : Origin → SessionState
begins_again o = state_after (has_other_text o) (Moved 0 event.MayBegin ∷ [])

-- ---- a run child that outlives the shutdown

abbrev pub shuts : Item → List (List ℕ) → Fitted
shuts i hard = record (runs i hard []) { shutdown = Some (made (codes "q") (Some 15000)) }

abbrev pub shutting_part : Fitted → ℕ → ℕ → ComponentState
shutting_part f n m = record (idle_part f state.Stopping 0) {
  life = record (begun (steps_of f) 0) { state = state.Stopping; runs = true; busy = Some step.Shutdown; stop = Some after.Gone };
  children = record { number = m; of = step.Shutdown; deadline = Some 15000 } ∷ record { number = n; of = step.Run; deadline = None } ∷ [];
}

-- b needs a and shuts down, and a is to be stopped too
abbrev pub shutting : Origin → SessionState
shutting o = record (state_at (device_of o [] (Some (pending_in stages.Booting (plan_of [] []) no_failures)))
    (world_of (record (running_part (runs (item a one) [] []) 0) { stop = Some after.Gone } ∷ shutting_part (shuts (item b one) (a ∷ [])) 1 2 ∷ [])))
    { generation = draining }

abbrev pub shut_down : Origin → SessionState
shut_down o = state_after (shutting o) (ReadClock 5 ∷ Ran (asked 0 (ends good 2 15000)) 1 step.Shutdown ∷ [])

-- the child that is left, and only then what it needed
abbrev pub stops_rest : List TraceEvent
stops_rest = Ran (not_asked 5 (seen.Killed 0)) 0 step.Run ∷ Ran (asked 5 (seen.Killed 1)) 1 step.Run ∷ []

-- ---- a failure, and those that need the one that failed

-- a fails; b needs it and runs, c needs b and starts
abbrev pub three : Components
three = world_of (running_part (runs (item a one) [] []) 0 ∷ running_part (runs (item b one) (a ∷ []) []) 1 ∷
    starting_part (starts_up (item c one) (b ∷ [])) 2 120000 ∷ [])

abbrev pub one_failed : Components
one_failed = lived_at 0 (event.Ended step.Run bad) three

abbrev pub stops_of : List ComponentState → List (Option After)
stops_of [] = []
stops_of (p ∷ ps) = p.stop ∷ stops_of ps

-- ---- one that goes away and comes again

-- it runs, and is to go away
abbrev pub going : Components
going = world_of (record (running_part (runs item_a [] []) 0) { stop = Some after.Gone } ∷ [])

-- another version
abbrev pub newer : Fitted
newer = runs (item a two) [] []

-- it is gone, and its child is not
abbrev pub left_child : Components
left_child = world_of (record (running_part (runs item_a [] []) 1) { life = record (begun (steps_of (runs item_a [] [])) 0) { gone = true } } ∷ [])

abbrev pub script_of : Option Prepared → List ℕ
script_of None = []
script_of (Some m) = m.command.script

-- the scripts of the run steps
abbrev pub scripts_of : List ComponentState → List (List ℕ)
scripts_of [] = []
scripts_of (p ∷ ps) = script_of p.fitted.run ∷ scripts_of ps

abbrev pub children_of : List ComponentState → List ℕ
children_of [] = []
children_of (p ∷ ps) = length p.children ∷ children_of ps

-- ---- a new one that needs a replaced one

-- a and b run; a is replaced, b goes away, and c comes, which needs a
abbrev pub replaced_one : Components
replaced_one = changed_to (newer ∷ runs (item c one) (a ∷ []) [] ∷ []) no_failures false
    (world_of (running_part (runs item_a [] []) 0 ∷ running_part (runs (item b one) [] []) 1 ∷ []))

-- a and b run, and b needs a, which is replaced
abbrev pub needed_one : Components
needed_one = changed_to (newer ∷ runs (item b one) (a ∷ []) [] ∷ []) no_failures false
    (world_of (running_part (runs item_a [] []) 0 ∷ running_part (runs (item b one) (a ∷ []) []) 1 ∷ []))

-- ---- failures where nothing is driven

abbrev pub owing : Components
owing = world_of (owing_part (starts_up item_a []) ∷ [])

abbrev pub counts : ℕ → List ℕ
counts n = n ∷ replicate 127 0

abbrev pub counts_of : List ComponentState → List ℕ
counts_of [] = []
counts_of (p ∷ ps) = p.life.failures ∷ counts_of ps

abbrev pub next_count : Option (Fitted × ℕ) → ℕ
next_count None = 9
next_count (Some n) = n.1

abbrev pub next_counts : List ComponentState → List ℕ
next_counts [] = []
next_counts (p ∷ ps) = next_count p.next ∷ next_counts ps

-- its startup lives, and nothing is driven
abbrev pub steady_start : Components
steady_start = record (world_of (starting_part (starts_up item_a []) 0 120000 ∷ [])) { steady = true }

-- its startup lives, and it is to be stopped
abbrev pub stopping_start : After → Components
stopping_start how = world_of (record (starting_part (starts_up item_a []) 0 120000) { stop = Some how } ∷ [])

abbrev pub owed_of : List ComponentState → List (Option (Step × Exit))
owed_of [] = []
owed_of (p ∷ ps) = p.owed ∷ owed_of ps

-- ---- two starts at once

abbrev pub both : Components
both = world_of (idle_part (runs item_a [] []) state.Installed 0 ∷ idle_part (runs (item b one) [] []) state.Installed 0 ∷ [])

abbrev pub both_begun_first : Components
both_begun_first = lived_at 0 event.MayBegin both

abbrev pub both_begun : Components
both_begun = lived_at 1 event.MayBegin (handed_at 0 both_begun_first)
