-- Rows: moments, deadlines and waits.
use Rattle.std.specs.Prelude.{◌∷◌, [], true, false, List, Some, None, codes}
use Rattle.nuc_base.specs.declared.kinds.Step.TheVariants as step
use Rattle.nuc_base.specs.declared.kinds.Exit.TheVariants as exits
use Rattle.nuc_base.specs.declared.kinds.Outcome.TheVariants as outcomes
use Rattle.lifecycle.specs.declared.kinds.After.TheVariants as after
use Rattle.lifecycle.specs.declared.kinds.LifeEvent.TheVariants as event
use Rattle.records.specs.Stored.{Item, Accepted, Activating, Failing}
use Rattle.records.specs.declared.record.Origin.{Origin}
use Rattle.device.specs.Lawful.{no_failures}
use Rattle.device.specs.declared.staged.Stage.TheVariants as stages
use Rattle.components.specs.Fitted.{Fitted}
use Rattle.histories.specs.TraceEvents.{TraceEvent, Recorded, Moved, ReadClock, InboxAsked, Changed, StopsAll, document, nothing}
use Rattle.histories.specs.States.{SessionState, state_after}
use Rattle.history_rows.specs.Rows.{item, made, bare, runs, starts_up, device_of, pending_in, plan_of, call_begins, serve_begins, asked, not_asked, good, bad}
use Rattle.history_rows.specs.Rows.{a, b, one}
use Rattle.history_rows.specs.Words.{begins, starts, dies, kills, closes, fails, shuts, counts_of}

abbrev pub item_a : Item
item_a = item a one

abbrev pub item_b : Item
item_b = item b one

abbrev pub up_a : Fitted
up_a = starts_up item_a []

abbrev pub up_b : Fitted
up_b = starts_up item_b []

abbrev pub both : List Item
both = item_a ∷ item_b ∷ []

abbrev pub both_up : List Fitted
both_up = up_a ∷ up_b ∷ []

-- `deploy` begins on a device without components
abbrev pub fresh : Origin → SessionState
fresh o = call_begins (device_of o [] None)

-- ---- a component with a shutdown step

abbrev pub single_taken : List TraceEvent
single_taken = Recorded Activating ∷ Recorded (Accepted (plan_of (item_a ∷ []) [])) ∷ []

abbrev pub after_single_taken : Origin → SessionState
after_single_taken o = state_after (fresh o) single_taken

abbrev pub single : List TraceEvent
single = Changed (shuts item_a [] ∷ []) no_failures false ∷ []

abbrev pub after_single : Origin → SessionState
after_single o = state_after (after_single_taken o) single

abbrev pub single_starts : List TraceEvent
single_starts = starts (asked 0) 0 0 step.Startup (codes "s") ∷ ReadClock 0 ∷ begins 0 ∷ begins 0 ∷ []

abbrev pub after_single_starts : Origin → SessionState
after_single_starts o = state_after (after_single o) single_starts

abbrev pub single_stops : List TraceEvent
single_stops =
    dies (not_asked 5) 1 0 step.Shutdown good 15000 ∷ starts (asked 5) 1 0 step.Shutdown (codes "q") ∷ Moved 0 (event.Stop after.Gone)
    ∷ StopsAll ∷ closes outcomes.Successful ∷ ReadClock 5 ∷ dies (not_asked 0) 0 0 step.Startup good 120000 ∷ []

abbrev pub after_single_stops : Origin → SessionState
after_single_stops o = state_after (after_single_starts o) single_stops

-- ---- two components that start

abbrev pub pair_taken : List TraceEvent
pair_taken = Recorded Activating ∷ Recorded (Accepted (plan_of both [])) ∷ []

abbrev pub after_pair_taken : Origin → SessionState
after_pair_taken o = state_after (fresh o) pair_taken

abbrev pub pair : List TraceEvent
pair = Changed both_up no_failures false ∷ []

abbrev pub after_pair : Origin → SessionState
after_pair o = state_after (after_pair_taken o) pair

abbrev pub pair_starts : List TraceEvent
pair_starts =
    starts (not_asked 0) 1 1 step.Startup (codes "s") ∷ begins 1 ∷ begins 1 ∷ starts (asked 0) 0 0 step.Startup (codes "s") ∷ ReadClock 0
    ∷ begins 0 ∷ begins 0 ∷ []

abbrev pub after_pair_starts : Origin → SessionState
after_pair_starts o = state_after (after_pair o) pair_starts

abbrev pub pair_ends : List TraceEvent
pair_ends = closes outcomes.Successful ∷ dies (asked 2) 1 1 step.Startup good 119998 ∷ ReadClock 2 ∷ dies (not_asked 0) 0 0 step.Startup good 120000 ∷ []

abbrev pub after_pair_ends : Origin → SessionState
after_pair_ends o = state_after (after_pair_starts o) pair_ends

abbrev pub pair_late : List TraceEvent
pair_late =
    closes outcomes.Successful ∷ dies (not_asked 120000) 2 0 step.Startup good 120000
    ∷ starts (not_asked 120000) 2 0 step.Startup (codes "s") ∷ begins 0 ∷ Moved 0 event.Retry ∷ fails a step.Startup exits.TimedOut
    ∷ kills (asked 120000) 0 0 step.Startup ∷ ReadClock 120000 ∷ dies (not_asked 0) 1 1 step.Startup good 120000 ∷ []

abbrev pub after_pair_late : Origin → SessionState
after_pair_late o = state_after (after_pair_starts o) pair_late

-- ---- one that failed twice before

-- `resume` begins, and a failed twice
abbrev pub resumes : Origin → SessionState
resumes o = call_begins (device_of o [] (Some (pending_in stages.Activating (plan_of both []) (counts_of 2))))

abbrev pub third : List TraceEvent
third = Changed both_up (counts_of 2) false ∷ []

abbrev pub after_third : Origin → SessionState
after_third o = state_after (resumes o) third

abbrev pub third_starts : List TraceEvent
third_starts =
    starts (not_asked 0) 1 1 step.Startup (codes "s") ∷ begins 1 ∷ begins 1 ∷ starts (asked 0) 0 0 step.Startup (codes "s") ∷ ReadClock 0
    ∷ begins 0 ∷ begins 0 ∷ []

abbrev pub after_third_starts : Origin → SessionState
after_third_starts o = state_after (after_third o) third_starts

abbrev pub third_fails : List TraceEvent
third_fails = fails a step.Startup bad ∷ ReadClock 2 ∷ dies (not_asked 0) 0 0 step.Startup bad 120000 ∷ []

abbrev pub after_third_fails : Origin → SessionState
after_third_fails o = state_after (after_third_starts o) third_fails

abbrev pub third_stops : List TraceEvent
third_stops = kills (asked 2) 1 1 step.Startup ∷ Moved 0 (event.Stop after.Gone) ∷ StopsAll ∷ Recorded (Failing a) ∷ []

abbrev pub after_third_stops : Origin → SessionState
after_third_stops o = state_after (after_third_fails o) third_stops

abbrev pub third_back : List TraceEvent
third_back = closes outcomes.RollbackComplete ∷ Changed [] no_failures false ∷ []

abbrev pub after_third_back : Origin → SessionState
after_third_back o = state_after (after_third_stops o) third_back

-- ---- `serve`, and a limit of one second

abbrev pub brief_b : Fitted
brief_b = record (bare item_b [] []) { startup = Some (made (codes "s") (Some 1000)) }

abbrev pub pair_brief : List Fitted
pair_brief = up_a ∷ brief_b ∷ []

abbrev pub serves_pair : Origin → SessionState
serves_pair o = serve_begins 2 (device_of o both None)

abbrev pub turns : List TraceEvent
turns = Changed pair_brief no_failures true ∷ []

abbrev pub after_turns : Origin → SessionState
after_turns o = state_after (serves_pair o) turns

abbrev pub turns_start : List TraceEvent
turns_start =
    starts (not_asked 0) 1 1 step.Startup (codes "s") ∷ begins 1 ∷ begins 1 ∷ starts (asked 0) 0 0 step.Startup (codes "s") ∷ ReadClock 0
    ∷ begins 0 ∷ begins 0 ∷ []

abbrev pub after_turns_start : Origin → SessionState
after_turns_start o = state_after (after_turns o) turns_start

abbrev pub turns_pass : List TraceEvent
turns_pass =
    dies (asked 400) 1 1 step.Startup good 600 ∷ InboxAsked nothing ∷ ReadClock 400 ∷ dies (not_asked 0) 0 0 step.Startup good 1000
    ∷ InboxAsked nothing ∷ []

abbrev pub after_turns_pass : Origin → SessionState
after_turns_pass o = state_after (after_turns_start o) turns_pass

abbrev pub turns_stop : List TraceEvent
turns_stop = Moved 1 (event.Stop after.Gone) ∷ Moved 0 (event.Stop after.Gone) ∷ StopsAll ∷ []

abbrev pub after_turns_stop : Origin → SessionState
after_turns_stop o = state_after (after_turns_pass o) turns_stop

-- ---- `serve`, and a document that adds a component

abbrev pub serves_a : Origin → SessionState
serves_a o = serve_begins 1 (device_of o (item_a ∷ []) None)

abbrev pub adds : List TraceEvent
adds = Changed (up_a ∷ []) no_failures true ∷ []

abbrev pub after_adds : Origin → SessionState
after_adds o = state_after (serves_a o) adds

abbrev pub adds_starts : List TraceEvent
adds_starts = starts (asked 0) 0 0 step.Startup (codes "s") ∷ ReadClock 0 ∷ begins 0 ∷ begins 0 ∷ []

abbrev pub after_adds_starts : Origin → SessionState
after_adds_starts o = state_after (after_adds o) adds_starts

abbrev pub adds_takes_taken : List TraceEvent
adds_takes_taken = Recorded Activating ∷ Recorded (Accepted (plan_of both [])) ∷ InboxAsked document ∷ []

abbrev pub after_adds_takes_taken : Origin → SessionState
after_adds_takes_taken o = state_after (after_adds_starts o) adds_takes_taken

abbrev pub adds_takes : List TraceEvent
adds_takes = Changed both_up no_failures false ∷ []

abbrev pub after_adds_takes : Origin → SessionState
after_adds_takes o = state_after (after_adds_takes_taken o) adds_takes

abbrev pub adds_comes : List TraceEvent
adds_comes =
    closes outcomes.Successful ∷ dies (asked 2) 1 1 step.Startup good 119998 ∷ ReadClock 2
    ∷ dies (not_asked 0) 0 0 step.Startup good 120000 ∷ starts (not_asked 0) 1 1 step.Startup (codes "s") ∷ begins 1 ∷ begins 1 ∷ []

abbrev pub after_adds_comes : Origin → SessionState
after_adds_comes o = state_after (after_adds_takes o) adds_comes

abbrev pub adds_stops : List TraceEvent
adds_stops = Moved 1 (event.Stop after.Gone) ∷ Moved 0 (event.Stop after.Gone) ∷ StopsAll ∷ []

abbrev pub after_adds_stops : Origin → SessionState
after_adds_stops o = state_after (after_adds_comes o) adds_stops

-- ---- a component with a run step

abbrev pub run_a : Fitted
run_a = runs item_a [] []

abbrev pub run_taken : List TraceEvent
run_taken = Recorded Activating ∷ Recorded (Accepted (plan_of (item_a ∷ []) [])) ∷ []

abbrev pub after_run_taken : Origin → SessionState
after_run_taken o = state_after (fresh o) run_taken

abbrev pub run : List TraceEvent
run = Changed (run_a ∷ []) no_failures false ∷ []

abbrev pub after_run : Origin → SessionState
after_run o = state_after (after_run_taken o) run

abbrev pub run_starts : List TraceEvent
run_starts = starts (asked 0) 0 0 step.Run (codes "r") ∷ ReadClock 0 ∷ begins 0 ∷ begins 0 ∷ []

abbrev pub after_run_starts : Origin → SessionState
after_run_starts o = state_after (after_run o) run_starts

abbrev pub run_stops : List TraceEvent
run_stops = kills (not_asked 0) 0 0 step.Run ∷ StopsAll ∷ closes outcomes.Successful ∷ []

abbrev pub after_run_stops : Origin → SessionState
after_run_stops o = state_after (after_run_starts o) run_stops
