-- Rows: failures and their records.
use Rattle.std.specs.Prelude.{◌∷◌, [], true, false, List, Some, None, codes}
use Rattle.nuc_base.specs.declared.kinds.Step.TheVariants as step
use Rattle.nuc_base.specs.declared.kinds.Exit.TheVariants as exits
use Rattle.nuc_base.specs.declared.kinds.Outcome.TheVariants as outcomes
use Rattle.nuc_base.specs.declared.kinds.Policy.TheVariants as policies
use Rattle.lifecycle.specs.declared.kinds.After.TheVariants as after
use Rattle.lifecycle.specs.declared.kinds.LifeEvent.TheVariants as event
use Rattle.records.specs.Stored.{Item, Accepted, Activating}
use Rattle.records.specs.declared.record.Origin.{Origin}
use Rattle.device.specs.Lawful.{no_failures}
use Rattle.device.specs.declared.staged.Stage.TheVariants as stages
use Rattle.components.specs.Fitted.{Fitted}
use Rattle.histories.specs.TraceEvents.{TraceEvent, Recorded, Moved, ReadClock, Heard, InboxAsked, Changed, StopsAll, document, nothing}
use Rattle.histories.specs.States.{SessionState, state_after}
use Rattle.history_rows.specs.Rows.{item, runs, starts_up, device_of, pending_in, plan_of, call_begins, serve_begins, asked, not_asked, good, bad, a, b, one}
use Rattle.history_rows.specs.Words.{begins, starts, refuses, dies, kills, passes, gives_up, closes, fails, counts_of}

abbrev pub item_a : Item
item_a = item a one

abbrev pub item_b : Item
item_b = item b one

abbrev pub up_a : Fitted
up_a = starts_up item_a []

abbrev pub run_a : Fitted
run_a = runs item_a [] []

abbrev pub both : List Item
both = item_a ∷ item_b ∷ []

abbrev pub both_up : List Fitted
both_up = up_a ∷ starts_up item_b [] ∷ []

-- `deploy` begins on a device without components
abbrev pub fresh : Origin → SessionState
fresh o = call_begins (device_of o [] None)

-- ---- a failure and a success

abbrev pub again_taken : List TraceEvent
again_taken = Recorded Activating ∷ Recorded (Accepted (plan_of (item_a ∷ []) [])) ∷ []

abbrev pub after_again_taken : Origin → SessionState
after_again_taken o = state_after (fresh o) again_taken

abbrev pub again : List TraceEvent
again = Changed (up_a ∷ []) no_failures false ∷ []

abbrev pub after_again : Origin → SessionState
after_again o = state_after (after_again_taken o) again

abbrev pub again_fails : List TraceEvent
again_fails =
    ReadClock 2 ∷ dies (not_asked 0) 0 0 step.Startup bad 120000 ∷ starts (asked 0) 0 0 step.Startup (codes "s") ∷ ReadClock 0 ∷ begins 0
    ∷ begins 0 ∷ []

abbrev pub after_again_fails : Origin → SessionState
after_again_fails o = state_after (after_again o) again_fails

abbrev pub again_tries : List TraceEvent
again_tries =
    closes outcomes.Successful ∷ dies (not_asked 2) 1 0 step.Startup good 120000 ∷ starts (asked 2) 1 0 step.Startup (codes "s")
    ∷ begins 0 ∷ Moved 0 event.Retry ∷ fails a step.Startup bad ∷ []

abbrev pub after_again_tries : Origin → SessionState
after_again_tries o = state_after (after_again_fails o) again_tries

abbrev pub again_stops : List TraceEvent
again_stops = Moved 0 (event.Stop after.Gone) ∷ StopsAll ∷ []

abbrev pub after_again_stops : Origin → SessionState
after_again_stops o = state_after (after_again_tries o) again_stops

-- ---- a call whose record of a failure fails

abbrev pub giving_taken : List TraceEvent
giving_taken = Recorded Activating ∷ Recorded (Accepted (plan_of both [])) ∷ []

abbrev pub after_giving_taken : Origin → SessionState
after_giving_taken o = state_after (fresh o) giving_taken

abbrev pub giving : List TraceEvent
giving = Changed both_up no_failures false ∷ []

abbrev pub after_giving : Origin → SessionState
after_giving o = state_after (after_giving_taken o) giving

abbrev pub giving_fails : List TraceEvent
giving_fails =
    dies (not_asked 0) 0 0 step.Startup bad 120000 ∷ starts (not_asked 0) 1 1 step.Startup (codes "s") ∷ begins 1 ∷ begins 1
    ∷ starts (asked 0) 0 0 step.Startup (codes "s") ∷ ReadClock 0 ∷ begins 0 ∷ begins 0 ∷ []

abbrev pub after_giving_fails : Origin → SessionState
after_giving_fails o = state_after (after_giving o) giving_fails

abbrev pub giving_cuts : List TraceEvent
giving_cuts = gives_up (asked 2) 1 ∷ ReadClock 2 ∷ []

abbrev pub after_giving_cuts : Origin → SessionState
after_giving_cuts o = state_after (after_giving_fails o) giving_cuts

-- ---- two that are late together, under DO_NOTHING

-- `resume` begins, and a failed twice
abbrev pub resumes : Origin → SessionState
resumes o = call_begins (device_of o [] (Some (pending_in stages.Activating (record (plan_of both []) { policy = policies.DoNothing }) (counts_of 2))))

abbrev pub late : List TraceEvent
late = Changed both_up (counts_of 2) false ∷ []

abbrev pub after_late : Origin → SessionState
after_late o = state_after (resumes o) late

abbrev pub late_starts : List TraceEvent
late_starts =
    ReadClock 120000 ∷ passes (not_asked 0) 120000 ∷ starts (not_asked 0) 1 1 step.Startup (codes "s") ∷ begins 1 ∷ begins 1
    ∷ starts (asked 0) 0 0 step.Startup (codes "s") ∷ ReadClock 0 ∷ begins 0 ∷ begins 0 ∷ []

abbrev pub after_late_starts : Origin → SessionState
after_late_starts o = state_after (after_late o) late_starts

abbrev pub late_fails : List TraceEvent
late_fails = closes outcomes.RollbackNotRequested ∷ fails a step.Startup exits.TimedOut ∷ kills (asked 120000) 0 0 step.Startup ∷ []

abbrev pub after_late_fails : Origin → SessionState
after_late_fails o = state_after (after_late_starts o) late_fails

abbrev pub late_stops : List TraceEvent
late_stops = Moved 1 (event.Stop after.Gone) ∷ kills (not_asked 120000) 1 1 step.Startup ∷ Moved 0 (event.Stop after.Gone) ∷ StopsAll ∷ []

abbrev pub after_late_stops : Origin → SessionState
after_late_stops o = state_after (after_late_fails o) late_stops

-- ---- two refused starts, and a later failure

abbrev pub serves_none : Origin → SessionState
serves_none o = serve_begins 3 (device_of o [] None)

abbrev pub later : List TraceEvent
later = Recorded Activating ∷ Recorded (Accepted (plan_of (item_a ∷ []) [])) ∷ InboxAsked document ∷ Changed [] no_failures true ∷ []

abbrev pub after_later : Origin → SessionState
after_later o = state_after (serves_none o) later

abbrev pub later_changes : List TraceEvent
later_changes = Changed (run_a ∷ []) no_failures false ∷ []

abbrev pub after_later_changes : Origin → SessionState
after_later_changes o = state_after (after_later o) later_changes

abbrev pub later_refused : List TraceEvent
later_refused =
    fails a step.Run exits.NotStarted ∷ refuses (not_asked 0) 0 step.Run (codes "r") ∷ begins 0 ∷ Moved 0 event.Retry
    ∷ fails a step.Run exits.NotStarted ∷ refuses (asked 0) 0 step.Run (codes "r") ∷ ReadClock 0 ∷ begins 0 ∷ begins 0 ∷ []

abbrev pub after_later_refused : Origin → SessionState
after_later_refused o = state_after (after_later_changes o) later_refused

abbrev pub later_runs : List TraceEvent
later_runs = closes outcomes.Successful ∷ starts (not_asked 0) 0 0 step.Run (codes "r") ∷ begins 0 ∷ Moved 0 event.Retry ∷ []

abbrev pub after_later_runs : Origin → SessionState
after_later_runs o = state_after (after_later_refused o) later_runs

abbrev pub later_fails : List TraceEvent
later_fails = Heard 0 ∷ ReadClock 7 ∷ dies (not_asked 0) 0 0 step.Run bad 1000 ∷ InboxAsked nothing ∷ []

abbrev pub after_later_fails : Origin → SessionState
after_later_fails o = state_after (after_later_runs o) later_fails

abbrev pub later_again : List TraceEvent
later_again =
    kills (asked 1007) 1 0 step.Run ∷ StopsAll ∷ ReadClock 1007 ∷ passes (not_asked 7) 1000 ∷ InboxAsked nothing
    ∷ starts (asked 7) 1 0 step.Run (codes "r") ∷ begins 0 ∷ Moved 0 event.Retry ∷ []

abbrev pub after_later_again : Origin → SessionState
after_later_again o = state_after (after_later_fails o) later_again
