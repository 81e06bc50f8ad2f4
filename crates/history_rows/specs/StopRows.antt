-- Rows: who is stopped, why, and in which order.
use Rattle.std.specs.Prelude.{◌∷◌, [], true, false, List, Some, None, codes}
use Rattle.nuc_base.specs.declared.kinds.Step.TheVariants as step
use Rattle.nuc_base.specs.declared.kinds.Outcome.TheVariants as outcomes
use Rattle.lifecycle.specs.declared.kinds.After.TheVariants as after
use Rattle.lifecycle.specs.declared.kinds.LifeEvent.TheVariants as event
use Rattle.records.specs.Stored.{Item, Accepted, Activating}
use Rattle.records.specs.declared.record.Origin.{Origin}
use Rattle.device.specs.Lawful.{no_failures}
use Rattle.components.specs.Fitted.{Fitted}
use Rattle.histories.specs.TraceEvents.{TraceEvent, Recorded, Moved, ReadClock, InboxAsked, Changed, StopsAll, document, nothing}
use Rattle.histories.specs.States.{SessionState, state_after}
use Rattle.history_rows.specs.Rows.{item, made, bare, runs, starts_up, device_of, plan_of, call_begins, serve_begins, asked, not_asked, good, bad, a, b, one}
use Rattle.history_rows.specs.Rows.{two}
use Rattle.history_rows.specs.Words.{begins, starts, dies, kills, closes, fails, shuts}

abbrev pub item_a : Item
item_a = item a one

abbrev pub item_b : Item
item_b = item b one

abbrev pub newer_b : Item
newer_b = item b two

abbrev pub both : List Item
both = item_a ∷ item_b ∷ []

-- `deploy` begins on a device without components
abbrev pub fresh : Origin → SessionState
fresh o = call_begins (device_of o [] None)

-- ---- two with shutdown steps, of which a needs b hard

abbrev pub shut_both : List Fitted
shut_both = shuts item_a (b ∷ []) ∷ shuts item_b [] ∷ []

abbrev pub chain_taken : List TraceEvent
chain_taken = Recorded Activating ∷ Recorded (Accepted (plan_of both [])) ∷ []

abbrev pub after_chain_taken : Origin → SessionState
after_chain_taken o = state_after (fresh o) chain_taken

abbrev pub chain : List TraceEvent
chain = Changed shut_both no_failures false ∷ []

abbrev pub after_chain : Origin → SessionState
after_chain o = state_after (after_chain_taken o) chain

abbrev pub chain_first : List TraceEvent
chain_first = starts (asked 0) 0 1 step.Startup (codes "s") ∷ ReadClock 0 ∷ begins 1 ∷ begins 1 ∷ []

abbrev pub after_chain_first : Origin → SessionState
after_chain_first o = state_after (after_chain o) chain_first

abbrev pub chain_second : List TraceEvent
chain_second =
    closes outcomes.Successful ∷ ReadClock 2 ∷ dies (not_asked 1) 1 0 step.Startup good 120000
    ∷ starts (asked 1) 1 0 step.Startup (codes "s") ∷ begins 0 ∷ begins 0 ∷ ReadClock 1 ∷ dies (not_asked 0) 0 1 step.Startup good 120000
    ∷ []

abbrev pub after_chain_second : Origin → SessionState
after_chain_second o = state_after (after_chain_first o) chain_second

abbrev pub chain_stops : List TraceEvent
chain_stops =
    dies (not_asked 3) 3 1 step.Shutdown good 15000 ∷ starts (asked 3) 3 1 step.Shutdown (codes "q") ∷ Moved 1 (event.Stop after.Gone)
    ∷ ReadClock 3 ∷ dies (not_asked 2) 2 0 step.Shutdown good 15000 ∷ starts (asked 2) 2 0 step.Shutdown (codes "q")
    ∷ Moved 0 (event.Stop after.Gone) ∷ StopsAll ∷ []

abbrev pub after_chain_stops : Origin → SessionState
after_chain_stops o = state_after (after_chain_second o) chain_stops

-- ---- b runs and fails while a starts, which needs it

abbrev pub hardly : List Fitted
hardly = starts_up item_a (b ∷ []) ∷ runs item_b [] [] ∷ []

abbrev pub softly : List Fitted
softly = record (starts_up item_a []) { soft = b ∷ [] } ∷ runs item_b [] [] ∷ []

abbrev pub hard_taken : List TraceEvent
hard_taken = Recorded Activating ∷ Recorded (Accepted (plan_of both [])) ∷ []

abbrev pub after_hard_taken : Origin → SessionState
after_hard_taken o = state_after (fresh o) hard_taken

abbrev pub hard : List TraceEvent
hard = Changed hardly no_failures false ∷ []

abbrev pub after_hard : Origin → SessionState
after_hard o = state_after (after_hard_taken o) hard

abbrev pub hard_starts : List TraceEvent
hard_starts =
    starts (not_asked 0) 1 0 step.Startup (codes "s") ∷ begins 0 ∷ begins 0 ∷ starts (asked 0) 0 1 step.Run (codes "r") ∷ ReadClock 0
    ∷ begins 1 ∷ begins 1 ∷ []

abbrev pub after_hard_starts : Origin → SessionState
after_hard_starts o = state_after (after_hard o) hard_starts

abbrev pub hard_fails : List TraceEvent
hard_fails = fails b step.Run bad ∷ ReadClock 4 ∷ dies (not_asked 0) 0 1 step.Run bad 120000 ∷ []

abbrev pub after_hard_fails : Origin → SessionState
after_hard_fails o = state_after (after_hard_starts o) hard_fails

abbrev pub hard_restarts : List TraceEvent
hard_restarts =
    closes outcomes.Successful ∷ ReadClock 6 ∷ dies (not_asked 4) 3 0 step.Startup good 120000
    ∷ starts (not_asked 4) 3 0 step.Startup (codes "s") ∷ begins 0 ∷ starts (not_asked 4) 2 1 step.Run (codes "r") ∷ begins 1
    ∷ Moved 1 event.Retry ∷ kills (asked 4) 1 0 step.Startup ∷ []

abbrev pub after_hard_restarts : Origin → SessionState
after_hard_restarts o = state_after (after_hard_fails o) hard_restarts

abbrev pub hard_stops : List TraceEvent
hard_stops = kills (asked 6) 2 1 step.Run ∷ Moved 0 (event.Stop after.Gone) ∷ StopsAll ∷ []

abbrev pub after_hard_stops : Origin → SessionState
after_hard_stops o = state_after (after_hard_restarts o) hard_stops

abbrev pub soft_taken : List TraceEvent
soft_taken = Recorded Activating ∷ Recorded (Accepted (plan_of both [])) ∷ []

abbrev pub after_soft_taken : Origin → SessionState
after_soft_taken o = state_after (fresh o) soft_taken

abbrev pub soft : List TraceEvent
soft = Changed softly no_failures false ∷ []

abbrev pub after_soft : Origin → SessionState
after_soft o = state_after (after_soft_taken o) soft

abbrev pub soft_starts : List TraceEvent
soft_starts =
    starts (not_asked 0) 1 0 step.Startup (codes "s") ∷ begins 0 ∷ begins 0 ∷ starts (asked 0) 0 1 step.Run (codes "r") ∷ ReadClock 0
    ∷ begins 1 ∷ begins 1 ∷ []

abbrev pub after_soft_starts : Origin → SessionState
after_soft_starts o = state_after (after_soft o) soft_starts

abbrev pub soft_fails : List TraceEvent
soft_fails = fails b step.Run bad ∷ ReadClock 4 ∷ dies (not_asked 0) 0 1 step.Run bad 120000 ∷ []

abbrev pub after_soft_fails : Origin → SessionState
after_soft_fails o = state_after (after_soft_starts o) soft_fails

-- ---- a goes away, and b comes

abbrev pub serves_a : Origin → SessionState
serves_a o = serve_begins 2 (device_of o (item_a ∷ []) None)

abbrev pub away : List TraceEvent
away = Changed (shuts item_a [] ∷ []) no_failures true ∷ []

abbrev pub after_away : Origin → SessionState
after_away o = state_after (serves_a o) away

abbrev pub away_starts : List TraceEvent
away_starts =
    ReadClock 1 ∷ dies (not_asked 0) 0 0 step.Startup good 1000 ∷ InboxAsked nothing ∷ starts (asked 0) 0 0 step.Startup (codes "s")
    ∷ ReadClock 0 ∷ begins 0 ∷ begins 0 ∷ []

abbrev pub after_away_starts : Origin → SessionState
after_away_starts o = state_after (after_away o) away_starts

abbrev pub away_takes_taken : List TraceEvent
away_takes_taken = Recorded Activating ∷ Recorded (Accepted (plan_of (item_b ∷ []) [])) ∷ InboxAsked document ∷ []

abbrev pub after_away_takes_taken : Origin → SessionState
after_away_takes_taken o = state_after (after_away_starts o) away_takes_taken

abbrev pub away_takes : List TraceEvent
away_takes = Changed (starts_up item_b [] ∷ []) no_failures false ∷ []

abbrev pub after_away_takes : Origin → SessionState
after_away_takes o = state_after (after_away_takes_taken o) away_takes

abbrev pub away_stops : List TraceEvent
away_stops =
    ReadClock 2 ∷ dies (not_asked 1) 2 1 step.Startup good 15000 ∷ starts (not_asked 1) 2 1 step.Startup (codes "s") ∷ begins 1 ∷ begins 1
    ∷ starts (asked 1) 1 0 step.Shutdown (codes "q") ∷ Moved 0 (event.Stop after.Gone) ∷ []

abbrev pub after_away_stops : Origin → SessionState
after_away_stops o = state_after (after_away_takes o) away_stops

abbrev pub away_closes : List TraceEvent
away_closes = Moved 1 (event.Stop after.Gone) ∷ StopsAll ∷ closes outcomes.Successful ∷ dies (asked 2) 1 0 step.Shutdown good 14999 ∷ []

abbrev pub after_away_closes : Origin → SessionState
after_away_closes o = state_after (after_away_stops o) away_closes

-- ---- b is replaced, and a, which needs it, is restarted

abbrev pub newer_run : Fitted
newer_run = record (bare newer_b [] []) { run = Some (made (codes "n") None) }

abbrev pub needing : List Fitted
needing = shuts item_a (b ∷ []) ∷ runs item_b [] [] ∷ []

abbrev pub replaced : List Item
replaced = item_a ∷ newer_b ∷ []

abbrev pub needing_newer : List Fitted
needing_newer = shuts item_a (b ∷ []) ∷ newer_run ∷ []

abbrev pub serves_two : Origin → SessionState
serves_two o = serve_begins 2 (device_of o both None)

abbrev pub dying : List TraceEvent
dying = Changed needing no_failures true ∷ []

abbrev pub after_dying : Origin → SessionState
after_dying o = state_after (serves_two o) dying

abbrev pub dying_starts : List TraceEvent
dying_starts =
    ReadClock 3 ∷ dies (not_asked 0) 1 0 step.Startup good 1000 ∷ InboxAsked nothing ∷ starts (not_asked 0) 1 0 step.Startup (codes "s")
    ∷ begins 0 ∷ begins 0 ∷ starts (asked 0) 0 1 step.Run (codes "r") ∷ ReadClock 0 ∷ begins 1 ∷ begins 1 ∷ []

abbrev pub after_dying_starts : Origin → SessionState
after_dying_starts o = state_after (after_dying o) dying_starts

abbrev pub dying_takes_taken : List TraceEvent
dying_takes_taken = Recorded Activating ∷ Recorded (Accepted (plan_of replaced [])) ∷ InboxAsked document ∷ []

abbrev pub after_dying_takes_taken : Origin → SessionState
after_dying_takes_taken o = state_after (after_dying_starts o) dying_takes_taken

abbrev pub dying_takes : List TraceEvent
dying_takes = Changed needing_newer no_failures false ∷ []

abbrev pub after_dying_takes : Origin → SessionState
after_dying_takes o = state_after (after_dying_takes_taken o) dying_takes

abbrev pub dying_ends : List TraceEvent
dying_ends =
    ReadClock 4 ∷ dies (not_asked 3) 0 1 step.Run bad 15000 ∷ starts (asked 3) 2 0 step.Shutdown (codes "q")
    ∷ Moved 0 (event.Stop after.Restart) ∷ []

abbrev pub after_dying_ends : Origin → SessionState
after_dying_ends o = state_after (after_dying_takes o) dying_ends

abbrev pub dying_stops : List TraceEvent
dying_stops = Moved 1 (event.Stop after.Again) ∷ ReadClock 5 ∷ dies (asked 4) 2 0 step.Shutdown good 14999 ∷ []

abbrev pub after_dying_stops : Origin → SessionState
after_dying_stops o = state_after (after_dying_ends o) dying_stops

abbrev pub dying_comes : List TraceEvent
dying_comes =
    closes outcomes.Successful ∷ ReadClock 6 ∷ dies (not_asked 5) 4 0 step.Startup good 120000
    ∷ starts (not_asked 5) 4 0 step.Startup (codes "s") ∷ begins 0 ∷ starts (asked 5) 3 1 step.Run (codes "n") ∷ begins 1 ∷ begins 1
    ∷ []

abbrev pub after_dying_comes : Origin → SessionState
after_dying_comes o = state_after (after_dying_stops o) dying_comes

abbrev pub dying_shuts : List TraceEvent
dying_shuts =
    kills (asked 7) 3 1 step.Run ∷ ReadClock 7 ∷ dies (not_asked 6) 5 0 step.Shutdown good 15000
    ∷ starts (asked 6) 5 0 step.Shutdown (codes "q") ∷ Moved 0 (event.Stop after.Gone) ∷ StopsAll ∷ []

abbrev pub after_dying_shuts : Origin → SessionState
after_dying_shuts o = state_after (after_dying_comes o) dying_shuts

-- ---- a comes, and needs b, which is replaced

abbrev pub coming : List Fitted
coming = starts_up item_a (b ∷ []) ∷ newer_run ∷ []

abbrev pub serves_b : Origin → SessionState
serves_b o = serve_begins 1 (device_of o (item_b ∷ []) None)

abbrev pub new : List TraceEvent
new = Changed (runs item_b [] [] ∷ []) no_failures true ∷ []

abbrev pub after_new : Origin → SessionState
after_new o = state_after (serves_b o) new

abbrev pub new_starts : List TraceEvent
new_starts = starts (asked 0) 0 0 step.Run (codes "r") ∷ ReadClock 0 ∷ begins 0 ∷ begins 0 ∷ []

abbrev pub after_new_starts : Origin → SessionState
after_new_starts o = state_after (after_new o) new_starts

abbrev pub new_takes_taken : List TraceEvent
new_takes_taken = Recorded Activating ∷ Recorded (Accepted (plan_of replaced [])) ∷ InboxAsked document ∷ []

abbrev pub after_new_takes_taken : Origin → SessionState
after_new_takes_taken o = state_after (after_new_starts o) new_takes_taken

abbrev pub new_takes : List TraceEvent
new_takes = Changed coming no_failures false ∷ []

abbrev pub after_new_takes : Origin → SessionState
after_new_takes o = state_after (after_new_takes_taken o) new_takes

abbrev pub new_comes : List TraceEvent
new_comes =
    closes outcomes.Successful ∷ ReadClock 5 ∷ dies (not_asked 0) 2 0 step.Startup good 120000
    ∷ starts (not_asked 0) 2 0 step.Startup (codes "s") ∷ begins 0 ∷ begins 0 ∷ starts (not_asked 0) 1 1 step.Run (codes "n")
    ∷ begins 1 ∷ begins 1 ∷ kills (not_asked 0) 0 1 step.Run ∷ []

abbrev pub after_new_comes : Origin → SessionState
after_new_comes o = state_after (after_new_takes o) new_comes

abbrev pub new_stops : List TraceEvent
new_stops = kills (asked 5) 1 1 step.Run ∷ Moved 0 (event.Stop after.Gone) ∷ StopsAll ∷ []

abbrev pub after_new_stops : Origin → SessionState
after_new_stops o = state_after (after_new_comes o) new_stops
