-- Rows: which steps a component runs, and how often it is tried.
use Rattle.std.specs.Prelude.{◌∷◌, [], ℕ, true, false, List, Some, None, codes}
use Rattle.nuc_base.specs.declared.kinds.Step.TheVariants as step
use Rattle.nuc_base.specs.declared.kinds.Exit.TheVariants as exits
use Rattle.nuc_base.specs.declared.kinds.Outcome.TheVariants as outcomes
use Rattle.nuc_base.specs.declared.kinds.Policy.TheVariants as policies
use Rattle.lifecycle.specs.declared.kinds.After.TheVariants as after
use Rattle.lifecycle.specs.declared.kinds.LifeEvent.TheVariants as event
use Rattle.records.specs.Stored.{Item, Plan, Accepted, Activating}
use Rattle.records.specs.declared.record.Origin.{Origin}
use Rattle.recipe_reader.specs.declared.recipe.Skip.TheVariants as skips
use Rattle.step_runner.specs.declared.entries.Seen.TheVariants as seen
use Rattle.device.specs.Lawful.{no_failures}
use Rattle.components.specs.Fitted.{Fitted}
use Rattle.histories.specs.TraceEvents.{TraceEvent, Ran, Recorded, Moved, ReadClock, Heard, InboxAsked, Changed, StopsAll, document, nothing}
use Rattle.histories.specs.States.{SessionState, state_after}
use Rattle.history_rows.specs.Rows.{item, set_up, made, bare, runs, starts_up, device_of, plan_of, call_begins, serve_begins, asked, not_asked, good, bad, a}
use Rattle.history_rows.specs.Rows.{b, one, two}
use Rattle.history_rows.specs.Words.{begins, starts, refuses, dies, kills, passes, closes, fails, shuts}

abbrev pub item_a : Item
item_a = item a one

abbrev pub newer_a : Item
newer_a = item a two

abbrev pub item_b : Item
item_b = item b one

abbrev pub both : List Item
both = item_a ∷ item_b ∷ []

-- `deploy` begins on a device without components
abbrev pub fresh : Origin → SessionState
fresh o = call_begins (device_of o [] None)

-- ---- a new version

abbrev pub newer_up : Fitted
newer_up = record (bare newer_a [] []) { startup = Some (made (codes "t") (Some 120000)); shutdown = Some (made (codes "w") (Some 15000)) }

abbrev pub serves_older : Origin → SessionState
serves_older o = serve_begins 2 (device_of o (item_a ∷ []) None)

abbrev pub older : List TraceEvent
older = Changed (shuts item_a [] ∷ []) no_failures true ∷ []

abbrev pub after_older : Origin → SessionState
after_older o = state_after (serves_older o) older

abbrev pub older_starts : List TraceEvent
older_starts =
    ReadClock 3 ∷ dies (not_asked 0) 0 0 step.Startup good 1000 ∷ InboxAsked nothing ∷ starts (asked 0) 0 0 step.Startup (codes "s")
    ∷ ReadClock 0 ∷ begins 0 ∷ begins 0 ∷ []

abbrev pub after_older_starts : Origin → SessionState
after_older_starts o = state_after (after_older o) older_starts

abbrev pub newer_taken : List TraceEvent
newer_taken = Recorded Activating ∷ Recorded (Accepted (plan_of (newer_a ∷ []) [])) ∷ InboxAsked document ∷ []

abbrev pub after_newer_taken : Origin → SessionState
after_newer_taken o = state_after (after_older_starts o) newer_taken

abbrev pub newer : List TraceEvent
newer = Changed (newer_up ∷ []) no_failures false ∷ []

abbrev pub after_newer : Origin → SessionState
after_newer o = state_after (after_newer_taken o) newer

abbrev pub newer_stops : List TraceEvent
newer_stops =
    ReadClock 9 ∷ dies (not_asked 3) 1 0 step.Shutdown good 15000 ∷ starts (asked 3) 1 0 step.Shutdown (codes "q")
    ∷ Moved 0 (event.Stop after.Again) ∷ []

abbrev pub after_newer_stops : Origin → SessionState
after_newer_stops o = state_after (after_newer o) newer_stops

abbrev pub newer_comes : List TraceEvent
newer_comes =
    closes outcomes.Successful ∷ ReadClock 12 ∷ dies (not_asked 9) 2 0 step.Startup good 120000
    ∷ starts (asked 9) 2 0 step.Startup (codes "t") ∷ begins 0 ∷ begins 0 ∷ []

abbrev pub after_newer_comes : Origin → SessionState
after_newer_comes o = state_after (after_newer_stops o) newer_comes

abbrev pub newer_shuts : List TraceEvent
newer_shuts =
    dies (not_asked 12) 3 0 step.Shutdown good 15000 ∷ starts (asked 12) 3 0 step.Shutdown (codes "w")
    ∷ Moved 0 (event.Stop after.Gone) ∷ StopsAll ∷ []

abbrev pub after_newer_shuts : Origin → SessionState
after_newer_shuts o = state_after (after_newer_comes o) newer_shuts

-- ---- a needs b hard, and its starts are refused

abbrev pub hardly : List Fitted
hardly = starts_up item_a (b ∷ []) ∷ runs item_b [] [] ∷ []

abbrev pub serves_hard : Origin → SessionState
serves_hard o = serve_begins 3 (device_of o both None)

abbrev pub steady : List TraceEvent
steady = Changed hardly no_failures true ∷ []

abbrev pub after_steady : Origin → SessionState
after_steady o = state_after (serves_hard o) steady

abbrev pub steady_first : List TraceEvent
steady_first =
    starts (not_asked 0) 1 0 step.Startup (codes "s") ∷ begins 0 ∷ Moved 0 event.Retry ∷ Heard 0
    ∷ refuses (not_asked 0) 0 step.Startup (codes "s") ∷ begins 0 ∷ begins 0 ∷ starts (asked 0) 0 1 step.Run (codes "r") ∷ ReadClock 0
    ∷ begins 1 ∷ begins 1 ∷ []

abbrev pub after_steady_first : Origin → SessionState
after_steady_first o = state_after (after_steady o) steady_first

abbrev pub steady_fails : List TraceEvent
steady_fails =
    Heard 1 ∷ ReadClock 9 ∷ dies (asked 4) 0 1 step.Run bad 1000 ∷ InboxAsked nothing ∷ ReadClock 4
    ∷ dies (not_asked 0) 1 0 step.Startup good 1000 ∷ InboxAsked nothing ∷ []

abbrev pub after_steady_fails : Origin → SessionState
after_steady_fails o = state_after (after_steady_first o) steady_fails

abbrev pub steady_again : List TraceEvent
steady_again =
    Heard 0 ∷ refuses (not_asked 9) 0 step.Startup (codes "s") ∷ begins 0 ∷ Moved 0 event.Retry ∷ Heard 0
    ∷ refuses (not_asked 9) 0 step.Startup (codes "s") ∷ begins 0 ∷ starts (asked 9) 2 1 step.Run (codes "r") ∷ begins 1
    ∷ Moved 1 event.Retry ∷ Moved 0 (event.Stop after.Restart) ∷ []

abbrev pub after_steady_again : Origin → SessionState
after_steady_again o = state_after (after_steady_fails o) steady_again

abbrev pub steady_third : List TraceEvent
steady_third =
    ReadClock 12 ∷ dies (not_asked 9) 3 0 step.Startup good 1000 ∷ InboxAsked nothing ∷ starts (not_asked 9) 3 0 step.Startup (codes "s")
    ∷ begins 0 ∷ Moved 0 event.Retry ∷ []

abbrev pub after_steady_third : Origin → SessionState
after_steady_third o = state_after (after_steady_again o) steady_third

abbrev pub steady_stops : List TraceEvent
steady_stops = kills (asked 12) 2 1 step.Run ∷ Moved 0 (event.Stop after.Gone) ∷ StopsAll ∷ []

abbrev pub after_steady_stops : Origin → SessionState
after_steady_stops o = state_after (after_steady_third o) steady_stops

-- ---- a startup with Skipif

abbrev pub skips_a : Fitted
skips_a = record (bare item_a [] []) { startup = Some (record (made (codes "s") (Some 120000)) { skip = Some (skips.Exists (codes "/x")) }) }

abbrev pub probes_taken : List TraceEvent
probes_taken = Recorded Activating ∷ Recorded (Accepted (plan_of (item_a ∷ []) [])) ∷ []

abbrev pub after_probes_taken : Origin → SessionState
after_probes_taken o = state_after (fresh o) probes_taken

abbrev pub probes : List TraceEvent
probes = Changed (skips_a ∷ []) no_failures false ∷ []

abbrev pub after_probes : Origin → SessionState
after_probes o = state_after (after_probes_taken o) probes

abbrev pub probes_begins : List TraceEvent
probes_begins = ReadClock 0 ∷ begins 0 ∷ begins 0 ∷ []

abbrev pub after_probes_begins : Origin → SessionState
after_probes_begins o = state_after (after_probes o) probes_begins

abbrev pub probes_yes : List TraceEvent
probes_yes = closes outcomes.Successful ∷ Ran (asked 0 (seen.Exists (codes "/x") true)) 0 step.Startup ∷ []

abbrev pub after_probes_yes : Origin → SessionState
after_probes_yes o = state_after (after_probes_begins o) probes_yes

abbrev pub probes_stops : List TraceEvent
probes_stops = Moved 0 (event.Stop after.Gone) ∷ StopsAll ∷ []

abbrev pub after_probes_stops : Origin → SessionState
after_probes_stops o = state_after (after_probes_yes o) probes_stops

abbrev pub probes_no : List TraceEvent
probes_no =
    closes outcomes.Successful ∷ dies (not_asked 0) 0 0 step.Startup good 120000 ∷ starts (not_asked 0) 0 0 step.Startup (codes "s")
    ∷ Ran (asked 0 (seen.Exists (codes "/x") false)) 0 step.Startup ∷ []

abbrev pub after_probes_no : Origin → SessionState
after_probes_no o = state_after (after_probes_begins o) probes_no

-- ---- an install step, and a startup

abbrev pub installs_a : Fitted
installs_a = record (starts_up item_a []) { install = Some (made (codes "i") (Some 120000)) }

abbrev pub installs_taken : List TraceEvent
installs_taken = Recorded Activating ∷ Recorded (Accepted (plan_of (item_a ∷ []) [])) ∷ []

abbrev pub after_installs_taken : Origin → SessionState
after_installs_taken o = state_after (fresh o) installs_taken

abbrev pub installs : List TraceEvent
installs = Changed (installs_a ∷ []) no_failures false ∷ []

abbrev pub after_installs : Origin → SessionState
after_installs o = state_after (after_installs_taken o) installs

abbrev pub installs_comes : List TraceEvent
installs_comes =
    closes outcomes.Successful ∷ dies (not_asked 3) 1 0 step.Startup good 120000 ∷ starts (asked 3) 1 0 step.Startup (codes "s")
    ∷ begins 0 ∷ ReadClock 3 ∷ dies (not_asked 0) 0 0 step.Install good 120000 ∷ starts (asked 0) 0 0 step.Install (codes "i") ∷ ReadClock 0
    ∷ begins 0 ∷ []

abbrev pub after_installs_comes : Origin → SessionState
after_installs_comes o = state_after (after_installs o) installs_comes

-- ---- a needs b softly, and the starts of b are refused

abbrev pub softly : List Fitted
softly = record (starts_up item_a []) { soft = b ∷ [] } ∷ starts_up item_b [] ∷ []

abbrev pub serves_soft : Origin → SessionState
serves_soft o = serve_begins 1 (device_of o both None)

abbrev pub soft : List TraceEvent
soft = Changed softly no_failures true ∷ []

abbrev pub after_soft : Origin → SessionState
after_soft o = state_after (serves_soft o) soft

abbrev pub soft_fails : List TraceEvent
soft_fails =
    Heard 1 ∷ refuses (not_asked 0) 1 step.Startup (codes "s") ∷ begins 1 ∷ Moved 1 event.Retry ∷ Heard 1
    ∷ refuses (asked 0) 1 step.Startup (codes "s") ∷ ReadClock 0 ∷ begins 1 ∷ begins 1 ∷ []

abbrev pub after_soft_fails : Origin → SessionState
after_soft_fails o = state_after (after_soft o) soft_fails

abbrev pub soft_breaks : List TraceEvent
soft_breaks = Heard 1 ∷ refuses (not_asked 0) 1 step.Startup (codes "s") ∷ begins 1 ∷ Moved 1 event.Retry ∷ []

abbrev pub after_soft_breaks : Origin → SessionState
after_soft_breaks o = state_after (after_soft_fails o) soft_breaks

abbrev pub soft_begins : List TraceEvent
soft_begins =
    dies (not_asked 0) 0 0 step.Startup good 1000 ∷ InboxAsked nothing ∷ starts (not_asked 0) 0 0 step.Startup (codes "s") ∷ begins 0
    ∷ begins 0 ∷ []

abbrev pub after_soft_begins : Origin → SessionState
after_soft_begins o = state_after (after_soft_breaks o) soft_begins

abbrev pub soft_stops : List TraceEvent
soft_stops = Moved 1 (event.Stop after.Gone) ∷ Moved 0 (event.Stop after.Gone) ∷ StopsAll ∷ []

abbrev pub after_soft_stops : Origin → SessionState
after_soft_stops o = state_after (after_soft_begins o) soft_stops

-- ---- another configuration of b, which a needs softly

abbrev pub set_b : Item
set_b = set_up item_b

abbrev pub texts : List ℕ → Fitted
texts text = record (starts_up item_a []) { soft = b ∷ []; shutdown = Some (made text (Some 15000)) }

abbrev pub texts_before : List Fitted
texts_before = texts (codes "x") ∷ bare item_b [] [] ∷ []

abbrev pub texts_now : List Fitted
texts_now = texts (codes "y") ∷ bare set_b [] [] ∷ []

abbrev pub set_both : List Item
set_both = item_a ∷ set_b ∷ []

abbrev pub serves_texts : Origin → SessionState
serves_texts o = serve_begins 2 (device_of o both None)

abbrev pub text : List TraceEvent
text = Changed texts_before no_failures true ∷ []

abbrev pub after_text : Origin → SessionState
after_text o = state_after (serves_texts o) text

abbrev pub text_starts : List TraceEvent
text_starts =
    ReadClock 3 ∷ dies (not_asked 0) 0 0 step.Startup good 1000 ∷ InboxAsked nothing ∷ starts (asked 0) 0 0 step.Startup (codes "s")
    ∷ ReadClock 0 ∷ begins 0 ∷ begins 0 ∷ begins 1 ∷ begins 1 ∷ []

abbrev pub after_text_starts : Origin → SessionState
after_text_starts o = state_after (after_text o) text_starts

abbrev pub text_takes_taken : List TraceEvent
text_takes_taken = Recorded Activating ∷ Recorded (Accepted (plan_of set_both [])) ∷ InboxAsked document ∷ []

abbrev pub after_text_takes_taken : Origin → SessionState
after_text_takes_taken o = state_after (after_text_starts o) text_takes_taken

abbrev pub text_takes : List TraceEvent
text_takes = Changed texts_now no_failures false ∷ []

abbrev pub after_text_takes : Origin → SessionState
after_text_takes o = state_after (after_text_takes_taken o) text_takes

abbrev pub text_replaces : List TraceEvent
text_replaces = closes outcomes.Successful ∷ begins 1 ∷ begins 1 ∷ Moved 1 (event.Stop after.Again) ∷ []

abbrev pub after_text_replaces : Origin → SessionState
after_text_replaces o = state_after (after_text_takes o) text_replaces

abbrev pub text_stops : List TraceEvent
text_stops =
    dies (not_asked 3) 1 0 step.Shutdown good 15000 ∷ Moved 1 (event.Stop after.Gone) ∷ starts (asked 3) 1 0 step.Shutdown (codes "y")
    ∷ Moved 0 (event.Stop after.Gone) ∷ StopsAll ∷ []

abbrev pub after_text_stops : Origin → SessionState
after_text_stops o = state_after (after_text_replaces o) text_stops

-- ---- `serve`, and a component that is broken, under DO_NOTHING

abbrev pub keeps_a : Plan
keeps_a = record (plan_of (item_a ∷ []) []) { policy = policies.DoNothing }

abbrev pub up_a : Fitted
up_a = starts_up item_a []

abbrev pub serves_none : Origin → SessionState
serves_none o = serve_begins 2 (device_of o [] None)

abbrev pub stays : List TraceEvent
stays = Recorded Activating ∷ Recorded (Accepted keeps_a) ∷ InboxAsked document ∷ Changed [] no_failures true ∷ []

abbrev pub after_stays : Origin → SessionState
after_stays o = state_after (serves_none o) stays

abbrev pub stays_changes : List TraceEvent
stays_changes = Changed (up_a ∷ []) no_failures false ∷ []

abbrev pub after_stays_changes : Origin → SessionState
after_stays_changes o = state_after (after_stays o) stays_changes

abbrev pub stays_fails : List TraceEvent
stays_fails =
    fails a step.Startup exits.NotStarted ∷ refuses (not_asked 0) 0 step.Startup (codes "s") ∷ begins 0 ∷ Moved 0 event.Retry
    ∷ fails a step.Startup exits.NotStarted ∷ refuses (not_asked 0) 0 step.Startup (codes "s") ∷ begins 0 ∷ Moved 0 event.Retry
    ∷ fails a step.Startup exits.NotStarted ∷ refuses (asked 0) 0 step.Startup (codes "s") ∷ ReadClock 0 ∷ begins 0 ∷ begins 0 ∷ []

abbrev pub after_stays_fails : Origin → SessionState
after_stays_fails o = state_after (after_stays_changes o) stays_fails

abbrev pub stays_closes : List TraceEvent
stays_closes = closes outcomes.RollbackNotRequested ∷ []

abbrev pub after_stays_closes : Origin → SessionState
after_stays_closes o = state_after (after_stays_fails o) stays_closes

abbrev pub stays_idles : List TraceEvent
stays_idles = Moved 0 (event.Stop after.Gone) ∷ StopsAll ∷ passes (not_asked 0) 1000 ∷ InboxAsked nothing ∷ []

abbrev pub after_stays_idles : Origin → SessionState
after_stays_idles o = state_after (after_stays_closes o) stays_idles

-- it comes up again: it is stopped for good, and begins anew
abbrev pub comes_again : List TraceEvent
comes_again = Changed (up_a ∷ []) no_failures true ∷ []

abbrev pub after_comes_again : Origin → SessionState
after_comes_again o = state_after (after_stays_closes o) comes_again

abbrev pub again_begins : List TraceEvent
again_begins = ReadClock 0 ∷ begins 0 ∷ begins 0 ∷ Moved 0 (event.Stop after.Again) ∷ []

abbrev pub after_again_begins : Origin → SessionState
after_again_begins o = state_after (after_comes_again o) again_begins
