-- Rows: bootstraps in whole calls.
use Rattle.std.specs.Prelude.{◌∷◌, [], ℕ, pos, true, List, Some, None, codes}
use Rattle.nuc_base.specs.declared.kinds.Step.TheVariants as step
use Rattle.nuc_base.specs.declared.kinds.Exit.TheVariants as exits
use Rattle.nuc_base.specs.declared.kinds.Outcome.TheVariants as outcomes
use Rattle.nuc_base.specs.declared.kinds.Policy.TheVariants as policies
use Rattle.lifecycle.specs.declared.kinds.After.TheVariants as after
use Rattle.lifecycle.specs.declared.kinds.LifeEvent.TheVariants as event
use Rattle.records.specs.Stored.{Item, Plan, Accepted, BootBegun, BootEnded}
use Rattle.records.specs.declared.record.Origin.{Origin}
use Rattle.step_runner.specs.declared.command.Command.{Command}
use Rattle.step_runner.specs.declared.entries.Seen.TheVariants as seen
use Rattle.step_runner.specs.declared.entries.Seen.{Seen}
use Rattle.device.specs.Lawful.{no_failures}
use Rattle.device.specs.declared.staged.Stage.TheVariants as stages
use Rattle.components.specs.Fitted.{Fitted}
use Rattle.histories.specs.TraceEvents.{TraceEvent, Booted, Recorded, Moved, ReadClock, InboxAsked, Changed, StopsAll, document, nothing}
use Rattle.histories.specs.States.{SessionState, state_after}
use Rattle.history_rows.specs.Rows.{item, runs, starts_up, script, boot_of, device_of, pending_in, plan_of, call_begins, serve_begins, asked, not_asked, ends}
use Rattle.history_rows.specs.Rows.{good, bad, a, b, one, two}
use Rattle.history_rows.specs.Words.{Telling, begins, starts, dies, kills, passes, runs_boot, closes}

abbrev pub item_a : Item
item_a = item a one

abbrev pub item_b : Item
item_b = item b one

abbrev pub both : List Item
both = item_a ∷ item_b ∷ []

-- the bootstrap of a starts with this number
abbrev pub boot_starts : ℕ → Seen
boot_starts n = seen.Started n (script (codes "b"))

-- the bootstrap that runs this starts with this number
abbrev pub boots_with : Command → Telling → ℕ → TraceEvent
boots_with command is_modelled n = Booted (is_modelled (seen.Started n command)) (boot_of command)

abbrev pub boots_a : Plan
boots_a = plan_of (item_a ∷ []) (a ∷ [])

-- ---- `serve`, and a document with a bootstrap

abbrev pub boots_both : Plan
boots_both = plan_of both (a ∷ [])

abbrev pub serves_b : Origin → SessionState
serves_b o = serve_begins 1 (device_of o (item_b ∷ []) None)

abbrev pub boot_set : List TraceEvent
boot_set = Changed (runs item_b [] [] ∷ []) no_failures true ∷ []

abbrev pub after_boot_set : Origin → SessionState
after_boot_set o = state_after (serves_b o) boot_set

abbrev pub boot_runs : List TraceEvent
boot_runs = Recorded (Accepted boots_both) ∷ InboxAsked document ∷ starts (asked 0) 0 0 step.Run (codes "r") ∷ ReadClock 0 ∷ begins 0 ∷ begins 0 ∷ []

abbrev pub after_boot_runs : Origin → SessionState
after_boot_runs o = state_after (after_boot_set o) boot_runs

abbrev pub boot_stops : List TraceEvent
boot_stops = Recorded (BootBegun a) ∷ kills (not_asked 0) 0 0 step.Run ∷ StopsAll ∷ []

abbrev pub after_boot_stops : Origin → SessionState
after_boot_stops o = state_after (after_boot_runs o) boot_stops

abbrev pub boot_asks : Command → List TraceEvent
boot_asks command = boots_with command (not_asked 0) 1 ∷ []

abbrev pub after_boot_asks : Origin → SessionState
after_boot_asks o = state_after (after_boot_stops o) (boot_asks (script (codes "b")))

abbrev pub boot_over : List TraceEvent
boot_over = Recorded (BootEnded a (exits.Code (pos 100))) ∷ runs_boot (not_asked 0) (ends (exits.Code (pos 100)) 1 120000) ∷ []

abbrev pub after_boot_over : Origin → SessionState
after_boot_over o = state_after (after_boot_asks o) boot_over

-- ---- one that was begun before, under DO_NOTHING

abbrev pub resumes_begun : Origin → SessionState
resumes_begun o = call_begins (device_of o [] (Some (record (pending_in stages.Booting (record boots_a { policy = policies.DoNothing }) no_failures)
    { begun = true })))

abbrev pub long : Command → List TraceEvent
long command = boots_with command (asked 0) 0 ∷ ReadClock 0 ∷ []

abbrev pub after_long : Origin → SessionState
after_long o = state_after (resumes_begun o) (long (script (codes "b")))

abbrev pub long_passes : List TraceEvent
long_passes = ReadClock 120000 ∷ passes (not_asked 0) 120000 ∷ []

abbrev pub after_long_passes : Origin → SessionState
after_long_passes o = state_after (after_long o) long_passes

abbrev pub long_kills : List TraceEvent
long_kills = closes outcomes.RollbackNotRequested ∷ Recorded (BootEnded a exits.TimedOut) ∷ runs_boot (asked 120000) (seen.Killed 0) ∷ []

abbrev pub after_long_kills : Origin → SessionState
after_long_kills o = state_after (after_long_passes o) long_kills

-- ---- one that fails, under DO_NOTHING

abbrev pub deploys_boot : Origin → SessionState
deploys_boot o = call_begins (device_of o [] None)

abbrev pub keeps_a : Plan
keeps_a = record boots_a { policy = policies.DoNothing }

abbrev pub bad_boot : List TraceEvent
bad_boot = Recorded (BootBegun a) ∷ Recorded (Accepted keeps_a) ∷ []

abbrev pub after_bad_boot : Origin → SessionState
after_bad_boot o = state_after (deploys_boot o) bad_boot

abbrev pub bad_starts : Command → List TraceEvent
bad_starts command = boots_with command (asked 0) 0 ∷ ReadClock 0 ∷ []

abbrev pub after_bad_starts : Origin → SessionState
after_bad_starts o = state_after (after_bad_boot o) (bad_starts (script (codes "b")))

abbrev pub bad_ends : List TraceEvent
bad_ends = runs_boot (not_asked 0) (ends (exits.Code (pos 3)) 0 120000) ∷ []

abbrev pub after_bad_ends : Origin → SessionState
after_bad_ends o = state_after (after_bad_starts o) bad_ends

abbrev pub bad_closes : List TraceEvent
bad_closes = closes outcomes.RollbackNotRequested ∷ Recorded (BootEnded a (exits.Code (pos 3))) ∷ []

abbrev pub after_bad_closes : Origin → SessionState
after_bad_closes o = state_after (after_bad_ends o) bad_closes

-- ---- `serve`, and a bootstrap that fails, under DO_NOTHING

abbrev pub keeps_both : Plan
keeps_both = record (plan_of both (b ∷ [])) { policy = policies.DoNothing }

abbrev pub up_a : Fitted
up_a = starts_up item_a []

abbrev pub both_up : List Fitted
both_up = up_a ∷ starts_up item_b [] ∷ []

abbrev pub serves_up : Origin → SessionState
serves_up o = serve_begins 2 (device_of o (item_a ∷ []) None)

abbrev pub left : List TraceEvent
left = Changed (up_a ∷ []) no_failures true ∷ []

abbrev pub after_left : Origin → SessionState
after_left o = state_after (serves_up o) left

abbrev pub left_stops : List TraceEvent
left_stops =
    Recorded (BootBegun b) ∷ kills (not_asked 0) 0 0 step.Startup ∷ StopsAll ∷ Recorded (Accepted keeps_both) ∷ InboxAsked document
    ∷ starts (asked 0) 0 0 step.Startup (codes "s") ∷ ReadClock 0 ∷ begins 0 ∷ begins 0 ∷ []

abbrev pub after_left_stops : Origin → SessionState
after_left_stops o = state_after (after_left o) left_stops

abbrev pub left_boots : Command → List TraceEvent
left_boots command = boots_with command (not_asked 0) 1 ∷ []

abbrev pub after_left_boots : Origin → SessionState
after_left_boots o = state_after (after_left_stops o) (left_boots (script (codes "b")))

abbrev pub left_fails : List TraceEvent
left_fails = closes outcomes.RollbackNotRequested ∷ Recorded (BootEnded b bad) ∷ ReadClock 3 ∷ runs_boot (not_asked 0) (ends bad 1 120000) ∷ []

abbrev pub after_left_fails : Origin → SessionState
after_left_fails o = state_after (after_left_boots o) left_fails

abbrev pub left_changes : List TraceEvent
left_changes = Changed both_up no_failures true ∷ []

abbrev pub after_left_changes : Origin → SessionState
after_left_changes o = state_after (after_left_fails o) left_changes

abbrev pub left_comes : List TraceEvent
left_comes =
    kills (asked 4) 3 1 step.Startup ∷ Moved 0 (event.Stop after.Gone) ∷ StopsAll ∷ ReadClock 4
    ∷ dies (not_asked 3) 2 0 step.Startup good 1000 ∷ InboxAsked nothing ∷ starts (not_asked 3) 3 1 step.Startup (codes "s")
    ∷ begins 1 ∷ begins 1 ∷ starts (asked 3) 2 0 step.Startup (codes "s") ∷ begins 0 ∷ begins 0 ∷ []

abbrev pub after_left_comes : Origin → SessionState
after_left_comes o = state_after (after_left_changes o) left_comes

-- ---- the older version on the way back

abbrev pub newer_a : Item
newer_a = item a two

abbrev pub backing : Origin → SessionState
backing o = call_begins (device_of o (item_a ∷ []) (Some (record (pending_in stages.Backing (plan_of (newer_a ∷ []) (a ∷ [])) no_failures)
    { reach = 1; backs = a ∷ [] })))

abbrev pub back_begun : Origin → SessionState
back_begun o = state_after (backing o) (ReadClock 0 ∷ Recorded (BootBegun a) ∷ [])

-- the second bootstrap of two
abbrev pub second : Origin → SessionState
second o = call_begins (device_of o [] (Some (record (pending_in stages.Booting (plan_of both (a ∷ b ∷ [])) no_failures) { ended = 1 })))

abbrev pub second_begun : Origin → SessionState
second_begun o = state_after (second o) (ReadClock 0 ∷ Recorded (BootBegun b) ∷ [])
