-- Rows of bootstraps.
use Rattle.std.specs.Prelude.{◌∷◌, [], ℕ, true, false, List, Some, codes, pos}
use Rattle.nuc_base.specs.declared.kinds.Outcome.TheVariants as outcomes
use Rattle.nuc_base.specs.declared.kinds.Step.TheVariants as step
use Rattle.lifecycle.specs.declared.kinds.LifeEvent.TheVariants as event
use Rattle.components.specs.Fitted.{Fitted}
use Rattle.nuc_base.specs.declared.kinds.Exit.{Exit}
use Rattle.nuc_base.specs.declared.kinds.Exit.TheVariants as exits
use Rattle.records.specs.Stored.{Item, BootBegun, BootEnded, FailingBack, Closed}
use Rattle.recipe_reader.specs.declared.recipe.Skip.TheVariants as skips
use Rattle.components.specs.declared.kinds.Prepared.{Prepared}
use Rattle.records.specs.declared.record.Origin.{Origin}
use Rattle.step_runner.specs.declared.command.Command.{Command}
use Rattle.step_runner.specs.declared.entries.RunnerEntry.{RunnerEntry}
use Rattle.step_runner.specs.declared.entries.Seen.{Seen}
use Rattle.step_runner.specs.declared.entries.Seen.TheVariants as seen
use Rattle.device.specs.Devices.{Device}
use Rattle.device.specs.Lawful.{no_failures, applied}
use Rattle.device.specs.declared.staged.Stage.TheVariants as stages
use Rattle.histories.specs.TraceEvents.{TraceEvent, Ran, Booted, WaitElapsed, Recorded, Moved, ReadClock, Changed}
use Rattle.histories.specs.States.{SessionState, state_after}
use Rattle.history_rows.specs.Rows.{item, runs, starts_up, script, boot_of, boots_up, device_of, pending_in, plan_of, before_change, call_begins, world_of}
use Rattle.history_rows.specs.Rows.{running_part, asked, not_asked, ends, good, bad, a, b, one, two}

abbrev pub item_a : Item
item_a = item a one

abbrev pub item_b : Item
item_b = item b one

abbrev pub items : List Item
items = item_a ∷ item_b ∷ []

-- two bootstraps, of which so many are ended
abbrev pub booting_device : Origin → ℕ → Device
booting_device o n = device_of o [] (Some (record (pending_in stages.Booting (plan_of items (a ∷ b ∷ [])) no_failures) { ended = n }))

abbrev pub first_boot : Origin → SessionState
first_boot o = call_begins (booting_device o 0)

abbrev pub second_boot : Origin → SessionState
second_boot o = call_begins (booting_device o 1)

abbrev pub restart : Exit
restart = exits.Code (pos 100)

-- the bootstrap of the component of this name runs this
abbrev pub boots_by : Command → List ℕ → Exit → List TraceEvent
boots_by command name e =
    Recorded (BootEnded name e) ∷ Booted (not_asked 0 (ends e 0 120000)) (boot_of command)
    ∷ Booted (asked 0 (seen.Started 0 command)) (boot_of command) ∷ ReadClock 0 ∷ Recorded (BootBegun name) ∷ []

abbrev pub boots : List ℕ → Exit → List TraceEvent
boots name e = boots_by (script (codes "b")) name e

-- its start, with this number
abbrev pub starts_boot : (Seen → RunnerEntry) → ℕ → Command → TraceEvent
starts_boot is_modelled n command = Booted (is_modelled (seen.Started n command)) (boot_of command)

-- it takes too long
abbrev pub boots_long : Command → List TraceEvent
boots_long command =
    Recorded (BootEnded a exits.TimedOut) ∷ Booted (asked 120000 (seen.Killed 0)) (boot_of command) ∷ ReadClock 120000 ∷
    WaitElapsed (not_asked 0 (seen.Elapsed 120000))
    ∷ Booted (asked 0 (seen.Started 0 command)) (boot_of command) ∷ ReadClock 0 ∷ Recorded (BootBegun a) ∷ []

abbrev pub boot_lives : Origin → SessionState
boot_lives o = state_after (first_boot o) (Booted (asked 0 (seen.Started 0 (script (codes "b")))) boots_up ∷ ReadClock 0 ∷ Recorded (BootBegun a) ∷ [])

-- it ended, and that is not recorded
abbrev pub boot_over : Origin → SessionState
boot_over o = state_after (boot_lives o) (Booted (not_asked 0 (ends bad 0 120000)) boots_up ∷ [])

-- the end is recorded as a failure, or as one that asks for a restart, or as the last good one
abbrev pub boot_failed : Origin → SessionState
boot_failed o = state_after (boot_over o) (Recorded (BootEnded a bad) ∷ [])

abbrev pub restarted : Origin → SessionState
restarted o = state_after (first_boot o) (boots a restart)

abbrev pub one_done : Origin → SessionState
one_done o = state_after (first_boot o) (boots a good)

abbrev pub all_done : Origin → SessionState
all_done o = state_after (second_boot o) (boots b good)

-- the call begins with a bootstrap that was begun and did not end, and with one that failed
abbrev pub begun_device : Origin → Device
begun_device o = device_of o [] (Some (record (pending_in stages.Booting (plan_of items (a ∷ b ∷ [])) no_failures) { begun = true }))

abbrev pub begun_before : Origin → SessionState
begun_before o = call_begins (begun_device o)

abbrev pub failed_device : Origin → Device
failed_device o = device_of o [] (Some (record (pending_in stages.Booting (plan_of items (a ∷ b ∷ [])) no_failures) { begun = true; boot_failed = true }))

abbrev pub failed_before : Origin → SessionState
failed_before o = call_begins (failed_device o)

-- it runs again
abbrev pub boots_again : Command → List TraceEvent
boots_again command =
    Recorded (BootEnded a good) ∷ Booted (not_asked 0 (ends good 0 120000)) (boot_of command)
    ∷ Booted (asked 0 (seen.Started 0 command)) (boot_of command) ∷ ReadClock 0 ∷ []

-- a bootstrap with a probe for this word
abbrev pub boots_or_skips : List ℕ → Command → Prepared
boots_or_skips word command = record (boot_of command) { skip = Some (skips.OnPath word) }

abbrev pub boot_skips : List ℕ → Command → List TraceEvent
boot_skips word command = Booted (asked 0 (seen.OnPath word true)) (boots_or_skips word command) ∷ ReadClock 0 ∷ Recorded (BootBegun a) ∷ []

abbrev pub boot_skipped : List ℕ → Command → List TraceEvent
boot_skipped word command = Recorded (BootEnded a good) ∷ boot_skips word command

abbrev pub boot_probed : List ℕ → Command → List TraceEvent
boot_probed word command =
    Booted (not_asked 0 (seen.Started 0 command)) (boots_or_skips word command) ∷ Booted (asked 0 (seen.OnPath word false)) (boots_or_skips word command)
    ∷ ReadClock 0 ∷ Recorded (BootBegun a) ∷ []

-- a start that is refused
abbrev pub boot_refused : Command → List TraceEvent
boot_refused command = Recorded (BootEnded a exits.NotStarted) ∷ Booted (asked 0 (seen.Refused command)) (boot_of command) ∷ ReadClock 0 ∷
    Recorded (BootBegun a) ∷ []

-- ---- the set's bootstraps run again

abbrev pub newer_a : Item
newer_a = item a two

-- the new version's bootstrap fails
abbrev pub newer_boots : Origin → SessionState
newer_boots o = call_begins (device_of o (item_a ∷ []) (Some (pending_in stages.Booting (plan_of (newer_a ∷ []) (a ∷ [])) no_failures)))

abbrev pub fails_back : Command → List TraceEvent
fails_back command = Recorded (FailingBack a) ∷ boots_by command a (exits.Code (pos 7))

-- the old one's is to run again
abbrev pub backing_device : Origin → Device
backing_device o = device_of o (item_a ∷ []) (Some (record (pending_in stages.Backing (plan_of (newer_a ∷ []) (a ∷ [])) no_failures) {
  reach = 1;
  backs =
      a ∷ [];
}))

abbrev pub backed : Origin → SessionState
backed o = call_begins (backing_device o)

abbrev pub back_begun : Origin → SessionState
back_begun o = state_after (backed o) (Recorded (BootBegun a) ∷ [])

abbrev pub back_done : Origin → SessionState
back_done o = state_after (backed o) (boots a good)

-- it fails too
abbrev pub back_failed : Command → List TraceEvent
back_failed command = Recorded (Closed outcomes.UnableToRollback) ∷ boots_by command a (exits.Code (pos 7))

-- the old one still runs
abbrev pub still_up : Origin → SessionState
still_up o = before_change (backing_device o) (world_of (running_part (runs item_a [] []) 4 ∷ []))

-- so it does where the bootstrap was begun, to which no history leads
abbrev pub begun_up : Origin → SessionState
begun_up o = before_change (applied (backing_device o) (BootBegun a)) (world_of (running_part (runs item_a [] []) 4 ∷ []))

-- and in a later call the old one comes up
abbrev pub rolling_state : Origin → SessionState
rolling_state o = call_begins (back_done o).device

abbrev pub old_up : Fitted
old_up = starts_up item_a []

abbrev pub comes_back : List TraceEvent
comes_back =
    Recorded (Closed outcomes.RollbackComplete) ∷ Ran (not_asked 0 (ends good 0 120000)) 0 step.Startup
    ∷ Ran (asked 0 (seen.Started 0 (script (codes "s")))) 0 step.Startup ∷ Moved 0 event.MayBegin ∷ Moved 0 event.MayBegin ∷ ReadClock 0 ∷ []

abbrev pub rolls : Origin → SessionState
rolls o = state_after (rolling_state o) (Changed (old_up ∷ []) no_failures false ∷ [])
