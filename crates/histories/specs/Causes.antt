-- What follows of failures and bootstraps from a history alone.
use Rattle.std.specs.Prelude.{◌≡◌, ℕ, Bool, true, false, List, ◌∷◌, Some, None}
use Rattle.std.specs.List.{list_any}
use Rattle.nuc_base.specs.declared.kinds.Step.{Step}
use Rattle.nuc_base.specs.declared.kinds.Exit.{Exit}
use Rattle.nuc_base.specs.declared.status.Status.{Status}
use Rattle.records.specs.Stored.{Item, BootEnded, StepFailed, Failing}
use Rattle.step_runner.specs.declared.command.Command.{Command}
use Rattle.step_runner.specs.declared.entries.RunnerEntry.{RunnerEntry}
use Rattle.step_runner.specs.declared.entries.Seen.TheVariants as seen
use Rattle.components.specs.Turns.{owes}
use Rattle.components.specs.declared.kinds.Prepared.{Prepared}
use Rattle.histories.specs.Phases.{duty_of}
use Rattle.histories.specs.TraceEvents.{TraceEvent, Ran, Booted, WaitElapsed, Recorded}
use Rattle.histories.specs.States.{SessionState, state_after}
use Rattle.histories.specs.Follows.{IsProper, OwesBy, HasNoBacks}
use Rattle.histories.specs.Courses.{IsWhole, leaves_open}

-- every failure is recorded, or was heard where nothing is pending
abbrev pub HasNoneOwed : SessionState → Type 0
HasNoneOwed p = list_any owes p.world.parts ≡ false

-- No step starts while a failure is not recorded, of a component or a bootstrap,
abbrev pub StartsOweNone : Type 0
StartsOweNone = (p : SessionState) (h : List TraceEvent) (e : RunnerEntry) (k : ℕ) (s : Step) (n : ℕ) (c : Command) → e.seen ≡ seen.Started n c →
    IsProper p (Ran e k s ∷ h) → HasNoneOwed (state_after p h)

abbrev pub BootsOweNone : Type 0
BootsOweNone = (p : SessionState) (h : List TraceEvent) (e : RunnerEntry) (m : Prepared) (n : ℕ) (c : Command) → e.seen ≡ seen.Started n c →
    IsProper p (Booted e m ∷ h) → HasNoneOwed (state_after p h)

-- and nothing waits, whether the time passes or a child ends.
abbrev pub SleepsOweNone : Type 0
SleepsOweNone = (p : SessionState) (h : List TraceEvent) (e : RunnerEntry) (limit : ℕ) → e.seen ≡ seen.Elapsed limit → IsProper p (WaitElapsed e ∷ h) →
    HasNoneOwed (state_after p h)

abbrev pub EndsOweNone : Type 0
EndsOweNone = (p : SessionState) (h : List TraceEvent) (e : RunnerEntry) (k : ℕ) (s : Step) (n : ℕ) (x : Exit) (limit : ℕ) → e.seen ≡ seen.Ended n x limit →
    IsProper p (Ran e k s ∷ h) → HasNoneOwed (state_after p h)

abbrev pub BootEndsOweNone : Type 0
BootEndsOweNone = (p : SessionState) (h : List TraceEvent) (e : RunnerEntry) (m : Prepared) (n : ℕ) (x : Exit) (limit : ℕ) → e.seen ≡ seen.Ended n x limit →
    IsProper p (Booted e m ∷ h) → HasNoneOwed (state_after p h)

-- Each recorded failure was one of that component, that step and that exit.
abbrev pub RecordsOwed : Type 0
RecordsOwed = (p : SessionState) (h : List TraceEvent) (name : List ℕ) (s : Step) (e : Exit) → IsProper p (Recorded (StepFailed name s e) ∷ h) →
    OwesBy (state_after p h).world name s e

-- Each failure is recorded, or the disk or a stream failed.
abbrev pub FailuresRecorded : Type 0
FailuresRecorded = (p : SessionState) (h : List TraceEvent) (status : Status) (rose : Bool) → IsWhole p h status rose → leaves_open status ≡ false →
    HasNoneOwed (state_after p h)

-- Each recorded end is that of the bootstrap.
abbrev pub RecordsEnds : Type 0
RecordsEnds = (p : SessionState) (h : List TraceEvent) (name : List ℕ) (e : Exit) → IsProper p (Recorded (BootEnded name e) ∷ h) →
    (state_after p h).boot_end ≡ Some e

-- A bootstrap starts only where it was begun and is next by the records, none of which is its end, and where no end is still to be recorded.
pub record HasNextBoot (p : SessionState) : Type 0 where
  pub begun : (duty_of p.device).begun ≡ true
  pub item : Item
  pub next : (duty_of p.device).next_bootstrap ≡ Some item.name
  pub recorded : p.boot_end ≡ None

abbrev pub BootsStartInOrder : Type 0
BootsStartInOrder = (p : SessionState) (h : List TraceEvent) (e : RunnerEntry) (m : Prepared) (n : ℕ) (c : Command) → e.seen ≡ seen.Started n c →
    IsProper p (Booted e m ∷ h) → HasNextBoot (state_after p h)

-- A deployment is rolled back by the record that names no bootstraps only where none is to run again.
abbrev pub RollbacksPlain : Type 0
RollbacksPlain = (p : SessionState) (h : List TraceEvent) (name : List ℕ) → IsProper p (Recorded (Failing name) ∷ h) → HasNoBacks (state_after p h).device
