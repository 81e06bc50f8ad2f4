-- Which end each recorded failure has at the runner.
use Rattle.std.specs.Prelude.{◌≡◌, ℕ, Bool, true, false, not, List, [], ◌∷◌, Some, pos}
use Rattle.std.specs.List.{list_any}
use Rattle.nuc_base.specs.declared.kinds.Step.{Step}
use Rattle.nuc_base.specs.declared.kinds.Exit.{Exit}
use Rattle.nuc_base.specs.declared.kinds.Exit.TheVariants as exits
use Rattle.records.specs.Stored.{Record, BootEnded, StepFailed}
use Rattle.device.specs.Lawful.{goes_on}
use Rattle.step_runner.specs.declared.entries.RunnerEntry.{RunnerEntry}
use Rattle.step_runner.specs.declared.entries.Seen.{Seen}
use Rattle.step_runner.specs.declared.entries.Seen.TheVariants as seen
use Rattle.components.specs.Components.{Components, At, owner, component_name}
use Rattle.components.specs.Deadlines.{has_passed}
use Rattle.components.specs.Events.{is_late_child}
use Rattle.components.specs.declared.kinds.Prepared.{Prepared}
use Rattle.histories.specs.Phases.{duty_of}
use Rattle.histories.specs.TraceEvents.{TraceEvent, Ran, Booted, Recorded, records_of}
use Rattle.histories.specs.States.{SessionState, state_after}
use Rattle.histories.specs.Follows.{IsBootChild, OwesBy}
use Rattle.histories.specs.Waits.{boot_deadline}
use Rattle.histories.specs.Causes.{HasNoneOwed}
use Rattle.law_histories.specs.Stood.{IsHistory, HasHappened}

-- ---- of a component

-- The step of this component ended so: its child did, its start was refused, or its child was killed past its limit.
abbrev pub IsStepEnd : Components → Seen → ℕ → Step → Exit → Type 0
IsStepEnd w (seen.Ended n x limit) k s e = (owner n w.parts ≡ Some (k, s)) × (x ≡ e)
IsStepEnd w (seen.Refused c) k s e = e ≡ exits.NotStarted
IsStepEnd w (seen.Killed n) k s e = (owner n w.parts ≡ Some (k, s)) × At k (λ q. is_late_child w.moment n q ≡ true) w.parts × (e ≡ exits.TimedOut)
IsStepEnd w x k s e = ⊥

abbrev pub is_step_failure : Record → Bool
is_step_failure (StepFailed n s e) = true
is_step_failure r = false

-- In this call a step of the component of this name ended so, which is a failure that it owes from there on; and no failure
-- was recorded since.
pub record HasStepEnd (p : SessionState) (h : List TraceEvent) (name : List ℕ) (s : Step) (e : Exit) : Type 0 where
  pub entry : RunnerEntry
  pub who : ℕ
  pub before : List TraceEvent
  pub stood : HasHappened h (Ran entry who s) before
  pub is : IsStepEnd (state_after p before).world entry.seen who s e
  pub fails : At who (λ q. (component_name q ≡ name) × (q.owed ≡ Some (s, e))) (state_after p (Ran entry who s ∷ before)).world.parts
  pub since : list_any is_step_failure (records_of stood.later) ≡ false

-- ---- of a bootstrap

-- The bootstrap ended so: its child did, its start was refused, its child was killed past its limit, or it was skipped.
abbrev pub IsBootEnd : SessionState → Seen → Exit → Type 0
IsBootEnd q (seen.Ended n x limit) e = IsBootChild n q × (x ≡ e)
IsBootEnd q (seen.Refused c) e = e ≡ exits.NotStarted
IsBootEnd q (seen.Killed n) e = IsBootChild n q × (has_passed q.world.moment (boot_deadline q.boot) ≡ true) × (e ≡ exits.TimedOut)
IsBootEnd q (seen.Exists x true) e = e ≡ exits.Code (pos 0)
IsBootEnd q (seen.OnPath x true) e = e ≡ exits.Code (pos 0)
IsBootEnd q x e = ⊥

-- In this call the bootstrap of this name, which was next, ended so, and no record was kept since.
pub record HasBootEnd (p : SessionState) (h : List TraceEvent) (name : List ℕ) (e : Exit) : Type 0 where
  pub entry : RunnerEntry
  pub made : Prepared
  pub before : List TraceEvent
  pub stood : HasHappened h (Booted entry made) before
  pub is : IsBootEnd (state_after p before) entry.seen e
  pub next : (duty_of (state_after p before).device).next_bootstrap ≡ Some name
  pub since : records_of stood.later ≡ []

-- ---- no failure

-- No end, no refused start and no passed limit in the call is a failure: no component owes one behind it, and each bootstrap
-- ended well.
pub record NoneFails (p : SessionState) (h : List TraceEvent) : Type 0 where
  pub steps : (entry : RunnerEntry) (k : ℕ) (s : Step) (before : List TraceEvent) → HasHappened h (Ran entry k s) before →
      HasNoneOwed (state_after p (Ran entry k s ∷ before))
  pub boots : (entry : RunnerEntry) (m : Prepared) (e : Exit) (before : List TraceEvent) → HasHappened h (Booted entry m) before →
      IsBootEnd (state_after p before) entry.seen e → goes_on e ≡ true

abbrev pub is_failure : Record → Bool
is_failure (StepFailed n s e) = true
is_failure (BootEnded n e) = not (goes_on e)
is_failure r = false

abbrev pub RecordsNoFailure : List TraceEvent → Type 0
RecordsNoFailure h = list_any is_failure (records_of h) ≡ false

-- ---- laws

-- Each failure that a call records is one that the component of that name still owed there, and the call has its end.
abbrev pub FailuresEnded : Type 0
FailuresEnded = (p : SessionState) (h before : List TraceEvent) (name : List ℕ) (s : Step) (e : Exit) → IsHistory p h →
    HasHappened h (Recorded (StepFailed name s e)) before
    → OwesBy (state_after p before).world name s e × HasStepEnd p before name s e

-- So it is with each end of a bootstrap.
abbrev pub BootsEnded : Type 0
BootsEnded = (p : SessionState) (h before : List TraceEvent) (name : List ℕ) (e : Exit) → IsHistory p h → HasHappened h (Recorded (BootEnded name e)) before
    → ((state_after p before).boot_end ≡ Some e) × HasBootEnd p before name e

-- Where nothing fails no failure is recorded.
abbrev pub NoneRecorded : Type 0
NoneRecorded = (p : SessionState) (h : List TraceEvent) → IsHistory p h → NoneFails p h → RecordsNoFailure h
