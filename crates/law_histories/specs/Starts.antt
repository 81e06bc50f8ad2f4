-- Which steps and bootstraps start.
use Rattle.std.specs.Prelude.{◌≡◌, ◌⊎◌, ℕ, true, false, List, [], ◌∷◌, ◌++◌, take, Some, None, slice_get}
use Rattle.std.specs.List.{list_any, Contains, IsDistinct}
use Rattle.std.specs.Option.{IfSome}
use Rattle.std.specs.Str.{bytes_eq}
use Rattle.nuc_base.specs.declared.kinds.Step.{Step}
use Rattle.nuc_base.specs.declared.kinds.Step.TheVariants as step
use Rattle.records.specs.Stored.{Item, Record, BootBegun, BootEnded}
use Rattle.records.specs.declared.record.Origin.{Origin}
use Rattle.device.specs.Devices.{Device, Pending}
use Rattle.device.specs.Lawful.{boots_of, next_boot}
use Rattle.device.specs.Sound.{IsSound}
use Rattle.step_runner.specs.declared.command.Command.{Command}
use Rattle.step_runner.specs.declared.entries.RunnerEntry.{RunnerEntry}
use Rattle.step_runner.specs.declared.entries.Seen.TheVariants as seen
use Rattle.components.specs.Made.{IsStepAt}
use Rattle.components.specs.declared.kinds.Prepared.{Prepared}
use Rattle.histories.specs.Phases.{begins_stage, duty_of}
use Rattle.histories.specs.TraceEvents.{TraceEvent, Ran, Booted, records_of}
use Rattle.histories.specs.States.{SessionState, state_after}
use Rattle.histories.specs.Causes.{HasNoneOwed}
use Rattle.law_histories.specs.Stood.{IsHistory, HasHappened}

-- ---- none while a failure is not recorded

-- Where a step of a component starts, every failure of before is recorded.
abbrev pub AllStartsOweNone : Type 0
AllStartsOweNone = (p : SessionState) (h before : List TraceEvent) (e : RunnerEntry) (k : ℕ) (s : Step) (n : ℕ) (c : Command) → IsHistory p h →
    HasHappened h (Ran e k s) before → e.seen ≡ seen.Started n c
    → HasNoneOwed (state_after p before)

-- Where a bootstrap starts, so is every end of a bootstrap.
abbrev pub AllBootsOweNone : Type 0
AllBootsOweNone = (p : SessionState) (h before : List TraceEvent) (e : RunnerEntry) (m : Prepared) (n : ℕ) (c : Command) → IsHistory p h →
    HasHappened h (Booted e m) before → e.seen ≡ seen.Started n c
    → HasNoneOwed (state_after p before) × ((state_after p before).boot_end ≡ None)

-- ---- no ended bootstrap again

-- the bootstrap step of the item of this name, among those of the stage
pub record IsBootOf (d : Device) (name : List ℕ) (m : Prepared) : Type 0 where
  pub origin : Origin
  pub of_device : d.origin ≡ Some origin
  pub at : ℕ
  pub item : Item
  pub there : slice_get (duty_of d).boots at ≡ Some item
  pub named : item.name ≡ name
  pub prepared : IsStepAt origin (duty_of d).boots at step.Bootstrap (Some m)

-- Its beginning is the record kept last; or none was kept yet, and it stood at the start.
abbrev pub IsBegunLast : Device → List Record → Pending → List ℕ → Type 0
IsBegunLast d records q name = ((earlier : List Record) × (records ≡ earlier ++ BootBegun name ∷ [])) ⊎ ((records ≡ []) × (d.pending ≡ Some q))

-- the bootstraps whose ends are recorded
abbrev pub ended_names : List Record → List (List ℕ)
ended_names [] = []
ended_names (BootEnded n e ∷ records) = n ∷ ended_names records
ended_names (r ∷ records) = ended_names records

-- These ended in the stage: in this call behind the record that began it; or the call began in it, and they ended before the
-- call or in it.
abbrev pub EndedInStage : Device → List Record → Pending → List (List ℕ) → Type 0
EndedInStage d records q ended = ((earlier : List Record) × (after : List Record) × (r : Record) × (records ≡ earlier ++ r ∷ after) ×
    (begins_stage r ≡ true) × (list_any begins_stage after ≡ false) × (ended ≡ ended_names after))
    ⊎ ((old : Pending) × (d.pending ≡ Some old) × (old.stage ≡ q.stage) × (boots_of old ≡ boots_of q) × (list_any begins_stage records ≡ false) ×
    (ended ≡ take old.ended (boots_of q) ++ ended_names records))

-- The bootstrap is the first of the stage that has not ended, it has begun, and its record says so.
pub record IsFirstLeft (p : SessionState) (h : List TraceEvent) (m : Prepared) : Type 0 where
  pub q : Pending
  pub pending : (state_after p h).device.pending ≡ Some q
  pub name : List ℕ
  pub is : IsBootOf (state_after p h).device name m
  pub good : q.boot_failed ≡ false
  pub begun : q.begun ≡ true
  pub recorded : IsBegunLast p.device (records_of h) q name
  pub ended : List (List ℕ)
  pub are : EndedInStage p.device (records_of h) q ended
  pub first : ended ≡ take q.ended (boots_of q)
  pub next : next_boot q ≡ Some name
  pub new : IsDistinct bytes_eq (boots_of q) → Contains ended name → ⊥

-- No bootstrap starts in a stage in which it ended.
abbrev pub BootsStartOnce : Type 0
BootsStartOnce = (p : SessionState) (h before : List TraceEvent) (e : RunnerEntry) (m : Prepared) (n : ℕ) (c : Command) → IsHistory p h →
    HasHappened h (Booted e m) before → e.seen ≡ seen.Started n c
    → IsFirstLeft p before m

-- In a device that records have left the bootstraps of a stage differ by name.
abbrev pub BootsDiffer : Type 0
BootsDiffer = (p : SessionState) (h : List TraceEvent) → IsHistory p h → IsSound p.device →
    IfSome (state_after p h).device.pending (λ q. IsDistinct bytes_eq (boots_of q))
