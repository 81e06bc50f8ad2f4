-- Why a deployment with ROLLBACK closes as the old set, or as neither.
use Rattle.std.specs.Prelude.{◌≡◌, ◌⊎◌, ℕ, ◌+◌, Bool, true, false, List, [], ◌∷◌, ◌++◌, map, Option, Some, None, get_or, slice_get, ◌==◌, if◌then◌else◌, ⊤}
use Rattle.std.specs.List.{list_any, list_all}
use Rattle.std.specs.Option.{IsSomeAnd}
use Rattle.nuc_base.specs.declared.kinds.Exit.{Exit}
use Rattle.nuc_base.specs.declared.kinds.Outcome.{Outcome}
use Rattle.nuc_base.specs.declared.kinds.Outcome.TheVariants as outcomes
use Rattle.nuc_base.specs.declared.kinds.Policy.TheVariants as policies
use Rattle.records.specs.Stored.{Item, Plan, Record, Accepted, BootEnded, Activating, StepFailed, Failing, FailingBack, Closed}
use Rattle.device.specs.declared.staged.Stage.TheVariants as stages
use Rattle.device.specs.declared.staged.Stage.{Stage}
use Rattle.device.specs.Devices.{Device, Pending}
use Rattle.device.specs.Lawful.{Run, goes_on, next_boot, place}
use Rattle.device.specs.Plans.{item_name}
use Rattle.histories.specs.TraceEvents.{TraceEvent, Recorded, records_of}
use Rattle.histories.specs.States.{SessionState, state_after, takes_document}
use Rattle.histories.specs.Follows.{HasNoBacks}
use Rattle.law_histories.specs.Stood.{IsHistory, HasHappened}
use Rattle.law_histories.specs.Ends.{is_step_failure}

-- ---- which deployment

abbrev pub TakesNone : List Record → Type 0
TakesNone records = list_any takes_document records ≡ false

-- It was accepted, and none since; or it was pending at the start, and none was accepted.
abbrev pub WasTaken : Device → List Record → Plan → Type 0
WasTaken d records plan = ((earlier : List Record) × (after : List Record) × (records ≡ earlier ++ Accepted plan ∷ after) × TakesNone after)
    ⊎ (IsSomeAnd d.pending (λ q. q.plan ≡ plan) × TakesNone records)

-- ---- that its steps failed

-- Its end is the record kept last, and a failure; or none was kept yet, and that stood at the start.
abbrev pub IsFailedLast : Device → List Record → Pending → List ℕ → Type 0
IsFailedLast d records q name = ((earlier : List Record) × (e : Exit) × (records ≡ earlier ++ BootEnded name e ∷ []) × (goes_on e ≡ false)) ⊎
    ((records ≡ []) × (d.pending ≡ Some q))

-- A bootstrap of its plan failed.
pub record HasFailedBoot (d : Device) (records : List Record) (q : Pending) (name : List ℕ) : Type 0 where
  pub stage : q.stage ≡ stages.Booting
  pub failed : q.boot_failed ≡ true
  pub next : next_boot q ≡ Some name
  pub recorded : IsFailedLast d records q name

abbrev pub is_at : ℕ → Option ℕ → Bool
is_at k None = false
is_at k (Some j) = j == k

-- the record is a failure of the item at this place
abbrev pub fails_at : List Item → ℕ → Record → Bool
fails_at items k (StepFailed n s e) = is_at k (place n items)
fails_at items k r = false

-- how many of the records are
abbrev pub failures_at : List Item → ℕ → List Record → ℕ
failures_at items k [] = 0
failures_at items k (r ∷ records) = failures_at items k records + (if fails_at items k r then 1 else 0)

abbrev pub AreFailures : List Record → Type 0
AreFailures records = list_all is_step_failure records ≡ true

-- Behind the record that began the stage only failures were recorded, and so many of them at this place; or the call began
-- in the stage, and with those that the device had counted by then they are so many.
abbrev pub FailedSoOften : Device → List Record → Pending → ℕ → ℕ → Type 0
FailedSoOften d records q k n = ((earlier : List Record) × (after : List Record) × (records ≡ earlier ++ Activating ∷ after) × AreFailures after ×
    (failures_at q.plan.items k after ≡ n))
    ⊎ ((old : Pending) × (d.pending ≡ Some old) × (old.stage ≡ stages.Activating) × (old.plan ≡ q.plan) × AreFailures records ×
    (get_or old.failures k 0 + failures_at q.plan.items k records ≡ n))

-- A component of its plan failed three times, and each of these failures is recorded.
pub record HasBrokenItem (d : Device) (records : List Record) (q : Pending) (name : List ℕ) : Type 0 where
  pub stage : q.stage ≡ stages.Activating
  pub at : ℕ
  pub named : slice_get (map item_name q.plan.items) at ≡ Some name
  pub counted : slice_get q.failures at ≡ Some 3
  pub recorded : FailedSoOften d records q at 3

abbrev pub HasCause : Device → List Record → Pending → List ℕ → Type 0
HasCause d records q name = HasFailedBoot d records q name ⊎ HasBrokenItem d records q name

-- ---- that it was rolled back

-- Among these records one began its rollback, where its steps had failed.
pub record HasBegunRollback (d : Device) (records : List Record) (plan : Plan) : Type 0 where
  pub name : List ℕ
  pub failing : Record
  pub is : (failing ≡ Failing name) ⊎ (failing ≡ FailingBack name)
  pub earlier : List Record
  pub after : List Record
  pub split : records ≡ earlier ++ failing ∷ after
  pub since : TakesNone after
  pub taken : WasTaken d earlier plan
  -- the device at that place, and the deployment that is pending in it
  pub device : Device
  pub run : Run d earlier device
  pub q : Pending
  pub pending : device.pending ≡ Some q
  pub same : q.plan ≡ plan
  pub cause : HasCause d earlier q name

abbrev pub is_way_back : Stage → Bool
is_way_back stage = elim stage [ stages.Booting ↦ false | stages.Activating ↦ false | stages.Backing ↦ true | stages.Rolling ↦ true ]

-- It was on its way back already at the start.
pub record WasOnWayBack (d : Device) (records : List Record) (plan : Plan) : Type 0 where
  pub q : Pending
  pub pending : d.pending ≡ Some q
  pub same : q.plan ≡ plan
  pub back : is_way_back q.stage ≡ true
  pub since : TakesNone records

abbrev pub HasRolledBack : Device → List Record → Plan → Type 0
HasRolledBack d records plan = HasBegunRollback d records plan ⊎ WasOnWayBack d records plan

-- how the pending deployment may close behind these records, with its policy
abbrev pub IsCaused : Device → List Record → Pending → Outcome → Type 0
IsCaused d records q outcomes.Successful = ⊤
IsCaused d records q outcomes.RollbackNotRequested = q.plan.policy ≡ policies.DoNothing
IsCaused d records q outcomes.RollbackComplete = HasRolledBack d records q.plan
IsCaused d records q outcomes.UnableToRollback = HasRolledBack d records q.plan

-- ---- laws

-- A deployment closes as its whole new set; as it is, without ROLLBACK; or else only where its steps failed and that is recorded.
abbrev pub ClosesCaused : Type 0
ClosesCaused = (p : SessionState) (h before : List TraceEvent) (o : Outcome) → IsHistory p h → HasHappened h (Recorded (Closed o)) before
    → IsSomeAnd (state_after p before).device.pending (λ q. IsCaused p.device (records_of before) q o)

-- So it is along every run, over however many calls. A deployment is pending only in a device that has an origin.
abbrev pub RunsCloseCaused : Type 0
RunsCloseCaused = (d e : Device) (before after : List Record) (o : Outcome) → (d.origin ≡ None → d.pending ≡ None) → Run d (before ++ Closed o ∷ after) e
    → (c : Device) × Run d before c × IsSomeAnd c.pending (λ q. IsCaused d before q o)

-- It is rolled back by the record that names no bootstraps only where none of the set is to run again.
abbrev pub AllRollbacksPlain : Type 0
AllRollbacksPlain = (p : SessionState) (h before : List TraceEvent) (name : List ℕ) → IsHistory p h → HasHappened h (Recorded (Failing name)) before →
    HasNoBacks (state_after p before).device
