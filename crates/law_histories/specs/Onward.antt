-- What a call leaves that resumes a deployment and records no failure.
use Rattle.std.specs.Prelude.{◌≡◌, ◌⊎◌, ℕ, ◌<◌, ◌≤◌, true, false, List, [], ◌∷◌, ◌++◌, length, Some, None}
use Rattle.nuc_base.specs.declared.kinds.Outcome.{Outcome}
use Rattle.nuc_base.specs.declared.kinds.Outcome.TheVariants as outcomes
use Rattle.records.specs.Stored.{Plan, Record, Accepted}
use Rattle.device.specs.declared.staged.Stage.TheVariants as stages
use Rattle.device.specs.Devices.{Device, Pending}
use Rattle.device.specs.Lawful.{accepted, broken}
use Rattle.histories.specs.TraceEvents.{TraceEvent, records_of}
use Rattle.histories.specs.States.{SessionState, state_after}
use Rattle.law_histories.specs.Stood.{IsHistory}
use Rattle.law_histories.specs.Ends.{RecordsNoFailure}

-- ---- how far a deployment is

-- The plan's bootstraps run, and none failed; or its items come up, and none failed three times.
abbrev pub ComesUp : Pending → Type 0
ComesUp q = ((q.stage ≡ stages.Booting) × (q.boot_failed ≡ false)) ⊎ ((q.stage ≡ stages.Activating) × (broken q ≡ None))

-- The set's bootstraps run again, and none failed; or its items come up again, and none failed three times.
abbrev pub GoesBack : Pending → Type 0
GoesBack q = ((q.stage ≡ stages.Backing) × (q.boot_failed ≡ false)) ⊎ ((q.stage ≡ stages.Rolling) × (broken q ≡ None))

-- the same deployment, of whose bootstraps no fewer are ended
pub record IsNoLess (old new : Pending) : Type 0 where
  pub plan : new.plan ≡ old.plan
  pub backs : new.backs ≡ old.backs
  pub ended : old.ended ≤ new.ended

-- It closed so, before any other did.
abbrev pub ClosedAs : Device → Plan → Outcome → Device → Type 0
ClosedAs d plan o e = (more : List (List ℕ × Outcome)) × (e.closed ≡ (d.closed ++ (plan.id, o) ∷ []) ++ more)

-- ---- on the way up

-- One more of the plan's bootstraps is ended, of as many as there are.
pub record IsOneOn (old new : Pending) : Type 0 where
  pub stage : old.stage ≡ stages.Booting
  pub still : new.stage ≡ stages.Booting
  pub more : old.ended < new.ended
  pub most : new.ended ≤ length new.plan.boots

-- It is pending and still comes up; and where the call ended for a restart, one more bootstrap of its plan is ended.
pub record StillComes (p : SessionState) (h : List TraceEvent) (old : Pending) : Type 0 where
  pub new : Pending
  pub pending : (state_after p h).device.pending ≡ Some new
  pub up : ComesUp new
  pub no_less : IsNoLess old new
  pub restarted : (state_after p h).over ≡ true → IsOneOn old new

-- A deployment that comes up and of which no failure is recorded closes SUCCESSFUL, or gets on.
abbrev pub ResumesGoOn : Type 0
ResumesGoOn = (p : SessionState) (h : List TraceEvent) (q : Pending) → IsHistory p h → p.device.pending ≡ Some q → ComesUp q → RecordsNoFailure h
    → ClosedAs p.device q.plan outcomes.Successful (state_after p h).device ⊎ StillComes p h q

-- So does one that the call accepts by its first record.
abbrev pub DeploysGoOn : Type 0
DeploysGoOn = (p : SessionState) (h : List TraceEvent) (plan : Plan) (after : List Record) → IsHistory p h → records_of h ≡ Accepted plan ∷ after →
    RecordsNoFailure h
    → ClosedAs p.device plan outcomes.Successful (state_after p h).device ⊎ StillComes p h (accepted plan)

-- ---- on the way back

-- One more of the backs is ended, of as many as there are; behind the last one the set's items come up again.
pub record IsOneBack (old new : Pending) : Type 0 where
  pub stage : old.stage ≡ stages.Backing
  pub more : old.ended < new.ended
  pub most : new.ended ≤ length new.backs

pub record StillGoesBack (p : SessionState) (h : List TraceEvent) (old : Pending) : Type 0 where
  pub new : Pending
  pub pending : (state_after p h).device.pending ≡ Some new
  pub back : GoesBack new
  pub no_less : IsNoLess old new
  pub restarted : (state_after p h).over ≡ true → IsOneBack old new

-- One on its way back of which no failure is recorded closes as the old set, or gets on.
abbrev pub BacksGoOn : Type 0
BacksGoOn = (p : SessionState) (h : List TraceEvent) (q : Pending) → IsHistory p h → p.device.pending ≡ Some q → GoesBack q → RecordsNoFailure h
    → ClosedAs p.device q.plan outcomes.RollbackComplete (state_after p h).device ⊎ StillGoesBack p h q
