-- Where records stand in a history, and what is told where a step starts.
use Rattle.std.proofs.Common.{◌≡◌, inl, inr, ◌∙◌, ℕ, List, [], ◌∷◌, ◌++◌, refl, sym, ap, subst}
use Rattle.records.specs.Stored.{Record, Failing}
use Rattle.step_runner.specs.declared.command.Command.{Command}
use Rattle.step_runner.specs.declared.entries.RunnerEntry.{RunnerEntry}
use Rattle.step_runner.specs.declared.entries.Seen.{Seen}
use Rattle.step_runner.specs.declared.entries.Seen.TheVariants as seen
use Rattle.components.specs.declared.kinds.Prepared.{Prepared}
use Rattle.histories.specs.Phases.{duty_of}
use Rattle.histories.specs.TraceEvents.{TraceEvent, Ran, Booted, Recorded, records_of}
use Rattle.histories.specs.States.{SessionState, state_after}
use Rattle.histories.specs.Follows.{MayBoot, MayBooted, MayRun}
use Rattle.law_histories.specs.Stood.{IsHistory, HasHappened, RecordsStand}
use Rattle.law_histories.specs.Starts.{AllBootsOweNone, AllStartsOweNone}
use Rattle.law_histories.specs.Rollbacks.{AllRollbacksPlain}
use Rattle.law_histories.proofs.Growing.{cut_last, not_empty}
use Rattle.law_histories.proofs.Histories.{history_at, silent}

-- ---- records

-- it stands in the history between these records
pub record Placed (h : List TraceEvent) (r : Record) (earlier after : List Record) : Type 0 where
  pub before : List TraceEvent
  pub stood : HasHappened h (Recorded r) before
  pub first : records_of before ≡ earlier
  pub rest : records_of stood.later ≡ after

abbrev on : (e : TraceEvent) (h : List TraceEvent) (r : Record) (before : List TraceEvent) → HasHappened h (Recorded r) before
    → HasHappened (e ∷ h) (Recorded r) before
on e h r before s = record { later = e ∷ s.later; split = ap (λ (l : List TraceEvent). e ∷ l) s.split }

placed_last : (h : List TraceEvent) (y r : Record) (earlier after : List Record) → (after ≡ []) × (y ≡ r) × (records_of h ≡ earlier) →
    Placed (Recorded y ∷ h) r earlier after
placed_last h y r earlier after is = record {
  before = h;
  stood = record { later = []; split = ap (λ (x : Record). Recorded x ∷ h) is.1 };
  first = is.2;
  rest = sym is.0;
}

placed_more : (h : List TraceEvent) (y r : Record) (earlier after c : List Record) → after ≡ c ++ y ∷ [] → Placed h r earlier c →
    Placed (Recorded y ∷ h) r earlier after
placed_more h y r earlier after c is p = record {
  before = p.before;
  stood = on (Recorded y) h r p.before p.stood;
  first = p.first;
  rest = ap (λ (l : List Record). l ++ y ∷ []) p.rest ∙ sym is;
}

pub placed : (h : List TraceEvent) (earlier after : List Record) (r : Record) → records_of h ≡ earlier ++ r ∷ after → Placed h r earlier after
placed [] earlier after r is = absurd (not_empty earlier r after is)
placed (Recorded y ∷ h) earlier after r is = elim (cut_last (records_of h) y earlier r after is) [
  | inl l ↦ placed_last h y r earlier after l
  | inr l ↦ placed_more h y r earlier after l.0 l.1 (placed h earlier l.0 r l.2)
]
placed (e ∷ h) earlier after r is =
    let s = silent e refl in
    let p = placed h earlier after r (sym (s.records h) ∙ is) in
    record { before = p.before; stood = on e h r p.before p.stood; first = p.first; rest = s.records p.stood.later ∙ p.rest }

pub records_stand : RecordsStand
records_stand h earlier after r is = let p = placed h earlier after r is in (p.before, p.stood, p.first)

-- ---- starts

pub starts_told : AllStartsOweNone
starts_told p h before e k s n c is stood started =
    let may = (history_at p h (Ran e k s) before is stood).proper.0.0.0 in
    (subst (λ (x : Seen). MayRun (duty_of (state_after p before).device) (state_after p before) x k s) started may).0.owes_none

pub may_boot : (p : SessionState) (h before : List TraceEvent) (e : RunnerEntry) (m : Prepared) (n : ℕ) (c : Command) → IsHistory p h →
    HasHappened h (Booted e m) before → e.seen ≡ seen.Started n c
    → MayBoot (duty_of (state_after p before).device) (state_after p before) m
may_boot p h before e m n c is stood started =
    let may = (history_at p h (Booted e m) before is stood).proper.0.0.0 in
    (subst (λ (x : Seen). MayBooted (duty_of (state_after p before).device) (state_after p before) x m) started may).0

pub boots_told : AllBootsOweNone
boots_told p h before e m n c is stood started = let may = may_boot p h before e m n c is stood started in (may.owes_none, may.no_end)

-- ---- the way back without bootstraps

pub rollbacks_plain : AllRollbacksPlain
rollbacks_plain p h before name is stood = (history_at p h (Recorded (Failing name)) before is stood).proper.0.0.1
