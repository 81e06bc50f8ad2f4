-- The record of a failure in a history.
use Rattle.std.specs.Prelude.{ℕ, Bool, List, [], true, ◌∷◌, Option, Some, None, Contains, IsSome}
use Rattle.std.proofs.Common.{◌≡◌, ◌↔◌, ◌∙◌, refl, sym, ap, subst}
use Rattle.std.proofs.lemmas.List.{append-nil}
use Rattle.disk_model.specs.Disk.{Image, HasLeft, DiskLaws}
use Rattle.nuc_base.specs.declared.kinds.Exit.{Exit}
use Rattle.nuc_base.specs.declared.kinds.Step.{Step}
use Rattle.records.specs.Stored as stored
use Rattle.records.specs.Stored.{Record}
use Rattle.device.specs.Devices.{Device, Pending}
use Rattle.device.specs.Lawful.{Allowed, applied, counted, failing_place}
use Rattle.deploy_state.specs.Owned.{LeavesEither}
use Rattle.step_runner.specs.Entries.{Told}
use Rattle.step_runner.specs.declared.entries.RunnerEntry.{RunnerEntry}
use Rattle.components.specs.Components.{Components, owner}
use Rattle.components.specs.Answers.{has_answered}
use Rattle.components.specs.Events.{heard_at}
use Rattle.histories.specs.Phases.{Phase}
use Rattle.histories.specs.TraceEvents.{Recorded, records_of}
use Rattle.histories.specs.States.{SessionState, leaves}
use Rattle.histories.specs.Follows.{MayFollow}
use Rattle.session_boots.specs.Lines.{failed_line, id_of, line_of, lines_of}
use Rattle.session_boots.specs.Ends.{LeftAt}
use Rattle.session_boots.specs.Traces.{IsTrace}
use Rattle.session_boots.specs.declared.ends.SessionFault.TheVariants as over
use Rattle.session_boots.proofs.Joins.{kept_one}
use Rattle.session_boots.proofs.Records.{doubt_at}
use Rattle.law_supervisor.specs.Keeps.{IsSupervised}
use Rattle.session_startup.specs.Laws.{Laws}
use Rattle.session_startup.specs.Runs.{HasFailed, IsInTurn, rises}
use Rattle.session_acts.proofs.Answered.{free_is, free_told, is_free}
use Rattle.session_acts.proofs.Entering.{never}
use Rattle.session_startup.proofs.Failed.{CanFail, phase_on, told_same}

pub fail_runs : Laws → (p : SessionState) (k : ℕ) (s : Step) (e : Exit) (n : List ℕ) (world : Components) (told : Told) (living : List ℕ) →
    HasFailed p k s e world told living → CanFail p.device p.world k s e n
    → IsInTurn (leaves p (Recorded (stored.StepFailed n s e))) world told living
fail_runs laws p k s e n world told living h can =
    let w = h.within in
    let same = told_same n k p.world can.place in
    record {
      within = record {
        on = record {
          phase = ap (λ (f : Phase). rises f) (phase_on p.device n s e) ∙ w.on.phase;
          generation = w.on.generation;
          boot = w.on.boot;
          boot_end = w.on.boot_end;
          over = refl;
          cut = w.on.cut;
        };
        keeps = subst (λ (v : Components). IsSupervised (applied p.device (stored.StepFailed n s e)) v) (sym same)
            (laws.keeps_told p.device k n s e h.breaks p.world w.keeps h.owes can.named);
        answered = subst (λ (v : Components). has_answered v ≡ true) (sym same)
            (free_is (heard_at k p.world) (free_told k p.world ∙ is_free p.world w.answered));
        moment = w.moment ∙ sym (ap (λ (v : Components). v.moment) same);
        asked = w.asked;
        due = w.due;
        children = λ m. subst (λ (o : Option (ℕ × Step)). Contains living m ↔ IsSome o)
            (sym (ap (λ (v : Components). owner m v.parts) same ∙ laws.owner_heard m k p.world)) (w.children m);
      };
      probed = refl;
      world_is = h.world_is ∙ sym same;
    }

fail_follows : (p : SessionState) (k : ℕ) (s : Step) (e : Exit) (n : List ℕ) (world : Components) (told : Told) (living : List ℕ) →
    HasFailed p k s e world told living → CanFail p.device p.world k s e n → MayFollow p (Recorded (stored.StepFailed n s e))
fail_follows p k s e n world told living h can = (can.owes, (λ cut. absurd (never p.cut h.within.on.cut cut)), h.within.on.over)

-- ---- its line

id_counted : (q : Pending) (o : Option ℕ) → (counted o q).plan.id ≡ q.plan.id
id_counted q None = refl
id_counted q (Some k) = refl

abbrev pends : Device → Option Pending → Device
pends d o = record d { pending = o }

same_id_in : (d : Device) (o : Option Pending) (n : List ℕ) (s : Step) (e : Exit) → id_of (applied (pends d o) (stored.StepFailed n s e)) ≡ id_of (pends d o)
same_id_in d None n s e = refl
same_id_in d (Some q) n s e = id_counted q (failing_place d.set q n)

same_id : (d : Device) (n : List ℕ) (s : Step) (e : Exit) → id_of (applied d (stored.StepFailed n s e)) ≡ id_of d
same_id d n s e = same_id_in d d.pending n s e

pub line_failed : (p : SessionState) (d e : Device) (n : List ℕ) (s : Step) (x : Exit) → p.device ≡ d → e ≡ applied d (stored.StepFailed n s x) →
    line_of e (stored.StepFailed n s x) ≡ lines_of p.device (records_of (Recorded (stored.StepFailed n s x) ∷ []))
line_failed p d e n s x device same =
    ap (λ (id : List ℕ). failed_line id n s x) (ap id_of same ∙ same_id d n s x ∙ ap id_of (sym device)) ∙ sym
    (append-nil (line_of p.device (stored.StepFailed n s x)))

still_in : (d : Device) (o : Option Pending) (n : List ℕ) (s : Step) (e : Exit) → IsSome o → IsSome (applied (pends d o) (stored.StepFailed n s e)).pending
still_in d None n s e h = absurd cc
still_in d (Some q) n s e h = refl

pub still_pends : (d e : Device) (n : List ℕ) (s : Step) (x : Exit) → IsSome d.pending → e ≡ applied d (stored.StepFailed n s x) → IsSome e.pending
still_pends d e n s x h same = subst (λ (y : Device). IsSome y.pending) (sym same) (still_in d d.pending n s x h)

-- ---- over a disk

module _ (entries : Image → List (List ℕ) → Type 0) (files : List ℕ → Type 0) {D : Type 0} {may_leave : D → Image → Type 0} {moment : D → ℕ} {left_since : D →
    ℕ → Image → Type 0} {is_modelled : Bool} {seen : D → Image}
    (laws : DiskLaws is_modelled seen may_leave moment left_since) where
  abbrev Notes : D → D → Device → Record → Type 0
  Notes old new d r = HasLeft moment left_since old new (LeavesEither may_leave files entries old d (applied d r))

  pub fail_went : (old new : D) (list : Option (List RunnerEntry)) (p : SessionState) (d : Device) (k : ℕ) (s : Step) (e : Exit) (n : List ℕ)
      (world : Components) (told : Told) (living : List ℕ) → p.device ≡ d → HasFailed p k s e world told living
      → CanFail p.device p.world k s e n → Notes old new d (stored.StepFailed n s e) → IsTrace entries files may_leave moment left_since old new list list p
      (Recorded (stored.StepFailed n s e) ∷ [])
  fail_went old new list p d k s e n world told living same h can notes =
      kept_one entries files laws old new list p (stored.StepFailed n s e) (fail_follows p k s e n world told living h can) can.allowed
      (subst (λ (x : Device). Notes old new x (stored.StepFailed n s e)) (sym same) notes)

  pub fail_doubt : (old new : D) (p : SessionState) (d : Device) (k : ℕ) (s : Step) (e : Exit) (n : List ℕ) → p.device ≡ d →
      CanFail p.device p.world k s e n → Notes old new d (stored.StepFailed n s e)
      → LeftAt entries may_leave new p (Recorded (stored.StepFailed n s e) ∷ []) over.Disk
  fail_doubt old new p d k s e n same can notes =
      doubt_at entries files laws old new p d (stored.StepFailed n s e) same (subst (λ (x : Device). Allowed x (stored.StepFailed n s e)) same can.allowed)
      notes
