-- Which end of a bootstrap is still to be recorded.
use Rattle.std.proofs.Common.{◌≡◌, ◌∙◌, ℕ, Bool, true, false, List, [], ◌∷◌, ◌++◌, Option, Some, None, refl, sym, ap, subst, append-nil}
use Rattle.std.specs.Prelude.{if◌then◌else◌, pos}
use Rattle.std.specs.Option.{IsSomeAnd}
use Rattle.std.proofs.lemmas.Bool.{false≢true}
use Rattle.nuc_base.specs.declared.kinds.Exit.{Exit}
use Rattle.nuc_base.specs.declared.kinds.Exit.TheVariants as exits
use Rattle.nuc_base.specs.declared.kinds.Step.{Step}
use Rattle.records.specs.Stored as stored
use Rattle.records.specs.Stored.{Item, Record}
use Rattle.device.specs.declared.staged.Stage.{Stage}
use Rattle.device.specs.declared.staged.Stage.TheVariants as stages
use Rattle.device.specs.Devices.{Device, Pending}
use Rattle.device.specs.Lawful.{Allowed, MayCount, MayFail, Run, failing_place}
use Rattle.step_runner.specs.declared.entries.RunnerEntry.{RunnerEntry}
use Rattle.step_runner.specs.declared.entries.Seen.{Seen}
use Rattle.step_runner.specs.declared.entries.Seen.TheVariants as seen
use Rattle.components.specs.Components.{Child}
use Rattle.components.specs.declared.kinds.Prepared.{Prepared}
use Rattle.histories.specs.Phases.{duty_in, duty_of, has_boots}
use Rattle.histories.specs.Courses.{IsStart}
use Rattle.histories.specs.TraceEvents.{TraceEvent, Booted, KilledOnAbort, Recorded, records_of}
use Rattle.histories.specs.States.{SessionState, booted, cut_boot, cut_off, ends_boot, kept, state_after, noted}
use Rattle.histories.specs.Follows.{IsBootChild, IsClear, IsProper, MayBooted, MayKeep}
use Rattle.histories.proofs.Joined.{records-append}
use Rattle.law_histories.specs.Stood.{HasHappened}
use Rattle.law_histories.specs.Ends.{IsBootEnd, BootsEnded}
use Rattle.law_histories.proofs.Duties.{duty_by, next_is}
use Rattle.law_histories.proofs.Histories.{Runs, history_at, run_before, run_is, run_less}
use Rattle.law_histories.proofs.Facts.{no_some, some_same}

-- ---- what is known

-- A bootstrap ended so, and no record was kept since.
record HasEnded (p : SessionState) (h : List TraceEvent) (e : Exit) : Type 0 where
  entry : RunnerEntry
  made : Prepared
  before : List TraceEvent
  stood : HasHappened h (Booted entry made) before
  is : IsBootEnd (state_after p before) entry.seen e
  since : records_of stood.later ≡ []

abbrev Boots : SessionState → Type 0
Boots q = has_boots (duty_of q.device).phase ≡ true

-- where a bootstrap lives or has ended the stage is one of bootstraps
record Known (p : SessionState) (h : List TraceEvent) (q : SessionState) : Type 0 where
  lives : (c : Child) → q.boot ≡ Some c → Boots q
  ended : (e : Exit) → q.boot_end ≡ Some e → HasEnded p h e × Boots q

child_is : (n : ℕ) (q : SessionState) → IsBootChild n q → (c : Child) × (q.boot ≡ Some c)
child_is n q is = by q.boot refl is
  where
    by : (o : Option Child) → q.boot ≡ o → IsSomeAnd o (λ (c : Child). c.number ≡ n) → (c : Child) × (q.boot ≡ Some c)
    by None e is = absurd is
    by (Some c) e is = (c, e)

-- ---- later

on : (p : SessionState) (e : TraceEvent) (h : List TraceEvent) (x : Exit) → ((later : List TraceEvent) → records_of (e ∷ later) ≡ records_of later) →
    HasEnded p h x → HasEnded p (e ∷ h) x
on p e h x quiet d = record {
  entry = d.entry;
  made = d.made;
  before = d.before;
  stood = record { later = e ∷ d.stood.later; split = ap (λ (l : List TraceEvent). e ∷ l) d.stood.split };
  is = d.is;
  since = quiet d.stood.later ∙ d.since;
}

now : (p : SessionState) (h : List TraceEvent) (entry : RunnerEntry) (m : Prepared) (e : Exit) → IsBootEnd (state_after p h) entry.seen e →
    HasEnded p (Booted entry m ∷ h) e
now p h entry m e is = record { entry = entry; made = m; before = h; stood = record { later = []; split = refl }; is = is; since = refl }

-- ---- a record

clear_kept : (p : SessionState) (h : List TraceEvent) (q : SessionState) (r : Record) → IsClear q → ends_boot r ≡ false → Known p (Recorded r ∷ h) (kept r q)
clear_kept p h q r clear not = record {
  lives = λ c is. no_some c (sym clear.alone ∙ is);
  ended = λ e is. no_some e (sym clear.no_end ∙ subst (λ (b : Bool). (if b then None else q.boot_end) ≡ Some e) not is);
}

-- no component fails in a stage of bootstraps
fails_elsewhere : (d : Device) (n : List ℕ) (s : Step) (e : Exit) (o : Option Pending) → IsSomeAnd o (MayFail d.set n s e) →
    has_boots (duty_by d o).phase ≡ true → ⊥
fails_elsewhere d n s e None may boots = may
fails_elsewhere d n s e (Some q) may boots = by q.stage may.0 boots
  where
    by : (s : Stage) → MayCount (record q { stage = s }) (failing_place d.set (record q { stage = s }) n) →
        has_boots (duty_in d (record q { stage = s })).phase ≡ true → ⊥
    by stages.Booting may boots = may
    by stages.Activating may boots = false≢true boots
    by stages.Backing may boots = may
    by stages.Rolling may boots = false≢true boots

record_kept : (p : SessionState) (h : List TraceEvent) (q : SessionState) (r : Record) → MayKeep q r → Allowed q.device r → Known p h q →
    Known p (Recorded r ∷ h) (kept r q)
record_kept p h q (stored.Accepted x) may allowed known = clear_kept p h q (stored.Accepted x) may.0 refl
record_kept p h q (stored.BootBegun n) may allowed known = clear_kept p h q (stored.BootBegun n) may.0 refl
record_kept p h q (stored.BootEnded n e) may allowed known = record { lives = λ c is. no_some c (sym may.0 ∙ is); ended = λ x is. no_some x is }
record_kept p h q stored.Activating may allowed known = clear_kept p h q stored.Activating may refl
record_kept p h q (stored.StepFailed n s e) may allowed known =
    let none = fails_elsewhere q.device n s e q.device.pending allowed in
    record { lives = λ c is. absurd (none (known.lives c is)); ended = λ x is. absurd (none (known.ended x is).1) }
record_kept p h q (stored.Failing n) may allowed known = clear_kept p h q (stored.Failing n) may.0 refl
record_kept p h q (stored.FailingBack n) may allowed known = clear_kept p h q (stored.FailingBack n) may refl
record_kept p h q (stored.Closed o) may allowed known = clear_kept p h q (stored.Closed o) may.0 refl
record_kept p h q r may allowed known = absurd may

-- ---- an entry of the bootstrap

module _ (p : SessionState) (h : List TraceEvent) (entry : RunnerEntry) (m : Prepared) where
  abbrev After : Seen → Type 0
  After s = Known p (Booted entry m ∷ h) (noted s (booted s m (state_after p h)))

  -- it ends so
  ends : (s : Seen) (e : Exit) → entry.seen ≡ s → IsBootEnd (state_after p h) s e → (x : Exit) → Some e ≡ Some x → HasEnded p (Booted entry m ∷ h) x
  ends s e seen_is is x same = now p h entry m x (subst (λ (y : Seen). IsBootEnd (state_after p h) y x) (sym seen_is)
      (subst (λ (y : Exit). IsBootEnd (state_after p h) s y) (some_same e x same) is))

  entry_kept : (s : Seen) → entry.seen ≡ s → MayBooted (duty_of (state_after p h).device) (state_after p h) s m → Known p h (state_after p h) → After s
  entry_kept (seen.Started n c) is may known = record { lives = λ c is. may.0.phase; ended = λ x e. no_some x (sym may.0.no_end ∙ e) }
  entry_kept (seen.Refused c) is may known = record {
    lives = λ c e. no_some c (sym may.0.alone ∙ e);
    ended =
        λ x e. (ends (seen.Refused c) exits.NotStarted is refl x e, may.0.phase);
  }
  entry_kept (seen.Exists text true) is may known = record {
    lives = λ c e. no_some c (sym may.0.alone ∙ e);
    ended =
        λ x e. (ends (seen.Exists text true) (exits.Code (pos 0)) is refl x e, may.0.phase);
  }
  entry_kept (seen.Exists text false) is may known = record { lives = λ c e. no_some c (sym may.0.alone ∙ e); ended = λ x e. no_some x (sym may.0.no_end ∙ e) }
  entry_kept (seen.OnPath text true) is may known = record {
    lives = λ c e. no_some c (sym may.0.alone ∙ e);
    ended =
        λ x e. (ends (seen.OnPath text true) (exits.Code (pos 0)) is refl x e, may.0.phase);
  }
  entry_kept (seen.OnPath text false) is may known = record { lives = λ c e. no_some c (sym may.0.alone ∙ e); ended = λ x e. no_some x (sym may.0.no_end ∙ e) }
  entry_kept (seen.Killed n) is may known =
      let child = child_is n (state_after p h) may.0 in
      record { lives = λ c e. no_some c e; ended = λ x e. (ends (seen.Killed n) exits.TimedOut is (may.0, may.1, refl) x e, known.lives child.0 child.1) }
  entry_kept (seen.Ended n y limit) is may known =
      let child = child_is n (state_after p h) may.1 in
      record { lives = λ c e. no_some c e; ended = λ x e. (ends (seen.Ended n y limit) y is (may.1, refl) x e, known.lives child.0 child.1) }
  entry_kept (seen.Elapsed limit) is may known = absurd may

-- ---- a kill with which the call gives up

was_there : (n : ℕ) (o : Option Child) (c : Child) → cut_boot n o ≡ Some c → (b : Child) × (o ≡ Some b)
was_there n None c is = no_some c is
was_there n (Some b) c is = (b, refl)

cut_kept : (p : SessionState) (h : List TraceEvent) (q : SessionState) (entry : RunnerEntry) (s : Seen) → Known p h q →
    Known p (KilledOnAbort entry ∷ h) (noted s (cut_off s q))
cut_kept p h q entry (seen.Killed n) known = record {
  lives = λ c is. let was = was_there n q.boot c is in known.lives was.0 was.1;
  ended = λ e is. (on p (KilledOnAbort entry) h e (λ later. refl) (known.ended e is).0, (known.ended e is).1);
}
cut_kept p h q entry s known = record {
  lives = known.lives;
  ended = λ e is. (
    on p (KilledOnAbort entry) h e (λ later. refl) (known.ended e is).0,
    (known.ended e is).1,
  );
}

-- ---- along a history

begins : (p : SessionState) → IsStart p → Known p [] p
begins p start = record {
  lives = λ c is. no_some c (sym (ap (λ (q : SessionState). q.boot) start) ∙ is);
  ended =
      λ e is. no_some e (sym (ap (λ (q : SessionState). q.boot_end) start) ∙ is);
}

known_at : (p : SessionState) (h : List TraceEvent) → IsStart p → IsProper p h → Runs p h → Known p h (state_after p h)
known_at p [] start proper run = begins p start
known_at p (Recorded r ∷ h) start proper run =
    let b = run_before p r h run in
    record_kept p h (state_after p h) r proper.0.0 b.1 (known_at p h start proper.1 b.0)
known_at p (Booted entry m ∷ h) start proper run = entry_kept p h entry m entry.seen refl proper.0.0.0
    (known_at p h start proper.1 (run_less p (Booted entry m) h run))
known_at p (KilledOnAbort entry ∷ h) start proper run = cut_kept p h (state_after p h) entry entry.seen
    (known_at p h start proper.1 (run_less p (KilledOnAbort entry) h run))
known_at p (e ∷ h) start proper run =
    let known = known_at p h start proper.1 (run_less p e h run) in
    record { lives = known.lives; ended = λ x is. (on p e h x (λ later. refl) (known.ended x is).0, (known.ended x is).1) }

-- ---- the record

-- the device is the same where no record was kept since
same_device : (p : SessionState) (h : List TraceEvent) (e : TraceEvent) (before : List TraceEvent) (s : HasHappened h e before) → Runs p h →
    records_of s.later ≡ [] → ((l : List TraceEvent) → records_of (e ∷ l) ≡ records_of l) → (state_after p h).device ≡ (state_after p before).device
same_device p h e before s run none quiet =
    let records : records_of h ≡ records_of before
    = ap records_of s.split ∙ (records-append s.later (e ∷ before) ∙
    (ap (λ (l : List Record). records_of (e ∷ before) ++ l) none ∙ (append-nil (records_of (e ∷ before)) ∙ quiet before))) in
    run_is p before (state_after p h).device (subst (λ (l : List Record). Run p.device l (state_after p h).device) records run)

pub boots_ended : BootsEnded
boots_ended p h before name e is stood =
    let here = history_at p h (Recorded (stored.BootEnded name e)) before is stood in
    let end = here.proper.0.0.1 in
    let b = run_before p (stored.BootEnded name e) before here.run in
    let d = ((known_at p before here.start here.proper.1 b.0).ended e end).0 in
    let is_next = next_is (state_after p before).device name (state_after p before).device.pending b.1 in
    let same = same_device p before (Booted d.entry d.made) d.before d.stood b.0 d.since (λ l. refl) in (
      end,
      record {
        entry = d.entry;
        made = d.made;
        before = d.before;
        stood = d.stood;
        is = d.is;
        next = subst (λ (x : Device). (duty_of x).next_bootstrap ≡ Some name) same is_next;
        since = d.since;
      },
    )
