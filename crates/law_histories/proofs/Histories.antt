-- Histories, event by event and record by record.
use Rattle.std.proofs.Common.{◌≡◌, ◌∙◌, Bool, true, false, List, [], ◌∷◌, ◌++◌, refl, sym, ap, subst}
use Rattle.records.specs.Stored as stored
use Rattle.records.specs.Stored.{Record}
use Rattle.device.specs.Devices.{Device}
use Rattle.device.specs.Lawful.{Allowed, Lawful, Run, applied}
use Rattle.step_runner.specs.declared.entries.Seen.{Seen}
use Rattle.step_runner.specs.declared.entries.Seen.TheVariants as seen
use Rattle.components.specs.declared.kinds.Prepared.{Prepared}
use Rattle.histories.specs.TraceEvents.{TraceEvent, Booted, KilledOnAbort, Recorded, records_of}
use Rattle.histories.specs.States.{SessionState, leaves, state_after, booted, cut_off}
use Rattle.histories.specs.Follows.{IsProper, MayKeep}
use Rattle.law_histories.specs.Stood.{IsHistory, HasHappened}

-- ---- what is no record

abbrev pub is_kept : TraceEvent → Bool
is_kept (Recorded r) = true
is_kept e = false

-- it keeps no record, and leaves the device and whether the call is at its end
pub record Silent (e : TraceEvent) : Type 0 where
  pub records : (h : List TraceEvent) → records_of (e ∷ h) ≡ records_of h
  pub device : (p : SessionState) → (leaves p e).device ≡ p.device
  pub over : (p : SessionState) → (leaves p e).over ≡ p.over

booted_same : (s : Seen) (m : Prepared) (p : SessionState) → ((booted s m p).device ≡ p.device) × ((booted s m p).over ≡ p.over)
booted_same (seen.Exists x true) m p = (refl, refl)
booted_same (seen.Exists x false) m p = (refl, refl)
booted_same (seen.OnPath x true) m p = (refl, refl)
booted_same (seen.OnPath x false) m p = (refl, refl)
booted_same s m p = (refl, refl)

cut_same : (s : Seen) (p : SessionState) → ((cut_off s p).device ≡ p.device) × ((cut_off s p).over ≡ p.over)
cut_same (seen.Killed n) p = (refl, refl)
cut_same s p = (refl, refl)

pub silent : (e : TraceEvent) → is_kept e ≡ false → Silent e
silent (Recorded r) not = absurd cc
silent (Booted e m) not = record { records = λ h. refl; device = λ p. (booted_same e.seen m p).0; over = λ p. (booted_same e.seen m p).1 }
silent (KilledOnAbort e) not = record { records = λ h. refl; device = λ p. (cut_same e.seen p).0; over = λ p. (cut_same e.seen p).1 }
silent e not = record { records = λ h. refl; device = λ p. refl; over = λ p. refl }

-- ---- runs along a history

run_last : (d : Device) (a : List Record) (r : Record) (e : Device) → Run d (a ++ r ∷ []) e → (c : Device) × Run d a c × Lawful c r e
run_last d [] r e run = (d, refl, subst (λ (x : Device). Lawful d r x) (sym run.2) run.1)
run_last d (x ∷ a) r e run = let l = run_last run.0 a r e run.2 in (l.0, (run.0, run.1, l.1), l.2)

-- a run leads to one device
pub run_is : (p : SessionState) (h : List TraceEvent) (c : Device) → Run p.device (records_of h) c → c ≡ (state_after p h).device
run_is p [] c run = run
run_is p (Recorded r ∷ h) c run =
    let l = run_last p.device (records_of h) r c run in
    l.2.leaves ∙ ap (λ (x : Device). applied x r) (run_is p h l.0 l.1)
run_is p (e ∷ h) c run =
    let s = silent e refl in
    run_is p h c (subst (λ (l : List Record). Run p.device l c) (s.records h) run) ∙ sym (s.device (state_after p h))

abbrev pub Runs : SessionState → List TraceEvent → Type 0
Runs p h = Run p.device (records_of h) (state_after p h).device

-- the last record is allowed where it was kept
pub run_before : (p : SessionState) (r : Record) (h : List TraceEvent) → Runs p (Recorded r ∷ h) → Runs p h × Allowed (state_after p h).device r
run_before p r h run =
    let l = run_last p.device (records_of h) r (state_after p (Recorded r ∷ h)).device run in
    let same = run_is p h l.0 l.1 in
    (subst (λ (x : Device). Run p.device (records_of h) x) same l.1, subst (λ (x : Device). Allowed x r) same l.2.allowed)

silent_run : (p : SessionState) (e : TraceEvent) (h : List TraceEvent) → Silent e → Runs p (e ∷ h) → Runs p h
silent_run p e h s run =
    subst (λ (l : List Record). Run p.device l (state_after p h).device) (s.records h)
    (subst (λ (x : Device). Run p.device (records_of (e ∷ h)) x) (s.device (state_after p h)) run)

pub run_less : (p : SessionState) (e : TraceEvent) (h : List TraceEvent) → Runs p (e ∷ h) → Runs p h
run_less p (Recorded r) h run = (run_before p r h run).0
run_less p e h run = silent_run p e h (silent e refl) run

-- ---- parts of a history

pub whole_less : (p : SessionState) (e : TraceEvent) (h : List TraceEvent) → IsHistory p (e ∷ h) → IsHistory p h
whole_less p e h is = record { start = is.start; proper = is.proper.1; run = run_less p e h is.run }

pub history_from : (p : SessionState) (later : List TraceEvent) (e : TraceEvent) (before : List TraceEvent) → IsHistory p (later ++ e ∷ before) →
    IsHistory p (e ∷ before)
history_from p [] e before is = is
history_from p (x ∷ later) e before is = history_from p later e before (whole_less p x (later ++ e ∷ before) is)

-- what stands in a history stands at the end of one
pub history_at : (p : SessionState) (h : List TraceEvent) (e : TraceEvent) (before : List TraceEvent) → IsHistory p h → HasHappened h e before →
    IsHistory p (e ∷ before)
history_at p h e before is s = history_from p s.later e before (subst (λ (l : List TraceEvent). IsHistory p l) s.split is)

-- ---- what holds along a history

-- a record that a session keeps
abbrev pub IsOwn : Record → Type 0
IsOwn (stored.Accepted x) = Unit {0}
IsOwn (stored.BootBegun n) = Unit {0}
IsOwn (stored.BootEnded n e) = Unit {0}
IsOwn stored.Activating = Unit {0}
IsOwn (stored.StepFailed n s e) = Unit {0}
IsOwn (stored.Failing n) = Unit {0}
IsOwn (stored.FailingBack n) = Unit {0}
IsOwn (stored.Closed o) = Unit {0}
IsOwn r = ⊥

own : (p : SessionState) (r : Record) → MayKeep p r → IsOwn r
own p (stored.Accepted x) may = tt
own p (stored.BootBegun n) may = tt
own p (stored.BootEnded n e) may = tt
own p stored.Activating may = tt
own p (stored.StepFailed n s e) may = tt
own p (stored.Failing n) may = tt
own p (stored.FailingBack n) may = tt
own p (stored.Closed o) may = tt
own p r may = may

-- each lawful record of a session keeps this of the records so far and their device
abbrev pub Steps : Device → (List Record → Device → Type 0) → Type 0
Steps d T = (records : List Record) (c : Device) (r : Record) → Run d records c → IsOwn r → Allowed c r → T records c → T (records ++ r ∷ []) (applied c r)

-- so it holds at the end of a history, where it does at the start
pub along : (p : SessionState) (T : List Record → Device → Type 0) → T [] p.device → Steps p.device T → (h : List TraceEvent) → IsProper p h → Runs p h →
    T (records_of h) (state_after p h).device
along p T none step [] proper run = none
along p T none step (Recorded r ∷ h) proper run =
    let b = run_before p r h run in
    step (records_of h) (state_after p h).device r b.0 (own (state_after p h) r proper.0.0) b.1 (along p T none step h proper.1 b.0)
along p T none step (e ∷ h) proper run =
    let s = silent e refl in
    subst (λ (l : List Record). T l (state_after p (e ∷ h)).device) (sym (s.records h))
    (subst (λ (x : Device). T (records_of h) x) (sym (s.device (state_after p h))) (along p T none step h proper.1 (silent_run p e h s run)))
