-- What the images at the end of a call have.
use Rattle.std.proofs.Common.{◌≡◌, inl, inr, ◌∙◌, ℕ, ◌≤◌, true, List, [], ◌∷◌, ◌++◌, length, refl, sym, ap, subst, arith, append_assoc, append-nil}
use Rattle.std.specs.List.{AllByRecursion}
use Rattle.std.proofs.lemmas.Bool.{false≢true}
use Rattle.records.specs.Stored as stored
use Rattle.records.specs.Stored.{Record}
use Rattle.disk_model.specs.Disk.{Image}
use Rattle.device.specs.Standing.{StandsFor}
use Rattle.step_runner.specs.declared.command.Command.{Command}
use Rattle.step_runner.specs.declared.entries.Seen.{Seen}
use Rattle.step_runner.specs.declared.entries.Seen.TheVariants as seen
use Rattle.histories.specs.TraceEvents.{TraceEvent, ReadClock, Booted, KilledOnAbort, Recorded, records_of}
use Rattle.histories.specs.States.{SessionState, state_after}
use Rattle.histories.specs.Follows.{IsLast}
use Rattle.histories.proofs.Joined.{records-append}
use Rattle.session_boots.specs.Ends.{StopsAt}
use Rattle.law_histories.specs.Stood.{IsHistory, HasHappened}
use Rattle.law_histories.proofs.Beginning.{boots_start_once}
use Rattle.law_histories.proofs.Histories.{silent}
use Rattle.law_reopening.specs.Failed.{HasBehind, is_start, starts}
use Rattle.law_reopening.specs.Reopened.{AllKeep, BootStartsStand, FailuresStand, IsLeft, StartsStand}
use Rattle.law_reopening.proofs.Owed.{failures_told}

-- ---- what starts is before the last record

no_last : (e : TraceEvent) → IsLast e → starts e ≡ true → ⊥
no_last (KilledOnAbort e) last start = false≢true start
no_last (ReadClock m) last start = false≢true start
no_last e last start = last

head_is : (x y : TraceEvent) (xs ys : List TraceEvent) → x ∷ xs ≡ y ∷ ys → x ≡ y
head_is x y xs ys e = cc

tail_is : (x y : TraceEvent) (xs ys : List TraceEvent) → x ∷ xs ≡ y ∷ ys → xs ≡ ys
tail_is x y xs ys e = cc

not_recorded : (r : Record) (e : TraceEvent) → Recorded r ≡ e → starts e ≡ true → ⊥
not_recorded r e is start = false≢true (ap starts is ∙ start)

before_last : (cuts : List TraceEvent) (last : Record) (b later : List TraceEvent) (e : TraceEvent) (before : List TraceEvent) →
    cuts ++ Recorded last ∷ b ≡ later ++ e ∷ before → AllByRecursion IsLast cuts → starts e ≡ true
    → (more : List TraceEvent) × (b ≡ more ++ e ∷ before)
before_last [] last b [] e before is kills start = absurd (not_recorded last e (head_is (Recorded last) e b before is) start)
before_last [] last b (y ∷ later) e before is kills start = (later, tail_is (Recorded last) y b (later ++ e ∷ before) is)
before_last (x ∷ cuts) last b [] e before is kills start =
    absurd (no_last e (subst (λ (y : TraceEvent). IsLast y) (head_is x e (cuts ++ Recorded last ∷ b) before is) kills.0) start)
before_last (x ∷ cuts) last b (y ∷ later) e before is kills start =
    before_last cuts last b later e before (tail_is x y (cuts ++ Recorded last ∷ b) (later ++ e ∷ before) is) kills.1 start

last_quiet : (e : TraceEvent) (h : List TraceEvent) → IsLast e → records_of (e ∷ h) ≡ records_of h
last_quiet (Recorded r) h last = absurd last
last_quiet e h last = (silent e refl).records h

cuts_quiet : (cuts h : List TraceEvent) → AllByRecursion IsLast cuts → records_of (cuts ++ h) ≡ records_of h
cuts_quiet [] h kills = refl
cuts_quiet (x ∷ cuts) h kills = last_quiet x (cuts ++ h) kills.0 ∙ cuts_quiet cuts h kills.1

-- ---- lists

-- what is recorded behind something goes on from what was before it
goes_on : (more : List TraceEvent) (e : TraceEvent) (before : List TraceEvent) → starts e ≡ true → (a : List Record) ×
    (records_of (more ++ e ∷ before) ≡ records_of before ++ a)
goes_on more e before start = (records_of more, records-append more (e ∷ before) ∙ ap (λ (l : List Record). l ++ records_of more) (one e start))
  where
    one : (e : TraceEvent) → starts e ≡ true → records_of (e ∷ before) ≡ records_of before
    one (Recorded r) start = absurd (false≢true start)
    one e start = (silent e refl).records before

-- a prefix that lacks one at most has all but the last
prefix_of : (prefix rest all : List Record) (last : Record) → all ++ last ∷ [] ≡ prefix ++ rest → length rest ≤ 1 → (a : List Record) × (prefix ≡ all ++ a)
prefix_of prefix [] all last is few = (last ∷ [], sym (append-nil prefix) ∙ sym is)
prefix_of [] (x ∷ []) [] last is few = ([], refl)
prefix_of [] (x ∷ []) (y ∷ all) last is few = absurd (too_short all last x y is)
  where
    too_short : (all : List Record) (last x y : Record) → y ∷ (all ++ last ∷ []) ≡ x ∷ [] → ⊥
    too_short [] last x y is = absurd cc
    too_short (z ∷ all) last x y is = absurd cc
prefix_of (f ∷ prefix) (x ∷ []) [] last is few = absurd (too_long prefix last f x is)
  where
    too_long : (prefix : List Record) (last f x : Record) → last ∷ [] ≡ f ∷ (prefix ++ x ∷ []) → ⊥
    too_long [] last f x is = absurd cc
    too_long (z ∷ prefix) last f x is = absurd cc
prefix_of (f ∷ prefix) (x ∷ []) (y ∷ all) last is few =
    let r = prefix_of prefix (x ∷ []) all last (tail f y is) few in
    (r.0, ap (λ (v : Record). v ∷ prefix) (sym (head f y is)) ∙ ap (λ (l : List Record). y ∷ l) r.1)
  where
    head : (f y : Record) → y ∷ (all ++ last ∷ []) ≡ f ∷ (prefix ++ x ∷ []) → y ≡ f
    head f y is = cc

    tail : (f y : Record) → y ∷ (all ++ last ∷ []) ≡ f ∷ (prefix ++ x ∷ []) → all ++ last ∷ [] ≡ prefix ++ x ∷ []
    tail f y is = cc
prefix_of prefix (x ∷ y ∷ rest) all last is few = absurd (omega arith)

-- ---- images

module _ (entries : Image → List (List ℕ) → Type 0) {D : Type 0} (may_leave : D → Image → Type 0) (disk : D) (p : SessionState)
    (h before : List TraceEvent) (e : TraceEvent)
    (whole : IsHistory p h) (left : IsLeft entries may_leave disk p h) (stood : HasHappened h e before) (start : starts e ≡ true) where
  -- all records are there
  in_all : ((c : Image) → may_leave disk c → StandsFor entries c (state_after p h).device) → AllKeep entries may_leave disk p h (records_of before)
  in_all stands c is =
      let on = goes_on stood.later e before start in (
        record {
          prefix = records_of h;
          rest = [];
          split = sym (append-nil (records_of h));
          device = (state_after p h).device;
          run = whole.run;
          stands = stands c is;
        },
        on.0,
        ap records_of stood.split ∙ on.1,
      )

  -- the last one may not be
  in_most : StopsAt h → AllKeep entries may_leave disk p h (records_of before)
  in_most stops c is =
      let f = left.stands c is in
      let b = before_last stops.cuts stops.last stops.before stood.later e before (sym stops.split ∙ stood.split) stops.kills start in
      let on = goes_on b.0 e before start in
      let all : records_of h ≡ records_of stops.before ++ stops.last ∷ []
      = ap records_of stops.split ∙ cuts_quiet stops.cuts (Recorded stops.last ∷ stops.before) stops.kills in
      let r = prefix_of f.prefix f.rest (records_of stops.before) stops.last (sym all ∙ f.split) f.few in (
        record { prefix = f.prefix; rest = f.rest; split = f.split; device = f.device; run = f.run; stands = f.stands },
        on.0 ++ r.0,
        r.1 ∙ ap (λ (l : List Record). l ++ r.0) (ap records_of b.1 ∙ on.1) ∙ append_assoc (records_of before) on.0 r.0,
      )

  kept : AllKeep entries may_leave disk p h (records_of before)
  kept = elim left.doubt [ inl stands ↦ in_all stands | inr stops ↦ in_most stops ]

started : (s : Seen) → is_start s ≡ true → (n : ℕ) × (c : Command) × (s ≡ seen.Started n c)
started (seen.Started n c) is = (n, c, refl)
started s is = absurd (false≢true is)

module _ (entries : Image → List (List ℕ) → Type 0) {D : Type 0} (may_leave : D → Image → Type 0) where
  pub starts_stand : StartsStand entries may_leave
  starts_stand disk p h before e whole left stood start = kept entries may_leave disk p h before e whole left stood start

  pub boot_starts_stand : BootStartsStand entries may_leave
  boot_starts_stand disk p h before e m whole left stood start =
      let s = started e.seen start in
      (boots_start_once p h before e m s.0 s.1 whole stood s.2, kept entries may_leave disk p h before (Booted e m) whole left stood start)

  pub failures_stand : FailuresStand entries may_leave
  failures_stand disk p h before e name s x whole left stood start failed c is =
      let told = failures_told p h before e name s x whole stood start failed in
      let k = kept entries may_leave disk p h before e whole left stood start c is in
      let behind : HasBehind (records_of failed.before) k.0.prefix (stored.StepFailed name s x)
      = (
        told.0,
        told.1 ++ k.1,
        k.2 ∙ ap (λ (l : List Record). l ++ k.1) told.2 ∙ append_assoc (records_of failed.before) (told.0 ++ stored.StepFailed name s x ∷ told.1) k.1
            ∙ ap (λ (l : List Record). records_of failed.before ++ l) (append_assoc told.0 (stored.StepFailed name s x ∷ told.1) k.1),
      ) in
      (k.0, behind)
