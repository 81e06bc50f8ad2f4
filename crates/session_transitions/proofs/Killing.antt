-- Where a call is that kills its children one after another.
use Rattle.std.specs.Prelude.{ℕ, nat_lt, Bool, true, false, List, [], ◌∷◌, Option, Some, None, Contains, IsSome, length}
use Rattle.std.proofs.Common.{◌≡◌, ◌≢◌, ◌<◌, ◌≤◌, ◌↔◌, ◌⊎◌, ◌∙◌, inl, refl, sym, ap, subst, arith}
use Rattle.std.proofs.lemmas.Bool.{lt-ltb, ltb-true}
use Rattle.nuc_base.specs.declared.kinds.Step.{Step}
use Rattle.step_runner.specs.Entries.{HasNoted, Told, without}
use Rattle.step_runner.specs.declared.entries.RunnerEntry.{RunnerEntry}
use Rattle.step_runner.specs.declared.entries.Seen.TheVariants as seen
use Rattle.components.specs.Components.{Components, owner}
use Rattle.components.specs.Answers.{IsNextLiving, living_numbers}
use Rattle.components.specs.Numbers.{is_above}
use Rattle.components.specs.Readied.{AreApart}
use Rattle.histories.specs.TraceEvents.{ReadClock, KilledOnAbort}
use Rattle.histories.specs.States.{SessionState, cut_boot, leaves}
use Rattle.histories.specs.Courses.{IsBare}
use Rattle.session_boots.specs.Traces.{ActTrace}
use Rattle.session_boots.proofs.Acting.{grows_none}
use Rattle.session_acts.proofs.Entering.{entry, never}
use Rattle.session_acts.proofs.Living.{lives_without}
use Rattle.session_transitions.specs.Fails.{IsGivenUp}
use Rattle.session_transitions.specs.Kills.{KeepsRest}
use Rattle.session_transitions.proofs.Numbers.{apart_of, without_fewer}
use Rattle.session_transitions.proofs.Gone.{cut_apart, cut_lives, cut_moment, cut_owes, none_lives}

-- Those are left whose numbers are above the last one, by the supervisor's components, to which no kill is told.
pub record IsKilling (p : SessionState) (last : Option ℕ) (world : Components) (told : Told) (living : List ℕ) : Type 0 where
  pub moment : told.moment ≡ p.world.moment
  pub asked : told.asked ≡ p.fresh
  pub due : p.due ≡ true → p.fresh ≡ true
  pub boot : p.boot ≡ None
  pub over : p.over ≡ false
  pub apart : AreApart (living_numbers p.world.parts)
  pub left : (n : ℕ) → IsSome (owner n p.world.parts) ↔ (IsSome (owner n world.parts) × (is_above last n ≡ true))
  pub children : (n : ℕ) → Contains living n ↔ IsSome (owner n p.world.parts)

through : {A B C : Type 0} → A ↔ B → B ↔ C → A ↔ C
through e f = ((λ h. f.0 (e.0 h)), (λ h. e.1 (f.1 h)))

back : {A B : Type 0} → A ↔ B → B ↔ A
back e = (e.1, e.0)

-- ---- the moment before the first

module _ (p : SessionState) (world : Components) (old : Told) (living : List ℕ) (g : IsGivenUp p world old living) (now : ℕ) where
  pub ask_acts : (list new : Option (List RunnerEntry)) → old.moment ≤ now → new ≡ list → ActTrace p (ReadClock now ∷ []) list new
  ask_acts list new later_on same = record {
    proper = ((omega (arith, g.moment, later_on), (λ cut. tt), g.over), tt);
    none = refl;
    list = grows_none list new same;
    device = refl;
  }

  all_left : (n : ℕ) → IsSome (owner n p.world.parts) ↔ (IsSome (owner n world.parts) × (is_above None n ≡ true))
  all_left n = (
    (λ h. (subst (λ (o : Option (ℕ × Step)). IsSome o) (sym (g.owners n)) h, refl)),
    (λ h. subst (λ (o : Option (ℕ × Step)). IsSome o) (g.owners n) h.0),
  )

  pub ask_kills : (new : Told) (next : List ℕ) → new.moment ≡ now → new.asked ≡ true → next ≡ living → IsKilling (leaves p (ReadClock now)) None world new next
  ask_kills new next moment asked same = record {
    moment = moment;
    asked = asked;
    due = λ d. refl;
    boot = g.boot;
    over = g.over;
    apart = apart_of (living_numbers p.world.parts) g.differ;
    left = all_left;
    children = λ n. subst (λ (l : List ℕ). Contains l n ↔ IsSome (owner n p.world.parts)) (sym same) (g.children n);
  }

pub ask_keeps : (p : SessionState) (now : ℕ) → KeepsRest p (leaves p (ReadClock now))
ask_keeps p now = record { owed = refl; boot_end = refl; over = refl }

-- ---- one is killed

-- what is above a higher one is above this one
above_on : (last : Option ℕ) (m n : ℕ) → is_above last m ≡ true → m < n → is_above last n ≡ true
above_on None m n above l = refl
above_on (Some k) m n above l = let less = ltb-true k m above in lt-ltb k n (omega (arith, less, l))

module _ (p : SessionState) (last : Option ℕ) (world : Components) (old : Told) (living : List ℕ) (k : IsKilling p last world old living) (n : ℕ)
    (is : IsNextLiving world last (Some n)) where
  own : IsSome (owner n p.world.parts)
  own = (k.left n).1 (is.0, is.1)

  -- it lives still
  pub kill_lives : Contains living n
  kill_lives = (k.children n).1 own

  pub kill_acts : (new : Told) → HasNoted old new (seen.Killed n) → ActTrace p (KilledOnAbort (entry old (seen.Killed n)) ∷ []) old.list new.list
  kill_acts new notes = record {
    proper = (((inl own, record { moment = k.moment; asked = k.asked; due = λ d. k.asked ∙ k.due d }), (λ cut. tt), k.over), tt);
    none = refl;
    list = notes.entry;
    device = refl;
  }

  others_left : (m : ℕ) → ((m ≢ n) × IsSome (owner m p.world.parts)) ↔ (IsSome (owner m world.parts) × (is_above (Some n) m ≡ true))
  others_left m = (
    (λ h. let there = (k.left m).0 h.1 in let least = is.2 m there.0 there.1 in (there.0, lt-ltb n m (omega (arith, least, h.0)))),
    (λ h. let less = ltb-true n m h.1 in ((λ q. omega (arith, less, q)), (k.left m).1 (h.0, above_on last n m is.1 less))),
  )

  beside : (m : ℕ) → ((m ≢ n) × Contains living m) ↔ ((m ≢ n) × IsSome (owner m p.world.parts))
  beside m = ((λ h. (h.0, (k.children m).0 h.1)), (λ h. (h.0, (k.children m).1 h.1)))

  pub kill_kills : (new : Told) (next : List ℕ) → HasNoted old new (seen.Killed n) → next ≡ without n living →
      IsKilling (leaves p (KilledOnAbort (entry old (seen.Killed n)))) (Some n) world new next
  kill_kills new next notes same = record {
    moment = notes.moment ∙ k.moment ∙ sym (cut_moment n p.world);
    asked = notes.asked;
    due = λ d. absurd (never false refl d);
    boot = ap (cut_boot n) k.boot;
    over = k.over;
    apart = cut_apart n p.world k.apart;
    left = λ m. through (cut_lives n m p.world k.apart) (others_left m);
    children = λ m. subst (λ (l : List ℕ). Contains l m ↔ IsSome (owner m (leaves p (KilledOnAbort (entry old (seen.Killed n)))).world.parts)) (sym same)
        (through (lives_without n living m) (through (beside m) (back (cut_lives n m p.world k.apart))));
  }

pub kill_keeps : (p q : SessionState) (old : Told) (n : ℕ) → KeepsRest p q → KeepsRest p (leaves q (KilledOnAbort (entry old (seen.Killed n))))
kill_keeps p q old n k = record { owed = cut_owes n q.world ∙ k.owed; boot_end = k.boot_end; over = k.over }

-- ---- fewer live

pub fewer_live : (n : ℕ) (living next : List ℕ) → Contains living n → next ≡ without n living → length next < length living
fewer_live n living next h same = subst (λ (l : List ℕ). length l < length living) (sym same) (without_fewer n living h)

-- ---- none is left

nobody : (living : List ℕ) → ((n : ℕ) → Contains living n → ⊥) → living ≡ []
nobody [] none = refl
nobody (n ∷ ns) none = absurd (none n (0, omega arith, refl))

module _ (p : SessionState) (last : Option ℕ) (world : Components) (told : Told) (living : List ℕ) (k : IsKilling p last world told living)
    (is : IsNextLiving world last None) where
  no_more : (n : ℕ) → IsSome (owner n p.world.parts) → ⊥
  no_more n h = let there = (k.left n).0 h in never (is_above last n) (is n there.0) there.1

  pub all_bare : IsBare p
  all_bare = record { parts = none_lives p.world no_more; boot = k.boot }

  pub none_living : living ≡ []
  none_living = nobody living (λ n h. no_more n ((k.children n).0 h))
