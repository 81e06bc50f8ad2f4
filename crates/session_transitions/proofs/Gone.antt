-- A child that is cut off: who still lives, and what stays.
use Rattle.std.specs.Prelude.{ℕ, suc, zero, ◌+◌, ◌==◌, ◌||◌, Bool, true, false, not, List, [], ◌∷◌, ◌++◌, filter, Option, Some, None, IsSome, if◌then◌else◌}
use Rattle.std.specs.List.{list_any}
use Rattle.std.proofs.Common.{◌≡◌, ◌≢◌, ◌↔◌, ◌∙◌, refl, sym, ap, subst, arith}
use Rattle.std.proofs.lemmas.List.Elements.{filter-append}
use Rattle.nuc_base.specs.declared.kinds.Step.{Step}
use Rattle.step_runner.specs.Entries.{without}
use Rattle.components.specs.Components.{Components, ComponentState, Child, changed_at, child_gone, child_of, is_childless, owner, owner_from, without_child}
use Rattle.components.specs.Turns.{owes}
use Rattle.components.specs.Answers.{child_numbers, living_numbers}
use Rattle.components.specs.Numbers.{among}
use Rattle.components.specs.Readied.{AreApart}
use Rattle.components.proofs.Apart.{apart_removed, no_child, not_owned}
use Rattle.components.proofs.Numbers.{has_number, owned, owner_stands}
use Rattle.histories.specs.States.{cut_child}
use Rattle.session_transitions.proofs.Numbers.{among_here, apart_back, apart_both, clash, without_none, without_other, without_self}

-- a child has an owner where its number stands among those that live
owner_lives : (n : ℕ) (ps : List ComponentState) → IsSome (owner n ps) ↔ (among n (living_numbers ps) ≡ true)
owner_lives n ps = ((λ e. owner_stands 0 n ps e), (λ e. owned 0 n ps e))

-- ---- one is gone

numbers_left : (n : ℕ) (cs : List Child) → child_numbers (filter (λ (c : Child). not (c.number == n)) cs) ≡ without n (child_numbers cs)
numbers_left n [] = refl
numbers_left n (c ∷ cs) = at (not (c.number == n)) (numbers_left n cs)
  where
    at : (b : Bool) → child_numbers (filter (λ (d : Child). not (d.number == n)) cs) ≡ without n (child_numbers cs)
        → child_numbers (if b then c ∷ filter (λ (d : Child). not (d.number == n)) cs else filter (λ (d : Child). not (d.number == n)) cs)
        ≡ (if b then c.number ∷ without n (child_numbers cs) else without n (child_numbers cs))
    at true rest = ap (λ (l : List ℕ). c.number ∷ l) rest
    at false rest = rest

-- the place of the owner behind j, where exactly one is taken away
abbrev Taken : ℕ → ℕ → ℕ → List ComponentState → Type 0
Taken j n k ps = (d : ℕ) × (k ≡ j + d) × (living_numbers (changed_at d (without_child n) ps) ≡ without n (living_numbers ps))

same_place : (j k : ℕ) (s t : Step) → ◌≡◌ {A = Option (ℕ × Step)} (Some (j, t)) (Some (k, s)) → k ≡ j
same_place j k s t e = sym (ap (λ (o : Option (ℕ × Step)). elim o [ None ↦ j | Some x ↦ x.0 ]) e)

taken_from : (j n : ℕ) (ps : List ComponentState) (k : ℕ) (s : Step) → AreApart (living_numbers ps) → owner_from j n ps ≡ Some (k, s) → Taken j n k ps
taken_from j n [] k s a e = absurd cc
taken_from j n (p ∷ ps) k s a e = at (child_of n p.children) refl e (taken_from (j + 1) n ps k s (apart_back (child_numbers p.children) (living_numbers ps) a))
  where
    at : (o : Option Child) → child_of n p.children ≡ o → ◌≡◌ {A = Option (ℕ × Step)} (elim o [ None ↦ owner_from (j + 1) n ps | Some c ↦ Some (j, c.of) ])
        (Some (k, s)) → (owner_from (j + 1) n ps ≡ Some (k, s) → Taken (j + 1) n k ps)
        → Taken j n k (p ∷ ps)
    at None q e rest =
        let r = rest e in
        let prefix = without_none n (child_numbers p.children) (no_child n p.children q) in (
          suc r.0,
          omega (arith, r.1),
          ap (λ (l : List ℕ). child_numbers p.children ++ l) r.2 ∙ sym (filter-append (λ m. not (m == n)) (child_numbers p.children) (living_numbers ps) ∙ ap
              (λ (l : List ℕ). l ++ without n (living_numbers ps)) prefix),
        )
    at (Some c) q e rest =
        let back = without_none n (living_numbers ps) (apart_both n (child_numbers p.children) (living_numbers ps) a (has_number n p.children c q)) in
        let same = same_place j k s c.of e in (
          zero,
          omega (arith, same),
          ap (λ (l : List ℕ). l ++ living_numbers ps) (numbers_left n p.children) ∙ sym
              (filter-append (λ m. not (m == n)) (child_numbers p.children) (living_numbers ps) ∙ ap
              (λ (l : List ℕ). without n (child_numbers p.children) ++ l) back),
        )

cut_numbers : (n : ℕ) (w : Components) → AreApart (living_numbers w.parts) → living_numbers (cut_child n w).parts ≡ without n (living_numbers w.parts)
cut_numbers n w a = at (owner n w.parts) refl
  where
    at : (o : Option (ℕ × Step)) → owner n w.parts ≡ o → living_numbers (elim o as (λ x. Components) [ None ↦ w | Some x ↦ child_gone x.0 n w ]).parts
        ≡ without n (living_numbers w.parts)
    at None q = sym (without_none n (living_numbers w.parts) (not_owned 0 n w.parts q))
    at (Some x) q =
        let t = taken_from 0 n w.parts x.0 x.1 a q in
        let same : t.0 ≡ x.0 = omega (arith, t.1) in
        subst (λ (d : ℕ). living_numbers (changed_at d (without_child n) w.parts) ≡ without n (living_numbers w.parts)) same t.2

pub cut_apart : (n : ℕ) (w : Components) → AreApart (living_numbers w.parts) → AreApart (living_numbers (cut_child n w).parts)
cut_apart n w a = at (owner n w.parts)
  where
    at : (o : Option (ℕ × Step)) → AreApart (living_numbers (elim o as (λ x. Components) [ None ↦ w | Some x ↦ child_gone x.0 n w ]).parts)
    at None = a
    at (Some x) = apart_removed n x.0 w.parts a

-- all others live on
pub cut_lives : (n m : ℕ) (w : Components) → AreApart (living_numbers w.parts) → IsSome (owner m (cut_child n w).parts) ↔ ((m ≢ n) × IsSome (owner m w.parts))
cut_lives n m w a =
    let numbers = living_numbers w.parts in
    let is = ap (λ (l : List ℕ). among m l) (cut_numbers n w a) in (
      (λ e. let there : among m (without n numbers) ≡ true = sym is ∙ (owner_lives m (cut_child n w).parts).0 e in
          let ne : m ≢ n = λ q. clash (among m (without n numbers)) there
          (subst (λ (k : ℕ). among k (without n numbers) ≡ false) (sym q) (without_self n numbers)) in
          (ne, (owner_lives m w.parts).1 (sym (without_other m n numbers ne) ∙ there))),
      (λ e. (owner_lives m (cut_child n w).parts).1 (is ∙ without_other m n numbers e.0 ∙ (owner_lives m w.parts).0 e.1)),
    )

pub cut_moment : (n : ℕ) (w : Components) → (cut_child n w).moment ≡ w.moment
cut_moment n w = at (owner n w.parts)
  where
    at : (o : Option (ℕ × Step)) → (elim o as (λ x. Components) [ None ↦ w | Some x ↦ child_gone x.0 n w ]).moment ≡ w.moment
    at None = refl
    at (Some x) = refl

gone_owes : (n k : ℕ) (ps : List ComponentState) → list_any owes (changed_at k (without_child n) ps) ≡ list_any owes ps
gone_owes n k [] = refl
gone_owes n zero (p ∷ ps) = refl
gone_owes n (suc k) (p ∷ ps) = ap (λ (b : Bool). owes p || b) (gone_owes n k ps)

pub cut_owes : (n : ℕ) (w : Components) → list_any owes (cut_child n w).parts ≡ list_any owes w.parts
cut_owes n w = at (owner n w.parts)
  where
    at : (o : Option (ℕ × Step)) → list_any owes (elim o as (λ x. Components) [ None ↦ w | Some x ↦ child_gone x.0 n w ]).parts ≡ list_any owes w.parts
    at None = refl
    at (Some x) = gone_owes n x.0 w.parts

-- ---- none is left

none_at : (ps : List ComponentState) → ((n : ℕ) → among n (living_numbers ps) ≡ true → ⊥) → list_any (λ p. elim p.children [ [] ↦ false | ◌∷◌ c cs ↦ true ])
    ps ≡ false
none_at [] none = refl
none_at (p ∷ ps) none = at p.children none (none_at ps)
  where
    at : (cs : List Child) → ((n : ℕ) → among n (child_numbers cs ++ living_numbers ps) ≡ true → ⊥) →
        (((n : ℕ) → among n (living_numbers ps) ≡ true → ⊥) → list_any (λ (q : ComponentState). elim q.children [ [] ↦ false | ◌∷◌ d ds ↦ true ]) ps ≡ false)
        → ((elim cs [ [] ↦ false | ◌∷◌ d ds ↦ true ]) || list_any (λ (q : ComponentState). elim q.children [ [] ↦ false | ◌∷◌ d ds ↦ true ]) ps) ≡ false
    at [] none rest = rest none
    at (c ∷ cs) none rest = absurd (none c.number (among_here c.number (child_numbers cs ++ living_numbers ps)))

pub none_lives : (w : Components) → ((n : ℕ) → IsSome (owner n w.parts) → ⊥) → is_childless w ≡ true
none_lives w none = ap not (none_at w.parts (λ n e. none n ((owner_lives n w.parts).1 e)))
