-- Drafts, term by term.
use Rattle.std.proofs.Common.{◌≡◌, ◌≢◌, ◌⊎◌, ℕ, ◌+◌, ◌-◌, ◌*◌, ◌<◌, ◌≤◌, List, [], ◌∷◌, ◌++◌, length, get_or, take, Some, refl, sym, ap, ◌∙◌, subst, inl, inr, arith}
use Rattle.std.specs.List.{Contains}
use Rattle.std.proofs.lemmas.Bool.{cases_eq}
use Rattle.std.proofs.lemmas.List.{take_more}
use Rattle.std.proofs.lemmas.List.Elements.{Contains-append_left, Contains-push, Contains-push_cases}
use Rattle.nuc_base.proofs.Lists.{in_nil}
use Rattle.recipe_reader.specs.Members.{Need, Member, members}
use Rattle.recipe_reader.specs.Sets.{name_of}
use Rattle.recipe_reader.specs.declared.candidate.Candidate.{Candidate}
use Rattle.conflict_search.specs.Numbers.{IsNumber, IsFirstPlace}
use Rattle.conflict_search.specs.Conflicts.{CannotStand}
use Rattle.conflict_search.specs.Terms.{Has, AreNames, IsValue, IsTerm, Stands, IsNogood, IsNogoodRow, IsWithin}
use Rattle.conflict_search.specs.declared.terms.Term.{Term}
use Rattle.conflict_search.specs.declared.names.Names.{Names}
use Rattle.conflict_search.proofs.Learning.{value_of, value_place, first_same}
use Rattle.conflict_search.proofs.Finding.{within_there}

pub within_less : (old new : List ℕ) (t : Term) → ((v : ℕ) → Has new v → Has old v) → IsWithin old t → IsWithin new t
within_less old new t less h = λ v lt b. h v lt (less (64 * t.from + v) b)

-- a place alone
pub record IsAlone (ms : List Member) (p : ℕ) (t : Term) : Type 0 where
  pub term : IsTerm ms t
  pub name : List ℕ
  pub named : name_of ms p ≡ Some name
  pub first : IsFirstPlace ms name t.from
  pub only : (v : ℕ) → Has t.set.items v → v ≡ p + 1 - t.from

-- the walk has the place that stands alone in a term that it meets
pub alone_met : (ms : List Member) (walk : List ℕ) (p v : ℕ) (t : Term) → IsAlone ms p t → IsValue ms walk t.from v → Has t.set.items v → Contains walk p
alone_met ms walk p v t h is has = value_place ms walk h.name t.from v p is h.first h.named (h.only v has)

-- each of the places stands alone in a term, and there are no others
pub record AreAlone (ms : List Member) (places : List ℕ) (terms : List Term) : Type 0 where
  pub each : (p : ℕ) → Contains places p → (t : Term) × Contains terms t × IsAlone ms p t
  pub sets : (t : Term) → Contains terms t → IsTerm ms t

pub alone_none : (ms : List Member) → AreAlone ms [] []
alone_none ms = record { each = λ p i. absurd (in_nil p i); sets = λ t i. absurd (in_nil t i) }

pub alone_more : (ms : List Member) (places : List ℕ) (i : ℕ) (terms : List Term) (t : Term) → i < length places → AreAlone ms (take i places) terms →
    IsAlone ms (get_or places i 0) t → AreAlone ms (take (i + 1) places) (terms ++ t ∷ [])
alone_more ms places i terms t lt h here = record {
  each = λ p j. elim (Contains-push_cases (take i places) (get_or places i 0) p (subst (λ l. Contains l p) (take_more places i 0 lt) j)) [
    | inl k ↦ (let e = h.each p k in (e.0, Contains-append_left terms (t ∷ []) e.0 e.1, e.2))
    | inr e ↦ (t, Contains-push terms t, subst (λ z. IsAlone ms z t) e here)
  ];
  sets = λ u j. elim (Contains-push_cases terms t u j) [ inl k ↦ h.sets u k | inr e ↦ subst (IsTerm ms) e here.term ];
}

pub alone_nogood : (ms : List Member) (wanted : List Need) (places : List ℕ) (terms : List Term) → CannotStand ms wanted places → AreAlone ms places terms →
    IsNogood ms wanted terms
alone_nogood ms wanted places terms bad h = record {
  sets = h.sets;
  none = λ walk s met. bad.none walk s.is_walk s.consistent (λ p i. (let e = h.each p i in let m = met e.0 e.1 in alone_met ms walk p m.0 e.0 e.2 m.1 m.2));
}

-- ---- what is learned

-- the row has all values of the name
abbrev pub IsFull : List Member → List ℕ → List ℕ → ℕ → Type 0
IsFull ms row n first = Has row (64 * first) × ((p : ℕ) → name_of ms p ≡ Some n → Has row (64 * first + (p + 1 - first)))

full_has : (ms : List Member) (row walk : List ℕ) (n : List ℕ) (f v : ℕ) → IsFirstPlace ms n f → IsFull ms row n f → IsValue ms walk f v → Has row (64 * f + v)
full_has ms row walk n f v is full val = elim val.choice [
  | inl x ↦ (let e : 64 * f ≡ 64 * f + v = (let z = x.0 in omega (arith, z)) in subst (Has row) e full.0)
  | inr x ↦ (let first = is.named in let own = val.is in let named = own.named in
      subst (λ w. Has row (64 * f + w)) (sym x.3) (full.1 x.0 (x.2 ∙ sym named ∙ first)))
]

-- each name before the place has a term, or the row has all of its values
pub record AreListed (ms : List Member) (row : List ℕ) (place : ℕ) (terms : List Term) : Type 0 where
  pub each : (n : List ℕ) (f : ℕ) → IsFirstPlace ms n f → f < place →
      ((t : Term) × Contains terms t × (t.from ≡ f) × ((v : ℕ) → Has t.set.items v → Has row (64 * f + v))) ⊎ IsFull ms row n f
  pub sets : (t : Term) → Contains terms t → IsTerm ms t

pub listed_none : (ms : List Member) (row : List ℕ) → AreListed ms row 0 []
listed_none ms row = record { each = λ n f is lt. absurd (omega (arith, lt)); sets = λ t i. absurd (in_nil t i) }

module _ (ms : List Member) (row : List ℕ) (place : ℕ) (terms : List Term) (h : AreListed ms row place terms) where
  pub listed_skip : ((n : List ℕ) → IsFirstPlace ms n place → IsFull ms row n place) → AreListed ms row (place + 1) terms
  listed_skip here = record {
    each = λ n f is lt. elim (cases_eq f place) [
      | inl e ↦ inr (subst (IsFull ms row n) (sym e) (here n (subst (IsFirstPlace ms n) e is)))
      | inr ne ↦ h.each n f is (omega (arith, lt, ne))
    ];
    sets = h.sets;
  }

  pub listed_more : (t : Term) → IsTerm ms t → t.from ≡ place → ((v : ℕ) → Has t.set.items v → Has row (64 * t.from + v)) → AreListed ms row (place + 1) (terms ++ t ∷ [])
  listed_more t term from same = record {
    each = λ n f is lt. elim (cases_eq f place) [
      | inl e ↦ inl (t, Contains-push terms t, from ∙ sym e, λ v b. subst (λ z. Has row (64 * z + v)) (from ∙ sym e) (same v b))
      | inr ne ↦ elim (h.each n f is (omega (arith, lt, ne))) [
        | inl r ↦ inl (r.0, Contains-append_left terms (t ∷ []) r.0 r.1, r.2, r.3)
        | inr full ↦ inr full
      ]
    ];
    sets = λ u j. elim (Contains-push_cases terms t u j) [ inl k ↦ h.sets u k | inr e ↦ subst (IsTerm ms) e term ];
  }

  pub listed_nogood : (wanted : List Need) → length ms ≤ place → IsNogoodRow ms wanted row → ((n : List ℕ) (f : ℕ) → IsFirstPlace ms n f → f < length ms) →
      IsNogood ms wanted terms
  listed_nogood wanted le draft within = record {
    sets = h.sets;
    none = λ walk s met. draft.none walk s (λ n f is.
        (let lt = within n f is in
        elim (h.each n f is (omega (arith, lt, le))) [
          | inl r ↦ (let m = met r.0 r.1 in (m.0, subst (λ z. IsValue ms walk z m.0) r.2 m.1, r.3 m.0 m.2))
          | inr full ↦ (let o = value_of ms walk n f is in (o.0, o.1, full_has ms row walk n f o.0 is full o.1))
        ]));
  }
