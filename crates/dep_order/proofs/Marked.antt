-- Marks of places: none at first, and one more with each place.
use Rattle.std.proofs.Common.{◌≡◌, ℕ, ◌<◌, ◌≤◌, Bool, true, false, eqb, List, [], ◌∷◌, ◌++◌, length, get_or, set, length-set, sym, ap, ◌∙◌, subst, inl, inr}
use Rattle.std.specs.List.{All, Contains, IsDistinct}
use Rattle.std.proofs.lemmas.List.{get_or-set_same, get_or-set_other, get_or_past}
use Rattle.std.proofs.lemmas.List.Elements.{All-push, All-nil, Contains-append_left, Contains-push, Contains-push_cases}
use Rattle.std.proofs.lemmas.Bool.{cases_eq, cases_lt, false≢true}
use Rattle.nuc_base.proofs.Lists.{in_nil, distinct_push, distinct_nil, at_most}
use Rattle.dep_order.specs.declared.places.Places.{Places}
use Rattle.dep_order.specs.Places.{AreMarks, IsTidy}

none_set : (marks : List Bool) (p : ℕ) → All (λ f. f ≡ false) marks → get_or marks p false ≡ false
none_set marks p h = elim (cases_lt p (length marks)) [ inl lt ↦ h p false lt | inr le ↦ get_or_past marks p false le ]

marks_start : (marks : List Bool) → All (λ f. f ≡ false) marks → AreMarks [] marks
marks_start marks h = record { each = λ p. (λ t. absurd (false≢true (sym (none_set marks p h) ∙ t)), λ i. absurd (in_nil p i)) }

pub tidy_start : (places : Places) → places.list.items ≡ [] → All (λ f. f ≡ false) places.marks.items → IsTidy places
tidy_start places e h = record {
  distinct = subst (IsDistinct eqb) (sym e) distinct_nil;
  below = subst (All (λ p. p < length places.marks.items)) (sym e) (All-nil (λ p. p < length places.marks.items));
  marks = subst (λ l. AreMarks l places.marks.items) (sym e) (marks_start places.marks.items h);
}

marks_push : (list : List ℕ) (marks : List Bool) (p : ℕ) → p < length marks → AreMarks list marks → AreMarks (list ++ p ∷ []) (set marks p true)
marks_push list marks p lt f = record {
  each = λ q. elim (cases_eq q p) [
    | inl e ↦ (
      λ _. subst (Contains (list ++ p ∷ [])) (sym e) (Contains-push list p),
      λ _. ap (λ k. get_or (set marks p true) k false) e
          ∙ get_or-set_same marks p true false lt,
    )
    | inr ne ↦
        (let same = get_or-set_other marks p q true false ne in
        let before = f.each q in (
          λ t. Contains-append_left list (p ∷ []) q (before.0 (sym same ∙ t)),
          λ i. elim (Contains-push_cases list p q i) [ inl j ↦ same ∙ before.1 j | inr e ↦ absurd (ne (sym e)) ],
        ))
  ];
}

pub tidy_push : (old new : Places) (p : ℕ) → IsTidy old → p < length old.marks.items → (Contains old.list.items p → ⊥) → new.list.items ≡ old.list.items ++ p
    ∷ [] → new.marks.items ≡ set old.marks.items p true → IsTidy new
tidy_push old new p t lt free l m =
    let same : length new.marks.items ≡ length old.marks.items = ap length m ∙ length-set old.marks.items p true in
    record {
      distinct = subst (IsDistinct eqb) (sym l) (distinct_push old.list.items p t.distinct free);
      below = subst (λ xs. All (λ q. q < length new.marks.items) xs) (sym l) (subst (λ n. All (λ q. q < n) (old.list.items ++ p
          ∷ [])) (sym same) (All-push (λ q. q < length old.marks.items) old.list.items p t.below lt));
      marks = subst (λ xs. AreMarks xs new.marks.items) (sym l) (subst (AreMarks (old.list.items ++ p
          ∷ [])) (sym m) (marks_push old.list.items old.marks.items p lt t.marks));
    }

-- there are at most as many as marks
pub tidy_length : (places : Places) → IsTidy places → length places.list.items ≤ length places.marks.items
tidy_length places t = at_most places.list.items (length places.marks.items) t.distinct t.below
