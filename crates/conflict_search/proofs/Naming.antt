-- The first and the last place of a name, by table.
use Rattle.std.proofs.Common.{◌≡◌, ℕ, ◌+◌, ◌-◌, ◌*◌, ◌/◌, ◌<◌, ◌≤◌, List, [], ◌∷◌, ◌++◌, length, get_or, Some, sym, ap, ◌∙◌, subst, inl, inr, arith}
use Rattle.std.proofs.lemmas.Bool.{cases_eq}
use Rattle.std.proofs.lemmas.List.{get_or_push, get_or_append_left}
use Rattle.recipe_reader.specs.Members.{members, IsRising}
use Rattle.recipe_reader.specs.Sets.{name_of}
use Rattle.recipe_reader.specs.declared.candidate.Candidate.{Candidate}
use Rattle.conflict_search.specs.Numbers.{IsNumber, IsFirstPlace}
use Rattle.conflict_search.specs.Terms.{AreNames, IsTerm}
use Rattle.conflict_search.specs.declared.names.Names.{Names}
use Rattle.conflict_search.specs.declared.terms.Term.{Term}
use Rattle.conflict_search.proofs.Finding.{name_is, within_there, named_between}

-- each place has a name
pub place_named : (cs : List Candidate) (p : ℕ) → p < length cs → (n : List ℕ) × (name_of (members cs) p ≡ Some n)
place_named [] p lt = absurd (omega (arith, lt))
place_named (c ∷ cs) p lt = ((get_or (c ∷ cs) p c).recipe.name, name_is (c ∷ cs) p c lt)

module _ (cs : List Candidate) (names : Names) (are : AreNames (members cs) names) (p : ℕ) (lt : p < length cs) where
  pub first_is : (n : List ℕ) × (name_of (members cs) p ≡ Some n) × IsFirstPlace (members cs) n (get_or names.first.items p 0)
  first_is = let n = place_named cs p lt in (n.0, n.1, are.first p n.0 n.1)

  pub first_low : get_or names.first.items p 0 ≤ p
  first_low = let f = first_is in let is = f.2 in is.least p f.1

-- what holds by place of a list holds of one more
pub by_place_push : (P : ℕ → ℕ → Type 0) (xs : List ℕ) (y k : ℕ) → length xs ≡ k → ((p : ℕ) → p < k → P p (get_or xs p 0)) → P k y →
    (p : ℕ) → p < k + 1 → P p (get_or (xs ++ y ∷ []) p 0)
by_place_push P xs y k len h here p lt = elim (cases_eq p k) [
  | inl e ↦ (let at : get_or (xs ++ y ∷ []) p 0 ≡ y = get_or_push xs y 0 p (len ∙ sym e) in subst (P p) (sym at) (subst (λ z. P z y) (sym e) here))
  | inr ne ↦ (let small : p < k = omega (arith, lt, ne) in
      let at : get_or (xs ++ y ∷ []) p 0 ≡ get_or xs p 0 = get_or_append_left xs (y ∷ []) 0 p (omega (arith, small, len)) in
      subst (P p) (sym at) (h p small))
]

-- so many words from the first place on are a set of values of the name
module _ (cs : List Candidate) (names : Names) (are : AreNames (members cs) names) (p : ℕ) (lt : p < length cs) where
  pub last_is : (n : List ℕ) × (name_of (members cs) p ≡ Some n) × IsNumber (members cs) n (get_or names.last.items p 0)
  last_is = let n = place_named cs p lt in (n.0, n.1, are.last p n.0 n.1)

  pub last_high : p ≤ get_or names.last.items p 0
  last_high = let f = last_is in let is = f.2 in is.last p f.1

  pub last_within : get_or names.last.items p 0 < length cs
  last_within = let f = last_is in let is = f.2 in within_there cs (get_or names.last.items p 0) f.0 is.named

  pub new_term : IsRising (members cs) → (t : Term) → t.from ≡ get_or names.first.items p 0 →
      length t.set.items ≡ (get_or names.last.items p 0 - get_or names.first.items p 0 + 1) / 64 + 1 → IsTerm (members cs) t
  new_term up t from count =
      let f = first_is cs names are p lt in
      let low = first_low cs names are p lt in
      let high = last_high in
      let number = are.last p f.0 f.1 in
      let first = subst (IsFirstPlace (members cs) f.0) (sym from) f.2 in
      record {
        name = f.0;
        is = first;
        inside = λ j small. named_between cs f.0 t.from (t.from + j) (get_or names.last.items p 0) up first.named number.named (omega arith)
            (omega (arith, small, count, low, high, from));
        covers = λ q e. (let le = number.last q e in omega (arith, le, count, low, high, from));
      }
