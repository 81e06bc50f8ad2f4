-- Places that are gathered one after another.
use Rattle.std.proofs.Common.{◌≡◌, ◌≢◌, ◌↔◌, ℕ, ◌+◌, ◌<◌, ◌⊎◌, List, length, get_or, take, sym, ◌∙◌, subst, inl, inr}
use Rattle.std.specs.List.{Contains}
use Rattle.why_not.specs.Gathers.{JoinsOthers}
use Rattle.why_not.proofs.Each.{this, before, cases}

module _ (place : ℕ) (own old mid : List ℕ) (i : ℕ) (lt : i < length own) (h : JoinsOthers place (take i own) old mid) where
  only_more : (x : ℕ) → Contains mid x → Contains old x ⊎ (Contains (take (i + 1) own) x × (place ≢ x))
  only_more x j = elim (h.only x j) [ inl o ↦ inl o | inr m ↦ inr (before own i lt x m.0, m.1) ]

  pub joins_more : (new : List ℕ) → (place ≢ get_or own i 0) → ((x : ℕ) → Contains new x ↔ Contains mid x ⊎ (get_or own i 0 ≡ x)) →
      JoinsOthers place (take (i + 1) own) old new
  joins_more new other more = record {
    kept = λ x j. (more x).1 (inl (h.kept x j));
    joined = λ x j. elim (cases own i lt x j) [
      | inl k ↦ elim (h.joined x k) [ inl s ↦ inl s | inr m ↦ inr ((more x).1 (inl m)) ]
      | inr s ↦ inr ((more x).1 (inr s))
    ];
    only = λ x j. elim ((more x).0 j) [
      | inl k ↦ only_more x k
      | inr s ↦ inr (subst (Contains (take (i + 1) own)) s (this own i lt), λ p. other (p ∙ sym s))
    ];
  }

  -- it is the place itself
  pub joins_same : get_or own i 0 ≡ place → JoinsOthers place (take (i + 1) own) old mid
  joins_same same = record {
    kept = h.kept;
    joined = λ x j. elim (cases own i lt x j) [ inl k ↦ h.joined x k | inr s ↦ inl (sym same ∙ s) ];
    only = only_more;
  }
