-- The values of a name that are against a range, gathered place by place.
use Rattle.std.proofs.Common.{◌≡◌, ◌≢◌, ◌⊎◌, ◌↔◌, ℕ, ◌+◌, ◌-◌, ◌<◌, ◌≤◌, List, Some, sym, ap, ◌∙◌, subst, inl, inr, arith}
use Rattle.std.proofs.lemmas.Bool.{cases_eq}
use Rattle.recipe_reader.specs.Members.{Member}
use Rattle.recipe_reader.specs.Sets.{name_of}
use Rattle.conflict_search.specs.Terms.{Has, IsTerm}
use Rattle.conflict_search.specs.declared.terms.Term.{Term}

-- 0, and the bad ones of the places before that one
pub record AreGathered (ms : List Member) (first place : ℕ) (Bad : ℕ → Type 0) (t : Term) : Type 0 where
  pub term : IsTerm ms t
  pub from : t.from ≡ first
  pub has : (v : ℕ) → Has t.set.items v ↔ (v ≡ 0) ⊎ ((q : ℕ) × (t.from ≤ q) × (q < place) × (v ≡ q + 1 - t.from) × Bad q)

module _ (ms : List Member) (first place : ℕ) (Bad : ℕ → Type 0) (old : Term) (h : AreGathered ms first place Bad old) where
  pub gathered_skip : (Bad place → ⊥) → AreGathered ms first (place + 1) Bad old
  gathered_skip good = record {
    term = h.term;
    from = h.from;
    has = λ v. (
      λ b. elim ((h.has v).0 b) [ inl z ↦ inl z | inr r ↦ inr (r.0, r.1, omega (arith, r.2), r.3, r.4) ],
      λ e. elim e [
        | inl z ↦ (h.has v).1 (inl z)
        | inr r ↦ elim (cases_eq r.0 place) [
          | inl same ↦ absurd (good (subst Bad same r.4))
          | inr ne ↦ (h.has v).1 (inr (r.0, r.1, omega (arith, r.2, ne), r.3, r.4))
        ]
      ],
    );
  }

  pub gathered_more : (new : Term) → IsTerm ms new → new.from ≡ old.from → ((v : ℕ) → Has new.set.items v ↔ Has old.set.items v ⊎ (v ≡ place + 1 - old.from)) →
      first ≤ place → Bad place → AreGathered ms first (place + 1) Bad new
  gathered_more new term from added low bad = record {
    term = term;
    from = from ∙ h.from;
    has = λ v. (
      λ b. elim ((added v).0 b) [
        | inl o ↦ elim ((h.has v).0 o) [
          | inl z ↦ inl z
          | inr r ↦ inr (r.0, subst (λ f. f ≤ r.0) (sym from) r.1, omega (arith, r.2), subst (λ f. v ≡ r.0 + 1 - f) (sym from) r.3, r.4)
        ]
        | inr e ↦ (let f = h.from in inr (place, omega (arith, low, from, f), omega arith, subst (λ f. v ≡ place + 1 - f) (sym from) e, bad))
      ],
      λ e. elim e [
        | inl z ↦ (added v).1 (inl ((h.has v).1 (inl z)))
        | inr r ↦ elim (cases_eq r.0 place) [
          | inl same ↦ (added v).1 (inr (subst (λ f. v ≡ place + 1 - f) from (r.3 ∙ ap (λ z. z + 1 - new.from) same)))
          | inr ne ↦ (added v).1 (inl ((h.has v).1 (inr (r.0, subst (λ f. f ≤ r.0) from r.1, omega (arith, r.2, ne), subst (λ f. v ≡ r.0 + 1 - f) from r.3, r.4))))
        ]
      ],
    );
  }
