-- What a leaf rests on.
use Rattle.std.proofs.Common.{◌≡◌, ℕ, List, [], ◌∷◌, Some, None, sym, subst, inl, inr}
use Rattle.std.specs.List.{Contains}
use Rattle.nuc_base.proofs.Lists.{in_nil, in_cons, in_here, in_there}
use Rattle.recipe_reader.specs.Members.{Need, Member}
use Rattle.recipe_reader.specs.Sets.{needs_of}
use Rattle.recipe_reader.proofs.ValidSets.{AreWithin}
use Rattle.why_not.specs.Reasons.{seen}
use Rattle.why_not.specs.Certificates.{IsAgainst, RestsOn}
use Rattle.why_not.specs.declared.why.Why.{Refused}
use Rattle.why_not.proofs.Resting.{rests_refused, rests_refused_by}
use Rattle.why_not.proofs.Seen.{seen_refused}

pub one_within : (all : List ℕ) (p : ℕ) → Contains all p → AreWithin (p ∷ []) all
one_within all p i = λ x j. elim (in_cons p [] x j) [ inl e ↦ subst (Contains all) e i | inr k ↦ absurd (in_nil x k) ]

two_within : (all : List ℕ) (p q : ℕ) → Contains all p → Contains all q → AreWithin (p ∷ q ∷ []) all
two_within all p q i j = λ x k. elim (in_cons p (q ∷ []) x k) [ inl e ↦ subst (Contains all) e i | inr l ↦ one_within all q j x l ]

module _ (ms : List Member) (wanted : List Need) (all used : List ℕ) where
  pub leaf_wanted : (p : ℕ) → used ≡ p ∷ [] → Contains all p → IsAgainst ms wanted p → RestsOn ms wanted all used (seen (Refused p None))
  leaf_wanted p is i h = subst (RestsOn ms wanted all used) (sym (seen_refused p None))
      (rests_refused ms wanted all used p (subst (λ u. AreWithin u all) (sym is) (one_within all p i)) (subst (λ u. Contains u p) (sym is) (in_here p [])) h)

  pub leaf_pair : (p q : ℕ) → used ≡ p ∷ q ∷ [] → Contains all p → Contains all q → IsAgainst ms (needs_of ms q) p →
      RestsOn ms wanted all used (seen (Refused p (Some q)))
  leaf_pair p q is i j h = subst (RestsOn ms wanted all used) (sym (seen_refused p (Some q)))
      (rests_refused_by ms wanted all used p q (subst (λ u. AreWithin u all) (sym is) (two_within all p q i j))
      (subst (λ u. Contains u p) (sym is) (in_here p (q ∷ [])))
      (subst (λ u. Contains u q) (sym is) (in_there p (q ∷ []) q (in_here q []))) (j, h))
