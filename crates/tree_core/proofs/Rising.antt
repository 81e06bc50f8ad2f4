-- The keys of an orderly object rise, and so do names that are read of them.
use Rattle.std.proofs.Common.{◌≡◌, ℕ, List, [], ◌∷◌, map, nat_cmp, refl, sym, subst}
use Rattle.std.specs.List.{AllByRecursion, AllZip}
use Rattle.std.specs.List.Sorted.{IsStrictlySortedBy}
use Rattle.std.specs.Cmp.Lexicographic.{slice_cmp}
use Rattle.std.specs.declared.cmp.Ordering.TheVariants.{Less}
use Rattle.serde_json.specs.Data.{Data, Members, no_members, member}
use Rattle.tree_core.specs.Parts.{pairs_of}
use Rattle.tree_core.specs.Regular.{IsBelowAll, MembersAreOrderly}

abbrev pub key_of : List ℕ × Data → List ℕ
key_of m = m.0

below : (k : List ℕ) (ms : Members) → IsBelowAll k ms → AllByRecursion (λ y. slice_cmp nat_cmp k y ≡ Less) (map key_of (pairs_of ms))
below k no_members h = tt
below k (member l d ms) h = (h.0, below k ms h.1)

pub keys_rise : (ms : Members) → MembersAreOrderly ms → IsStrictlySortedBy (slice_cmp nat_cmp) (map key_of (pairs_of ms))
unfolding IsStrictlySortedBy
keys_rise no_members h = tt
keys_rise (member k d ms) h = (below k ms h.0, keys_rise ms h.2)

module _ {B : Type 0} (name : B → List ℕ) (Is : List ℕ × Data → B → Type 0) (named : (m : List ℕ × Data) (b : B) → Is m b → name b ≡ m.0) where
  names : (ms : List (List ℕ × Data)) (bs : List B) → AllZip Is ms bs → map name bs ≡ map key_of ms
  names [] [] h = refl
  names [] (b ∷ bs) h = absurd h
  names (m ∷ ms) [] h = absurd h
  names (m ∷ ms) (b ∷ bs) h = rw (named m b h.0, names ms bs h.1) refl

  -- what is read key by key has names that rise, where each has its key's
  pub names_rise : (ms : Members) (bs : List B) → MembersAreOrderly ms → AllZip Is (pairs_of ms) bs → IsStrictlySortedBy (slice_cmp nat_cmp) (map name bs)
  names_rise ms bs h z = subst (IsStrictlySortedBy (slice_cmp nat_cmp)) (sym (names (pairs_of ms) bs z)) (keys_rise ms h)
