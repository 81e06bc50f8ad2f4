-- Places that cannot stand together, and what goes on from places.
use Rattle.std.proofs.Common.{◌≡◌, ℕ, List, [], ◌∷◌, ◌++◌, Some, sym, subst}
use Rattle.std.proofs.Common.{append_assoc}
use Rattle.std.specs.List.{Contains}
use Rattle.recipe_reader.specs.Members.{Need, Member}
use Rattle.recipe_reader.specs.Sets.{name_of, IsNext, IsWalk}
use Rattle.recipe_reader.specs.Searches.{IsConsistent}
use Rattle.recipe_reader.proofs.Searching.{consistent_fewer}
use Rattle.conflict_search.specs.Conflicts.{CannotStand, IsPrefix}

module _ (ms : List Member) (wanted : List Need) where
  pub nogood_bad : (conflict : List ℕ) → (IsConsistent ms wanted conflict → ⊥) → CannotStand ms wanted conflict
  nogood_bad conflict bad = record { none = λ walk w c within. bad (consistent_fewer ms wanted conflict walk within c) }

  pub prefix_start : IsPrefix ms wanted []
  prefix_start = record { goes_on = λ walk w. w }

  pub prefix_push : (taken : List ℕ) (p : ℕ) (n : List ℕ) → IsPrefix ms wanted taken → IsNext ms wanted taken n → name_of ms p ≡ Some n →
      IsPrefix ms wanted (taken ++ p ∷ [])
  prefix_push taken p n h next e = record {
    goes_on = λ walk w. subst (IsWalk ms wanted []) (sym (append_assoc taken (p ∷ []) walk)) (h.goes_on (p ∷ walk) ((n, e, next), w));
  }
