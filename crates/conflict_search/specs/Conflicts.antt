-- Decisions that cannot stand together.
use Rattle.std.specs.Prelude.{◌≢◌, ℕ, List, [], ◌∷◌, ◌++◌}
use Rattle.std.specs.List.{Contains}
use Rattle.recipe_reader.specs.Members.{Need, Member}
use Rattle.recipe_reader.specs.Sets.{needs_of, IsWalk}
use Rattle.recipe_reader.specs.Searches.{IsConsistent, IsSuited}

-- no consistent walk has all of the places
pub record CannotStand (ms : List Member) (wanted : List Need) (conflict : List ℕ) : Type 0 where
  pub none : (walk : List ℕ) → IsWalk ms wanted [] walk → IsConsistent ms wanted walk → ((x : ℕ) → Contains conflict x → Contains walk x) → ⊥

-- such places among those that are taken
pub record IsConflict (ms : List Member) (wanted : List Need) (taken conflict : List ℕ) : Type 0 where
  pub nogood : CannotStand ms wanted conflict
  pub within : (x : ℕ) → Contains conflict x → Contains taken x

-- a conflict where one more place is taken
abbrev pub IsConflictWith : List Member → List Need → List ℕ → ℕ → List ℕ → Type 0
IsConflictWith ms wanted taken place conflict = IsConflict ms wanted (taken ++ place ∷ []) conflict

-- what goes on from the places is a walk from the start
pub record IsPrefix (ms : List Member) (wanted : List Need) (taken : List ℕ) : Type 0 where
  pub goes_on : (walk : List ℕ) → IsWalk ms wanted taken walk → IsWalk ms wanted [] (taken ++ walk)

-- ranges hold among the places, each with each other
pub record AreInRange (ms : List Member) (wanted : List Need) (taken : List ℕ) : Type 0 where
  pub wanted_hold : (p : ℕ) → Contains taken p → IsSuited ms wanted p
  pub needs_hold : (p q : ℕ) → Contains taken p → Contains taken q → p ≢ q → IsSuited ms (needs_of ms p) q

-- and among them and one place more
pub record IsInRangeWith (ms : List Member) (wanted : List Need) (taken : List ℕ) (p : ℕ) : Type 0 where
  pub wanted_hold : IsSuited ms wanted p
  pub asked_hold : (q : ℕ) → Contains taken q → IsSuited ms (needs_of ms q) p
  pub needs_hold : (q : ℕ) → Contains taken q → IsSuited ms (needs_of ms p) q
