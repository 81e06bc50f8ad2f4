-- Decided places against which nothing stands, in whatever order names are decided.
use Rattle.std.specs.Prelude.{Some, ◌≡◌, ℕ, List, ◌++◌, ◌∷◌, []}
use Rattle.std.specs.List.{Contains}
use Rattle.recipe_reader.specs.Members.{Need, Member}
use Rattle.recipe_reader.specs.Sets.{name_of, needs_of, IsReached}
use Rattle.recipe_reader.specs.Searches.{IsConsistent, IsSuited}
use Rattle.why_not.specs.Edges.{HasNoLoop}

pub record IsReachedSet (ms : List Member) (wanted : List Need) (taken : List ℕ) : Type 0 where
  pub single : (p q : ℕ) → Contains taken p → Contains taken q → name_of ms p ≡ name_of ms q → p ≡ q
  pub named : (p : ℕ) → Contains taken p → (n : List ℕ) × (name_of ms p ≡ Some n)
  pub reached : (p : ℕ) → Contains taken p → IsReached ms wanted taken p
  pub consistent : IsConsistent ms wanted taken

-- no range of what is wanted, of the places that are taken or of the place stands against it
pub record HasNoRange (ms : List Member) (wanted : List Need) (taken : List ℕ) (p : ℕ) : Type 0 where
  pub wanted_hold : IsSuited ms wanted p
  pub asked_hold : (q : ℕ) → Contains taken q → IsSuited ms (needs_of ms q) p
  pub needs_hold : (q : ℕ) → Contains taken q → IsSuited ms (needs_of ms p) q

-- nothing stands against the place beside those that are taken
pub record FitsWith (ms : List Member) (wanted : List Need) (taken : List ℕ) (p : ℕ) : Type 0 where
  pub ranges : HasNoRange ms wanted taken p
  pub acyclic : HasNoLoop ms (taken ++ p ∷ [])
