-- What a library tells of what it holds, and what becomes of that.
use Rattle.std.specs.Prelude.{◌≡◌, ◌⊎◌, Bool, ℕ, ◌≤◌, List, [], ◌∷◌, ◌++◌, length, take, drop, Option, Some, None, ⊤}
use Rattle.library_core.specs.declared.library.Piece.{Piece}
use Rattle.library_core.specs.declared.library.Piece.TheVariants.{Missing, Bytes}

-- the bytes of the artifact of a name, a version and a file
abbrev pub Artifacts : Type 0
Artifacts = List ℕ → List ℕ → List ℕ → Option (List ℕ)

-- the bytes of its recipes in their order, and its artifacts, each where that is told; and whether recipes are told once they
-- were counted
pub record Content : Type 0 where
  pub recipes : Option (List (List ℕ))
  pub artifacts : Option Artifacts
  pub tells : Bool

-- ---- what a call makes of it

-- neither what is told of what it holds nor what is told of what comes is another
abbrev pub StandsStill : {T : Type 0} → (T → Content) → (T → Option (List Content)) → T → T → Type 0
StandsStill told next old new = (told new ≡ told old) × (next new ≡ next old)

-- what is told before is told after and the same: at most recipes are told that were not
pub record Extends (old new : Content) : Type 0 where
  pub recipes : (rs : List (List ℕ)) → old.recipes ≡ Some rs → new.recipes ≡ Some rs
  pub artifacts : new.artifacts ≡ old.artifacts
  pub tells : new.tells ≡ old.tells

-- so it is of what it holds, and what comes stays as it is
pub record StaysTold {T : Type 0} (told : T → Content) (next : T → Option (List Content)) (old new : T) : Type 0 where
  pub content : Extends (told old) (told new)
  pub coming : next new ≡ next old

-- the first of what comes is held from now on, or where nothing comes what was held
abbrev pub IsRefreshed : List Content → Content → Content → Option (List Content) → Type 0
IsRefreshed [] old new coming = (new ≡ old) × (coming ≡ Some [])
IsRefreshed (next ∷ rest) old new coming = (new ≡ next) × (coming ≡ Some rest)

-- ---- what a call gives of it

-- the most bytes of a recipe that a call gives: one more than a recipe may have
abbrev pub most_given : ℕ
most_given = 65537

-- n bytes from that place on stand at the beginning of the slice, whose rest stays: none only at the end, or into an empty slice
pub record IsPart (bytes : List ℕ) (start : ℕ) (old new : List ℕ) (n : ℕ) : Type 0 where
  pub within : n ≤ length (drop start bytes)
  pub bytes_are : new ≡ take n (drop start bytes) ++ drop n old
  pub some : n ≡ 0 → (length old ≡ 0) ⊎ (length bytes ≤ start)

-- missing exactly where there is no such artifact
abbrev pub IsPieceOf : Option (List ℕ) → ℕ → List ℕ → List ℕ → Piece → Type 0
IsPieceOf None start old new Missing = new ≡ old
IsPieceOf None start old new (Bytes n) = ⊥
IsPieceOf (Some bytes) start old new Missing = ⊥
IsPieceOf (Some bytes) start old new (Bytes n) = IsPart bytes start old new n

abbrev pub IsWithin : ℕ → Piece → Type 0
IsWithin room Missing = ⊤
IsWithin room (Bytes n) = n ≤ room
