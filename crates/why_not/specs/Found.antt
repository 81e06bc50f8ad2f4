-- What explaining from the taken places on finds.
use Rattle.std.specs.Prelude.{◌≡◌, ℕ, ◌+◌, ◌<◌, ◌≤◌, ⊤, true, List, [], ◌∷◌, ◌++◌}
use Rattle.recipe_reader.specs.Members.{Need, Member}
use Rattle.recipe_reader.specs.Sets.{IsValid}
use Rattle.why_not.specs.Reasons.{Reason, is_split, nodes, seen}
use Rattle.why_not.specs.Certificates.{IsCertified, RestsOn}
use Rattle.why_not.specs.Plain.{IsFirstReason, IsPlain}
use Rattle.why_not.specs.declared.choosing.Form.{Form}
use Rattle.why_not.specs.declared.choosing.Form.TheVariants as form
use Rattle.why_not.specs.declared.explaining.Found.{Found}
use Rattle.why_not.specs.declared.explaining.Found.TheVariants.{Valid, TooLarge, Because}

-- ---- from the taken places on

-- a plain split, of as many nodes as were used up
pub record IsPlainSplit (ms : List Member) (wanted : List Need) (taken : List ℕ) (old new : ℕ) (r : Reason) : Type 0 where
  pub splits : is_split r ≡ true
  pub plain : IsPlain ms wanted taken r
  pub count : nodes r + new ≡ old

-- each plain split has more nodes
abbrev pub IsBeyond : List Member → List Need → List ℕ → ℕ → Type 0
IsBeyond ms wanted taken left = (s : Reason) → is_split s ≡ true → IsCertified ms wanted taken s → IsPlain ms wanted taken s → left < nodes s

-- a set is valid, or a certificate, or each plain one has more nodes than were left
abbrev pub IsFound : List Member → List Need → Form → List ℕ → ℕ → ℕ → Found → Type 0
IsFound ms wanted f taken old new Valid = (s : List ℕ) × IsValid ms wanted s
IsFound ms wanted f taken old new TooLarge = f ≡ form.Plain → IsBeyond ms wanted taken old
IsFound ms wanted f taken old new (Because part) =
    RestsOn ms wanted taken part.used.items (seen part.why) × (f ≡ form.Plain → IsPlainSplit ms wanted taken old new (seen part.why))

-- ---- with one place more

-- plain and the first reason against the place, of as many nodes as were used up
pub record IsPlainAt (ms : List Member) (wanted : List Need) (taken : List ℕ) (p : ℕ) (old new : ℕ) (r : Reason) : Type 0 where
  pub first : IsFirstReason ms wanted taken p r
  pub plain : IsPlain ms wanted (taken ++ p ∷ []) r
  pub count : nodes r + new ≡ old

-- each such one has more nodes
abbrev pub IsBeyondAt : List Member → List Need → List ℕ → ℕ → ℕ → Type 0
IsBeyondAt ms wanted taken p left =
    (s : Reason) → IsFirstReason ms wanted taken p s → IsCertified ms wanted (taken ++ p ∷ []) s → IsPlain ms wanted (taken ++ p ∷ []) s → left < nodes s

abbrev pub IsTried : List Member → List Need → Form → List ℕ → ℕ → ℕ → ℕ → Found → Type 0
IsTried ms wanted f taken p old new Valid = (s : List ℕ) × IsValid ms wanted s
IsTried ms wanted f taken p old new TooLarge = f ≡ form.Plain → IsBeyondAt ms wanted taken p old
IsTried ms wanted f taken p old new (Because part) =
    RestsOn ms wanted (taken ++ p ∷ []) part.used.items (seen part.why) × (f ≡ form.Plain → IsPlainAt ms wanted taken p old new (seen part.why))

-- ---- how large it is

-- a certificate has no more nodes than were used up
abbrev pub UsesUp : ℕ → ℕ → Found → Type 0
UsesUp old new (Because part) = nodes (seen part.why) + new ≤ old
UsesUp old new Valid = ⊤
UsesUp old new TooLarge = ⊤

-- ---- from no place on

-- a set is valid, or a certificate, or each plain one has more nodes
abbrev pub IsExplained : List Member → List Need → Form → ℕ → Found → Type 0
IsExplained ms wanted f nodes Valid = (s : List ℕ) × IsValid ms wanted s
IsExplained ms wanted f nodes TooLarge = f ≡ form.Plain → IsBeyond ms wanted [] nodes
IsExplained ms wanted f nodes (Because part) = IsCertified ms wanted [] (seen part.why) × (f ≡ form.Plain → IsPlain ms wanted [] (seen part.why))

-- a certificate has no more nodes than that
abbrev pub HasUpTo : ℕ → Found → Type 0
HasUpTo most (Because part) = nodes (seen part.why) ≤ most
HasUpTo most Valid = ⊤
HasUpTo most TooLarge = ⊤
