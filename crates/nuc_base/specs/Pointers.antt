-- JSON pointers (RFC 6901).
use Rattle.std.specs.Prelude.{◌≡◌, ℕ, ◌<◌, ◌≤◌, ◌==◌, ◌&&◌, ◌||◌, Bool, true, false, not, List, [], ◌∷◌, length, if◌then◌else◌, map}
use Rattle.std.specs.List.{slice_split}
use Rattle.nuc_base.specs.declared.pointer.PointerFault.{PointerFault}
use Rattle.nuc_base.specs.declared.pointer.PointerFault.TheVariants.{TooLong, NoSlash, BadTilde, NoMemory}

abbrev pub is_escape : List ℕ → Bool
is_escape [] = false
is_escape (y ∷ rest) = y == 48 || y == 49

-- each `~` is followed by `0` or `1`
abbrev pub are_whole : List ℕ → Bool
are_whole [] = true
are_whole (x ∷ rest) = (not (x == 126) || is_escape rest) && are_whole rest

-- `~1` stands for `/`, and `~0` for `~`
abbrev pub unescape : List ℕ → List ℕ
unescape [] = []
unescape (x ∷ []) = x ∷ []
unescape (x ∷ y ∷ rest) = if x == 126 && y == 49 then 47 ∷ unescape rest else (if x == 126 && y == 48 then 126 ∷ unescape rest else x ∷ unescape (y ∷ rest))

abbrev pub begins : List ℕ → Bool
begins [] = true
begins (x ∷ rest) = x == 47

-- what stands between the `/`, without escapes
abbrev pub tokens : List ℕ → List (List ℕ)
tokens [] = []
tokens (x ∷ rest) = map unescape (slice_split (λ b. b == 47) rest)

pub record IsPointer (text : List ℕ) : Type 0 where
  pub short : length text ≤ 1024
  pub slash : begins text ≡ true
  pub tildes : are_whole text ≡ true

-- the first fault of a text
abbrev pub FailsAs : List ℕ → PointerFault → Type 0
FailsAs text TooLong = 1024 < length text
FailsAs text NoSlash = (length text ≤ 1024) × (begins text ≡ false)
FailsAs text BadTilde = (length text ≤ 1024) × (begins text ≡ true) × (are_whole text ≡ false)
FailsAs text NoMemory = IsPointer text
