-- Which platforms a manifest is for.
use Rattle.std.specs.Prelude.{◌≡◌, ℕ, ◌≤◌, ◌==◌, ◌&&◌, ◌||◌, ◌⊎◌, Bool, true, false, not, nat_eq, List, [], ◌∷◌, ◌++◌, length, codes, Option, Some, None}
use Rattle.std.specs.Prelude.{IsSome, option_map, if◌then◌else◌}
use Rattle.std.specs.Cmp.Lexicographic.{pointwise}
use Rattle.std.specs.List.{slice_split, list_all, list_any}
use Rattle.serde_json.specs.Data.{Data, null, boolean, number, string, array, object}
use Rattle.serde_json.specs.Find.{get}
use Rattle.nuc_base.specs.Names.{is_name_byte}
use Rattle.nuc_base.specs.Tables.{Table}
use Rattle.nuc_base.specs.declared.platform.Platform.{Platform}
use Rattle.tree_core.specs.Parts.{present, IsText, IsTextOf, IsObject, IsList, members, values, check, optional}
use Rattle.recipe_reader.specs.Spelled.{spelled}
use Rattle.recipe_reader.specs.declared.fault.Key.{Key}
use Rattle.recipe_reader.specs.declared.fault.Key.TheVariants as key
use Rattle.recipe_reader.specs.declared.fault.RecipeFault.{RecipeFault}
use Rattle.recipe_reader.specs.declared.fault.RecipeFault.TheVariants as fault

abbrev pub is_text : List ℕ → List ℕ → Bool
is_text s t = pointwise nat_eq s t

abbrev pub is_any : List ℕ → Bool
is_any s = is_text s (codes "*") || is_text s (codes "all")

-- letters, digits, `_`, `-` and `.`
abbrev pub is_word : List ℕ → Bool
is_word s = not (length s == 0) && list_all is_name_byte s

-- what stands before a slash at the end
abbrev pub before_slash : List ℕ → Option (List ℕ)
before_slash [] = None
before_slash (x ∷ []) = if x == 47 then Some [] else None
before_slash (x ∷ y ∷ rest) = option_map (λ s. x ∷ s) (before_slash (y ∷ rest))

-- what stands between a slash at the beginning and one at the end
abbrev pub inside : List ℕ → Option (List ℕ)
inside [] = None
inside (x ∷ rest) = if x == 47 then before_slash rest else None

-- words with bars between them
abbrev pub words : List ℕ → List (List ℕ)
words s = slice_split (λ b. b == 124) s

abbrev pub are_words : Option (List ℕ) → Bool
are_words None = false
are_words (Some s) = list_all is_word (words s)

abbrev pub has_word : List ℕ → Option (List ℕ) → Bool
has_word value None = false
has_word value (Some s) = list_any (λ w. is_text w value) (words s)

-- the forms that are read
abbrev pub is_pattern : List ℕ → Bool
is_pattern s = (is_any s || is_word s) || are_words (inside s)

-- a text of such a form matches a value
abbrev pub names : List ℕ → List ℕ → Bool
names value s = (is_any s || is_word s && is_text s value) || has_word value (inside s)

abbrev pub word_lines : Key → Data → Table RecipeFault
word_lines k v = check (IsText v) (fault.WrongKind k) ++ check (IsTextOf (λ s. is_pattern s ≡ true) v) fault.UnsupportedPlatform

abbrev pub platform_lines : Data → Table RecipeFault
platform_lines v =
    check (IsObject v) (fault.WrongKind key.Platform)
    ++ optional (spelled key.Os) v (word_lines key.Os)
    ++ optional (spelled key.Architecture) v (word_lines key.Architecture)

abbrev pub manifest_lines : Data → Table RecipeFault
manifest_lines m = check (IsObject m) (fault.WrongKind key.Manifests) ++ optional (spelled key.Platform) m platform_lines

-- a value that names this one, or is absent
abbrev pub fits : List ℕ → Option Data → Bool
fits value None = true
fits value (Some null) = false
fits value (Some (boolean b)) = false
fits value (Some (number n)) = false
fits value (Some (string s)) = names value s
fits value (Some (array ds)) = false
fits value (Some (object ms)) = false

-- a value that names any, or is absent
abbrev pub is_open : Data → Bool
is_open null = true
is_open (boolean b) = false
is_open (number n) = false
is_open (string s) = is_any s
is_open (array ds) = false
is_open (object ms) = false

-- a key beside `os` and `architecture` asks for nothing
abbrev pub asks_nothing : List ℕ × Data → Bool
asks_nothing m = (is_text m.0 (spelled key.Os) || is_text m.0 (spelled key.Architecture)) || is_open m.1

abbrev pub platform_matches : Platform → Data → Bool
platform_matches platform v =
    (fits platform.os (present (get (spelled key.Os) v)) && fits platform.architecture (present (get (spelled key.Architecture) v)))
    && list_all asks_nothing (members v)

abbrev pub matches_platform : Platform → Option Data → Bool
matches_platform platform None = true
matches_platform platform (Some v) = platform_matches platform v

-- the manifest is for this platform
abbrev pub matches : Platform → Data → Bool
matches platform m = matches_platform platform (present (get (spelled key.Platform) m))

abbrev pub unless : Bool → Table RecipeFault → Table RecipeFault
unless true lines = []
unless false lines = lines

-- each manifest is looked at up to the first that matches
abbrev pub walk_lines : Platform → List Data → Table RecipeFault
walk_lines platform [] = []
walk_lines platform (m ∷ ms) = manifest_lines m ++ unless (matches platform m) (walk_lines platform ms)

-- the first that matches
abbrev pub chosen : Platform → List Data → Option Data
chosen platform [] = None
chosen platform (m ∷ ms) = if matches platform m then Some m else chosen platform ms

-- there are no manifests, or one is for this platform
abbrev pub HasChoice : Platform → List Data → Type 0
HasChoice platform ms = (ms ≡ []) ⊎ IsSome (chosen platform ms)

abbrev pub manifests_lines : Platform → Data → Table RecipeFault
manifests_lines platform v =
    check (IsList v) (fault.WrongKind key.Manifests)
    ++ check (length (values v) ≤ 64) (fault.TooMany key.Manifests)
    ++ (walk_lines platform (values v) ++ check (HasChoice platform (values v)) fault.NoManifest)

-- the manifest of a recipe, where there is one
abbrev pub chosen_in : Platform → Option Data → Option Data
chosen_in platform None = None
chosen_in platform (Some v) = chosen platform (values v)
