-- The variables of an environment.
use Rattle.std.specs.Prelude.{◌≡◌, ◌==◌, ◌||◌, ℕ, Bool, true, false, List, [], ◌∷◌, ◌++◌, Option, Some, None, IsSome, ⊤}
use Rattle.std.specs.Option.{option_or}
use Rattle.std.specs.Ordering.{nat_cmp, match_ordering}
use Rattle.std.specs.Cmp.Lexicographic.{slice_cmp}
use Rattle.std.specs.List.{AllZip}
use Rattle.std.specs.declared.cmp.Ordering.TheVariants.{Less}
use Rattle.serde_json.specs.Data.{Data, null, boolean, number, string, array, object}
use Rattle.serde_json.specs.Written.{compact_text}
use Rattle.nuc_base.specs.Tables.{Table, each}
use Rattle.tree_core.specs.Parts.{check, IsObject, members}
use Rattle.recipe_reader.specs.declared.fault.RecipeFault.{RecipeFault}
use Rattle.recipe_reader.specs.declared.fault.RecipeFault.TheVariants.{WrongKind}
use Rattle.recipe_reader.specs.declared.fault.Key.TheVariants.{Setenv}

-- a name and a value
abbrev pub Variable : Type 0
Variable = List ℕ × List ℕ

-- the text of a variable: a text as it is, a whole number or a truth value as its JSON text
abbrev pub plain_text : Data → Option (List ℕ)
plain_text null = None
plain_text (boolean b) = Some (compact_text (boolean b))
plain_text (number n) = Some (compact_text (number n))
plain_text (string s) = Some s
plain_text (array ds) = None
plain_text (object ms) = None

abbrev pub has_equals : List ℕ → Bool
has_equals [] = false
has_equals (x ∷ xs) = x == 61 || has_equals xs

abbrev pub is_empty : List ℕ → Bool
is_empty [] = true
is_empty (x ∷ xs) = false

abbrev pub variable_lines : List ℕ × Data → Table RecipeFault
variable_lines m =
    check ((is_empty m.0 || has_equals m.0) ≡ false) (WrongKind Setenv)
    ++ check (IsSome (plain_text m.1)) (WrongKind Setenv)

abbrev pub environment_lines : Data → Table RecipeFault
environment_lines v = check (IsObject v) (WrongKind Setenv) ++ each variable_lines (members v)

abbrev pub IsVariable : List ℕ × Data → Variable → Type 0
IsVariable m x = (x.0 ≡ m.0) × (plain_text m.1 ≡ Some x.1)

-- the variables of an environment that may be absent
abbrev pub AreVariables : Option Data → List Variable → Type 0
AreVariables None xs = xs ≡ []
AreVariables (Some v) xs = AllZip IsVariable (members v) xs

-- ---- variables in the order of their names

-- the name comes before each of these
abbrev pub IsBelow : List ℕ → List Variable → Type 0
IsBelow n [] = ⊤
IsBelow n (x ∷ xs) = (slice_cmp nat_cmp n x.0 ≡ Less) × IsBelow n xs

abbrev pub HaveRisingNames : List Variable → Type 0
HaveRisingNames [] = ⊤
HaveRisingNames (x ∷ xs) = IsBelow x.0 xs × HaveRisingNames xs

-- the value of a name
abbrev pub find_in : List ℕ → List Variable → Option (List ℕ)
find_in n [] = None
find_in n (x ∷ xs) = match_ordering (slice_cmp nat_cmp n x.0) (find_in n xs) (Some x.1) (find_in n xs)

-- the variables of both in name order, where both name one the own one
pub record IsJoined (own outer joined : List Variable) : Type 0 where
  pub rises : HaveRisingNames joined
  pub values : (n : List ℕ) → find_in n joined ≡ option_or (find_in n own) (find_in n outer)
