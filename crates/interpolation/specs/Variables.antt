-- The variables of a text, and what the text becomes.
use Rattle.std.specs.Prelude.{ℕ, ◌≡◌, ◌≢◌, List, [], ◌∷◌, ◌++◌, All}
use Rattle.std.specs.List.{AllByRecursion}
use Rattle.interpolation.specs.declared.scope.Scope.{Scope}
use Rattle.interpolation.specs.Values.{written, replaced}

-- what may stand between the braces of a variable: something, with neither `{` nor `}`
pub record IsInside (w : List ℕ) : Type 0 where
  pub some : w ≢ []
  pub no_brace : All (λ b. (b ≢ 123) × (b ≢ 125)) w

-- no part of the text is a variable
abbrev pub HasNoVariable : List ℕ → Type 0
HasNoVariable text = (prefix w back : List ℕ) → IsInside w → text ≢ prefix ++ (written w ++ back)

-- the piece ends inside of a variable, which a `}` behind it closes
pub record EndsInside (piece plain w : List ℕ) : Type 0 where
  pub is : piece ≡ plain ++ (123 ∷ w)
  pub inside : IsInside w

-- a plain piece, and the variable behind it
pub record Part : Type 0 where
  pub plain : List ℕ
  pub inside : List ℕ

pub record IsPart (part : Part) : Type 0 where
  pub plain : HasNoVariable part.plain
  pub inside : IsInside part.inside

-- a text cut into plain pieces and variables, with the plain piece at its end
pub record Cutting : Type 0 where
  pub parts : List Part
  pub last : List ℕ

-- the pieces joined again, with something in the place of each variable
abbrev pub joined : (List ℕ → List ℕ) → List Part → List ℕ → List ℕ
joined instead [] last = last
joined instead (part ∷ parts) last = part.plain ++ (instead part.inside ++ joined instead parts last)

-- the text is these pieces, and no plain piece has a variable
pub record IsCutInto (text : List ℕ) (cutting : Cutting) : Type 0 where
  pub whole : text ≡ joined written cutting.parts cutting.last
  pub parts : AllByRecursion IsPart cutting.parts
  pub last : HasNoVariable cutting.last

-- The result is the plain pieces and what is put in the place of each variable.
pub record IsExpansion (scope : Scope) (text result : List ℕ) (cutting : Cutting) : Type 0 where
  pub cut : IsCutInto text cutting
  pub values : result ≡ joined (replaced scope) cutting.parts cutting.last

abbrev pub Expanded : Scope → List ℕ → List ℕ → Type 0
Expanded scope text result = (cutting : Cutting) × IsExpansion scope text result cutting

-- what a prefix of texts becomes, whatever follows
abbrev pub ExpandedPrefix : Scope → List ℕ → List ℕ → Type 0
ExpandedPrefix scope prefix added = (text result : List ℕ) → Expanded scope text result → Expanded scope (prefix ++ text) (added ++ result)
