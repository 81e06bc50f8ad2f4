-- Laws of cuttings and expansions.
use Rattle.std.specs.Prelude.{ℕ, ◌≡◌, List}
use Rattle.interpolation.specs.declared.scope.Scope.{Scope}
use Rattle.interpolation.specs.Scopes.{AreAlike}
use Rattle.interpolation.specs.Variables.{Cutting, IsCutInto, Expanded}

-- a text is cut in one way
abbrev pub IsOneCutting : Type 0
IsOneCutting = (text : List ℕ) (c d : Cutting) → IsCutInto text c → IsCutInto text d → c ≡ d

-- a text has one expansion
abbrev pub IsOneText : Type 0
IsOneText = (scope : Scope) (text a b : List ℕ) → Expanded scope text a → Expanded scope text b → a ≡ b

-- scopes that are seen alike give one expansion
abbrev pub ExpandAlike : Type 0
ExpandAlike = (s t : Scope) (text a b : List ℕ) → AreAlike s t → Expanded s text a → Expanded t text b → a ≡ b
