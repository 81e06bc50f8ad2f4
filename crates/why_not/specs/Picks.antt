-- Which open name is split next.
use Rattle.std.specs.Prelude.{◌≡◌, ℕ, List, Option, MatchOption}
use Rattle.std.specs.List.{Contains}
use Rattle.recipe_reader.specs.Members.{Member}
use Rattle.recipe_reader.specs.Sets.{IsTaken, AreTaken, IsLeastUntaken}
use Rattle.why_not.specs.declared.choosing.Form.{Form}
use Rattle.why_not.specs.declared.choosing.Form.TheVariants.{Plain}
use Rattle.why_not.specs.declared.choosing.Pick.{Pick}

-- one of the names of which no place is taken; of a plain certificate the least, and its versions are not counted
pub record IsPicked (ms : List Member) (form : Form) (taken : List ℕ) (names : List (List ℕ)) (pick : Pick) : Type 0 where
  pub listed : Contains names pick.name.now
  pub untaken : IsTaken ms taken pick.name.now → ⊥
  pub uncounted : form ≡ Plain → pick.live ≡ 0
  pub least : form ≡ Plain → IsLeastUntaken ms taken names pick.name.now

-- such a name, or none where each is taken
abbrev pub IsPick : List Member → Form → List ℕ → List (List ℕ) → Option Pick → Type 0
IsPick ms form taken names pick = MatchOption pick (AreTaken ms taken names) (IsPicked ms form taken names)
