use Rattle.std.proofs.Common.{ℕ, List, ◌++◌, length}
use Rattle.std.specs.Str.{IsUtf8}
use Rattle.interpolation.specs.Variables.{Expanded}
use Rattle.interpolation.proofs.expansion.expand.Given as goal

-- whatever the rest becomes, behind what was made so far it is what the text becomes
abbrev pub invariant-pieces : goal.invariant-pieces
invariant-pieces l = record {
  so_far : (result : List ℕ) → Expanded l.scope l.rest result → Expanded l.scope l.text (l.expanded ++ result);
  utf8 : IsUtf8 l.rest;
}

abbrev pub decreases-pieces : goal.decreases-pieces
decreases-pieces l = length l.rest
