use Rattle.std.proofs.Common.{◌≡◌, length}
use Rattle.std.specs.Str.{IsUtf8}
use Rattle.recipe_reader.specs.Steps.{trim_end}
use Rattle.recipe_reader.proofs.skip.trim_end.Given as goal

abbrev pub invariant-blanks : goal.invariant-blanks
invariant-blanks l = record {
  text : trim_end l.text ≡ trim_end l.rest;
  utf8 : IsUtf8 l.rest;
}

abbrev pub decreases-blanks : goal.decreases-blanks
decreases-blanks l = length l.rest
