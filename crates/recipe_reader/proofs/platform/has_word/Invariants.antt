use Rattle.std.proofs.Common.{◌≡◌, length}
use Rattle.std.specs.Str.{IsUtf8}
use Rattle.std.specs.List.{list_any}
use Rattle.recipe_reader.specs.Platforms.{is_text, words}
use Rattle.recipe_reader.proofs.platform.has_word.Given as goal

abbrev pub invariant-words : goal.invariant-words
invariant-words l = record {
  words : list_any (λ w. is_text w l.value) (words l.text) ≡ list_any (λ w. is_text w l.value) (words l.rest);
  utf8 : IsUtf8 l.rest;
}

abbrev pub decreases-words : goal.decreases-words
decreases-words l = length l.rest
