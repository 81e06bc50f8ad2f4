use Rattle.std.proofs.Common.{◌≡◌, length}
use Rattle.std.specs.Str.{IsUtf8}
use Rattle.std.specs.List.{list_all}
use Rattle.recipe_reader.specs.Platforms.{is_word, words}
use Rattle.recipe_reader.proofs.platform.are_words.Given as goal

abbrev pub invariant-words : goal.invariant-words
invariant-words l = record {
  words : list_all is_word (words l.text) ≡ list_all is_word (words l.rest);
  utf8 : IsUtf8 l.rest;
}

abbrev pub decreases-words : goal.decreases-words
decreases-words l = length l.rest
