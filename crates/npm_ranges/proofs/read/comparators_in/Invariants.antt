use Rattle.std.proofs.Common.{◌≡◌, length, map}
use Rattle.npm_ranges.specs.Grammar.{comparators_of, words_of}
use Rattle.npm_ranges.specs.Views.{seen}
use Rattle.npm_ranges.proofs.Reading.{with_prefix}
use Rattle.npm_ranges.proofs.read.comparators_in.Given as goal

abbrev pub invariant-words : goal.invariant-words
invariant-words l = comparators_of (words_of l.text) ≡ with_prefix (map seen l.comparators.items) (comparators_of (words_of l.rest))

abbrev pub decreases-words : goal.decreases-words
decreases-words l = length l.rest
