use Rattle.std.proofs.Common.{◌≡◌, length}
use Rattle.npm_ranges.specs.Grammar.{each_of, set_of, written}
use Rattle.npm_ranges.specs.Views.{sets_behind, sets_seen}
use Rattle.npm_ranges.proofs.Reading.{with_prefix}
use Rattle.npm_ranges.proofs.read.sets_in.Given as goal

abbrev pub invariant-sets : goal.invariant-sets
invariant-sets l = written l.fn.text ≡ with_prefix (sets_seen l.sets.items) (each_of set_of (sets_behind l.rest))

abbrev pub decreases-sets : goal.decreases-sets
decreases-sets l = length (sets_behind l.rest)
