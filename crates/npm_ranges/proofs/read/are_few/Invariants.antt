use Rattle.std.proofs.Common.{◌≡◌, ◌+◌, drop}
use Rattle.npm_ranges.specs.Ranges.{comparator_count}
use Rattle.npm_ranges.specs.Views.{sets_seen}
use Rattle.npm_ranges.proofs.read.are_few.Given as goal

abbrev pub invariant-sets : goal.invariant-sets
invariant-sets l = comparator_count (sets_seen l.sets) + l.left ≡ comparator_count (sets_seen (drop l.set-index l.sets)) + 32
