use Rattle.std.proofs.Common.{◌≡◌, drop}
use Rattle.std.specs.List.{list_any}
use Rattle.semver.specs.Identifiers.{parts_of}
use Rattle.npm_ranges.specs.Ranges.{meets_set}
use Rattle.npm_ranges.specs.Views.{sets_seen}
use Rattle.npm_ranges.proofs.comparator.meets_any.Given as goal

abbrev pub invariant-sets : goal.invariant-sets
invariant-sets l = list_any (meets_set (parts_of l.version)) (sets_seen l.sets) ≡ list_any (meets_set (parts_of l.version))
    (sets_seen (drop l.set-index l.sets))
