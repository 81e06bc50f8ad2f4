use Rattle.std.proofs.Common.{◌≡◌, drop, map}
use Rattle.std.specs.List.{list_all}
use Rattle.semver.specs.Identifiers.{parts_of}
use Rattle.npm_ranges.specs.Ranges.{meets_comparator}
use Rattle.npm_ranges.specs.Views.{seen}
use Rattle.npm_ranges.proofs.comparator.meets_all.Given as goal

abbrev pub invariant-all : goal.invariant-all
invariant-all l = list_all (meets_comparator (parts_of l.version)) (map seen l.set) ≡ list_all (meets_comparator (parts_of l.version))
    (map seen (drop l.comparator-index l.set))
