use Rattle.std.proofs.Common.{◌≡◌, drop, map}
use Rattle.std.specs.List.{list_any}
use Rattle.semver.specs.Identifiers.{parts_of}
use Rattle.npm_ranges.specs.Ranges.{lets_pre_in}
use Rattle.npm_ranges.specs.Views.{seen}
use Rattle.npm_ranges.proofs.comparator.some_lets_pre_in.Given as goal

abbrev pub invariant-some : goal.invariant-some
invariant-some l = list_any (lets_pre_in (parts_of l.version)) (map seen l.set) ≡ list_any (lets_pre_in (parts_of l.version))
    (map seen (drop l.comparator-index l.set))
