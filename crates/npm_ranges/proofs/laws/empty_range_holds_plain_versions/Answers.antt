use Rattle.npm_ranges.proofs.Holding.{empty_holds}
use Rattle.npm_ranges.proofs.laws.empty_range_holds_plain_versions.Goals as goal

pub returns : goal.returns
returns c = empty_holds
