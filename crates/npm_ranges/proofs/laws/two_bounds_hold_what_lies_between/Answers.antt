use Rattle.npm_ranges.proofs.Holding.{between_holds}
use Rattle.npm_ranges.proofs.laws.two_bounds_hold_what_lies_between.Goals as goal

pub returns : goal.returns
returns c = between_holds
