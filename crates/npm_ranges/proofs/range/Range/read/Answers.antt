use Rattle.npm_ranges.proofs.Ascii.{range_is_utf8}
use Rattle.npm_ranges.proofs.range.Range.read.Goals as goal

pub returns-in_default : goal.returns-in_default
returns-in_default c = let s = c.in_ok-sets.ensures in absurd (c.in_default.ensures.cases.0 (range_is_utf8 c.args.bytes.now _ s))
