use Rattle.npm_ranges.proofs.Intervals.{caret_holds, tilde_holds}
use Rattle.npm_ranges.proofs.laws.caret_and_tilde_hold_intervals.Goals as goal

pub returns : goal.returns
returns c = record { caret = caret_holds; tilde = tilde_holds }
