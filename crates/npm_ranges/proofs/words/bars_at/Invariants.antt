use Rattle.std.proofs.Common.{◌≡◌, ◌+◌, drop}
use Rattle.npm_ranges.specs.Views.{bars_at}
use Rattle.npm_ranges.proofs.words.bars_at.Given as goal

abbrev pub invariant-bytes : goal.invariant-bytes
invariant-bytes l = bars_at l.text ≡ l.i + bars_at (drop l.i l.text)
