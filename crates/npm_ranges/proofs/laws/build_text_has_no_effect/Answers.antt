use Rattle.npm_ranges.proofs.Holding.{build_has_no_effect}
use Rattle.npm_ranges.proofs.laws.build_text_has_no_effect.Goals as goal

pub returns : goal.returns
returns c = build_has_no_effect
