use Rattle.std.proofs.Common.{List, ℕ, Option, subst}
use Rattle.std.specs.Option.{unwrap_or}
use Rattle.npm_ranges.specs.declared.comparator.Sign.{Sign}
use Rattle.npm_ranges.specs.declared.comparator.Sign.TheVariants as sign
use Rattle.npm_ranges.specs.Grammar.{partial_of, with_sign}
use Rattle.npm_ranges.specs.Reading.{RangeOutcome}
use Rattle.npm_ranges.specs.Views.{seen}
use Rattle.npm_ranges.proofs.read.word_comparator.Goals as goal

pub returns : goal.returns
returns c =
    let p = c.sign_of-sign.result in
    let given = subst (λ (s : Sign). RangeOutcome seen (with_sign s (partial_of p.1.now)) c.comparator.result) c.unwrap_or.ensures c.comparator.ensures in
    subst (λ (q : Option Sign × List ℕ). RangeOutcome seen (with_sign (unwrap_or q.0 sign.Equal) (partial_of q.1)) c.comparator.result)
    c.sign_of-sign.ensures given
