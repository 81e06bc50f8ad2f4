use Rattle.std.proofs.Common.{◌∙◌, refl}
use Rattle.npm_ranges.proofs.Partials.{value_over, value_ends}
use Rattle.npm_ranges.proofs.partial.value_of.Goals as goal

pub returns-in_err-value : goal.returns-in_err-value
returns-in_err-value c =
    let xs = c.args.digits.now in
    c.from_residual.ensures ∙ value_over xs xs c.digits.digit-index c.digits.value _ c.digits-test.true refl c.digits.invariant.kept c.in_err-value.ensures.none

pub returns : goal.returns
returns c =
    let xs = c.args.digits.now in
    value_ends xs xs c.digits.digit-index c.digits.value c.digits-test.false c.digits.invariant.kept c.digits.invariant.small
