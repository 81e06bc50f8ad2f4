use Rattle.std.proofs.Common.{◌∙◌, sym}
use Rattle.interpolation.proofs.Words.{no_row}
use Rattle.interpolation.proofs.values.component_value.Goals as goal

pub returns : goal.returns
returns c =
    sym (no_row c.args.root.now c.args.place.now c.args.word.now c.in_default.ensures.cases (sym c.eq.ensures ∙ c.if-eq.false) (sym c.eq-2.ensures
    ∙ c.if-eq-2.false) (sym c.eq-3.ensures ∙ c.if-eq-3.false))
