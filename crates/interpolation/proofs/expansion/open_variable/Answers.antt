use Rattle.std.proofs.Common.{Some, None, lit<, sym, ◌∙◌}
use Rattle.interpolation.proofs.Pieces.{last_cut, empty_is, not_empty}
use Rattle.interpolation.proofs.Cuttings.{ends_inside, ends_outside, ends_empty}
use Rattle.interpolation.proofs.expansion.open_variable.Goals as goal

pub returns-in_default : goal.returns-in_default
returns-in_default c =
    let piece = c.args.piece.now in
    ends_outside piece (last_cut 123 piece None c.in_default.ensures.cases (lit< tt))

pub returns-then-is_empty : goal.returns-then-is_empty
returns-then-is_empty c =
    let piece = c.args.piece.now in
    let cut = last_cut 123 piece (Some (c.in-Some.plain, c.in-Some.word)) c.in-Some.ensures.cases (lit< tt) in
    ends_empty piece c.in-Some.plain.now c.in-Some.word.now cut.0 (empty_is c.in-Some.word.now (sym c.is_empty.ensures ∙ c.if-is_empty.true))

pub returns : goal.returns
returns c =
    let piece = c.args.piece.now in
    let cut = last_cut 123 piece (Some (c.in-Some.plain, c.in-Some.word)) c.in-Some.ensures.cases (lit< tt) in
    ends_inside piece c.in-Some.plain.now c.in-Some.word.now c.requires cut.0 cut.1 (not_empty c.in-Some.word.now (sym c.is_empty.ensures
    ∙ c.if-is_empty.false))
