use Rattle.std.proofs.Common.{ℕ, ◌+◌, ◌≤◌, List, ◌∷◌, length, take, ap, ◌∙◌, arith, sym}
use Rattle.npm_ranges.specs.Grammar.{sets_of}
use Rattle.npm_ranges.proofs.Splitting.{bars_none, bars_some, rest_is}
use Rattle.npm_ranges.proofs.words.first_set.Goals as goal

pub returns-then-end-text : goal.returns-then-end-text
returns-then-end-text c = bars_none c.args.text.now (sym c.bars_at-end.ensures.place ∙ c.if-end-text.true)

pub returns-else-end-text : goal.returns-else-end-text
returns-else-end-text c =
    let text = c.args.text.now in
    let n = c.bars_at-end.result in
    let fits : n + 2 ≤ length text = c.bars_at-end.ensures.fits c.if-end-text.false in
    let some = bars_some text (omega (arith, c.bars_at-end.ensures.place, fits)) in
    some.1 ∙ rw (← c.bars_at-end.ensures.place) (ap (λ (rest : List ℕ). take n text ∷ sets_of rest) (sym (rest_is text (n + 2))))
