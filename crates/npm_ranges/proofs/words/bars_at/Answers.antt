use Rattle.std.proofs.Common.{◌≡◌, ◌∙◌, ap, arith, sym, true, false, drop}
use Rattle.npm_ranges.specs.Views.{bars_at, begins_bars}
use Rattle.npm_ranges.proofs.Splitting.{bars_fit, bars_here, bars_next, bars_past, rest_is}
use Rattle.npm_ranges.proofs.words.bars_at.Goals as goal

pub returns-then-begins_bars : goal.returns-then-begins_bars
returns-then-begins_bars c =
    let text = c.args.text.now in
    let i = c.bytes.i in
    let begins : begins_bars (drop i text) ≡ true = ap begins_bars (sym (rest_is text i)) ∙ sym c.begins_bars.ensures ∙ c.if-begins_bars.true in
    let here = bars_here text i c.bytes-test.true begins in
    let place : i ≡ bars_at text = omega (arith, c.bytes.invariant, here) in
    record { place = place; fits = λ other. rw place (bars_fit text (λ e. other (place ∙ e))) }

pub bytes-preserved : goal.bytes-preserved
bytes-preserved c =
    let text = c.args.text.now in
    let i = c.bytes.i in
    let begins : begins_bars (drop i text) ≡ false = ap begins_bars (sym (rest_is text i)) ∙ sym c.begins_bars.ensures ∙ c.if-begins_bars.false in
    let next = bars_next text i c.bytes-test.true begins in
    omega (arith, c.bytes.invariant, next)

pub returns : goal.returns
returns c =
    let past = bars_past c.args.text.now c.bytes.i c.bytes-test.false in
    record { place = omega (arith, c.bytes.invariant, past); fits = λ other. absurd (omega arith) }
