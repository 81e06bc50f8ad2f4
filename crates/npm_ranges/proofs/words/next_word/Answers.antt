use Rattle.std.proofs.Common.{ℕ, ◌+◌, ◌-◌, List, length, take, drop, refl, sym}
use Rattle.npm_ranges.proofs.Splitting.{first_word_last, first_word_next, no_word, rest_is, rest_none}
use Rattle.npm_ranges.proofs.words.next_word.Goals as goal

pub returns-in_err-start : goal.returns-in_err-start
returns-in_err-start c = rw c.from_residual.ensures (no_word c.args.text.now (sym c.in_err-start.ensures))

pub returns-in-Some : goal.returns-in-Some
returns-in-Some c =
    let text = c.args.text.now in
    let n = c.in_ok-start.start in
    let tail : List ℕ = take (length text - n) (drop n text) in
    first_word_next text tail _ _ n c.in-Some.end (sym c.in_ok-start.ensures) (rest_is text n) (sym c.in-Some.ensures) refl (rest_is tail (c.in-Some.end + 1))

pub returns-in-None : goal.returns-in-None
returns-in-None c =
    let text = c.args.text.now in
    let n = c.in_ok-start.start in
    let tail : List ℕ = take (length text - n) (drop n text) in
    first_word_last text tail _ n (sym c.in_ok-start.ensures) (rest_is text n) (sym c.in-None.ensures) (rest_none tail)
