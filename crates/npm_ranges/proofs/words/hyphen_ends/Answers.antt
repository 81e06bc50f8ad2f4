use Rattle.std.proofs.Common.{◌≡◌, List, ℕ, ◌∷◌, [], ◌∙◌, ap, sym, false, nat_eq}
use Rattle.std.specs.Cmp.Lexicographic.{pointwise}
use Rattle.npm_ranges.specs.Grammar.{hyphen_ends, words_of}
use Rattle.npm_ranges.proofs.Splitting.{no_hyphen, not_true}
use Rattle.npm_ranges.proofs.words.hyphen_ends.Goals as goal

pub returns-then-ne : goal.returns-then-ne
returns-then-ne c =
    let whole : words_of c.args.text.now ≡ c.in_ok-first.first.now ∷ c.in_ok-middle.middle.now ∷ c.in_ok-last.last.now ∷ words_of c.in_ok-last.rest.now =
    c.in_ok-first.ensures.words ∙ ap (λ (ws : List (List ℕ)). c.in_ok-first.first.now ∷ ws) (c.in_ok-middle.ensures.words
    ∙ ap (λ (ws : List (List ℕ)). c.in_ok-middle.middle.now ∷ ws) c.in_ok-last.ensures.words) in
    let other : pointwise nat_eq c.in_ok-middle.middle.now (45 ∷ []) ≡ false =
    ap (pointwise nat_eq c.in_ok-middle.middle.now) (sym c.as_slice.ensures) ∙ not_true _ (sym c.ne.ensures ∙ c.if-ne.true) in
    sym (ap hyphen_ends whole ∙ no_hyphen c.in_ok-first.first.now c.in_ok-middle.middle.now c.in_ok-last.last.now (words_of c.in_ok-last.rest.now) other)
