use Rattle.std.proofs.Common.{lit<, ◌≡◌, ◌∙◌, ap, true, false, rules}
use Rattle.recipe_reader.specs.Platforms.{is_word}
use Rattle.recipe_reader.proofs.Forms.{all_stop, all_next, all_end}
use Rattle.recipe_reader.proofs.platform.are_words.Goals as goal

pub returns-then-not-is_word : goal.returns-then-not-is_word
returns-then-not-is_word c =
    let here : c.is_word.result ≡ is_word c.in-Some.word.now = c.is_word.ensures ∙ ap is_word c.as_bytes.ensures.value in
    let other : is_word c.in-Some.word.now ≡ false = cc in
    all_stop is_word c.args.text.now c.words.rest.now c.in-Some.word.now c.in-Some.after.now c.words.invariant.words (c.in-Some.ensures.byte (lit< tt)
    (λ w o h. h)) other

pub words-preserved : goal.words-preserved
words-preserved c =
    let here : c.is_word.result ≡ is_word c.in-Some.word.now = c.is_word.ensures ∙ ap is_word c.as_bytes.ensures.value in
    let same : is_word c.in-Some.word.now ≡ true = cc in
    record {
      words = all_next is_word c.args.text.now c.words.rest.now c.in-Some.word.now c.in-Some.after.now c.words.invariant.words (c.in-Some.ensures.byte
          (lit< tt) (λ w o h. h)) same;
      utf8 = search rules;
    }

pub returns : goal.returns
returns c =
    let here : c.is_word-2.result ≡ is_word c.words.rest.now = c.is_word-2.ensures ∙ ap is_word c.as_bytes-2.ensures.value in
    here ∙ all_end is_word c.args.text.now c.words.rest.now c.words.invariant.words (c.in_default.ensures.byte (lit< tt) (λ w o h. h))
