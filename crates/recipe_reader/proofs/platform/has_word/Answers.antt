use Rattle.std.proofs.Common.{lit<, ◌≡◌, ◌∙◌, true, false, rules}
use Rattle.recipe_reader.specs.Platforms.{is_text}
use Rattle.recipe_reader.proofs.Forms.{any_stop, any_next, any_end}
use Rattle.recipe_reader.proofs.platform.has_word.Goals as goal

pub returns-then-eq : goal.returns-then-eq
returns-then-eq c =
    let same : is_text c.in-Some.word.now c.args.value.now ≡ true = cc in
    any_stop (λ w. is_text w c.args.value.now) c.args.text.now c.words.rest.now c.in-Some.word.now c.in-Some.after.now c.words.invariant.words
    (c.in-Some.ensures.byte (lit< tt) (λ w o h. h)) same

pub words-preserved : goal.words-preserved
words-preserved c =
    let other : is_text c.in-Some.word.now c.args.value.now ≡ false = cc in
    record {
      words = any_next (λ w. is_text w c.args.value.now) c.args.text.now c.words.rest.now c.in-Some.word.now c.in-Some.after.now c.words.invariant.words
          (c.in-Some.ensures.byte (lit< tt) (λ w o h. h)) other;
      utf8 = search rules;
    }

pub returns : goal.returns
returns c = c.eq-2.ensures ∙ any_end (λ w. is_text w c.args.value.now) c.args.text.now c.words.rest.now c.words.invariant.words (c.in_default.ensures.byte
    (lit< tt) (λ w o h. h))
