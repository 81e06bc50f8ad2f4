use Rattle.std.proofs.Common.{get_or, ◌≡◌, ℕ, List, [], length, take, min, sym, ap, ◌∙◌, inl, inr, arith}
use Rattle.std.proofs.lemmas.List.{take_all, get_or_default}
use Rattle.std.proofs.lemmas.Bool.{cases_lt}
use Rattle.library_core.specs.Library.{most_given}
use Rattle.library_core.proofs.stored.prefix_of.Goals as goal

prefix_given : (s : List ℕ) (n : ℕ) → n ≡ min (length s) most_given → take n s ≡ take most_given s
prefix_given s n is = elim (cases_lt (length s) most_given) [
  | inl short ↦ take_all n s (omega (arith, is)) ∙ sym (take_all most_given s (omega arith))
  | inr long ↦ let e : n ≡ most_given = omega (arith, is) in ap (λ (k : ℕ). take k s) e
]

pub returns-in-Ok-clause-answers : goal.returns-in-Ok-clause-answers
returns-in-Ok-clause-answers c =
    let r = c.index-recipes-at.result in
    let s = c.as_slice-bytes.result.now in
    let there : s ≡ get_or c.args.recipes.now c.args.at [] = c.as_slice-bytes.ensures ∙ c.index-recipes-at.is ∙ get_or_default c.args.recipes.now c.args.at
    r [] c.requires in
    c.in-Ok.ensures ∙ prefix_given s c.min-count.result c.min-count.ensures ∙ ap (take most_given) there
