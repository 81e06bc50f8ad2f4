use Rattle.std.proofs.Common.{◌≡◌, ◌==◌, ◌∙◌, ◌++◌, ℕ, List, true, false, codes, length, ap, sym}
use Rattle.serde_json.specs.Data.{string}
use Rattle.recipe_reader.specs.Steps.{IsAsked, trimmed}
use Rattle.recipe_reader.specs.declared.recipe.Skip.TheVariants.{OnPath, Exists}
use Rattle.recipe_reader.proofs.skip.skip_of.Goals as goal

asked : (word s rest program t : List ℕ) → s ≡ word ++ rest → program ≡ trimmed rest → (length program == 0) ≡ false → t ≡ program → IsAsked word (string s) t
asked word s rest program t is what some same = record {
  rest = rest;
  text = ap string is;
  argument = same ∙ what;
  some = λ e. let none : (length program == 0) ≡ true = ap (λ p. length p == 0) (sym same ∙ e) in cc;
}

pub returns-in-Some : goal.returns-in-Some
returns-in-Some c =
    let x = c.in-Some.ensures.cases in
    let is : IsAsked (codes "onpath ") (string c.args.text.now) c.in_ok-from_str.field-0 =
    asked (codes "onpath ") c.args.text.now c.in-Some.rest.now c.trimmed-program.result.now c.in_ok-from_str.field-0
    (x.1.1 ∙ ap (λ (r : List ℕ). codes "onpath " ++ r) (sym x.2)) c.trimmed-program.ensures (sym c.is_empty.ensures
    ∙ c.if-is_empty.false) c.in_ok-from_str.ensures in
    (((OnPath c.in_ok-from_str.field-0, is), tt), is)

pub returns-in-Some-strip_prefix : goal.returns-in-Some-strip_prefix
returns-in-Some-strip_prefix c =
    let x = c.in-Some-strip_prefix.ensures.cases in
    let is : IsAsked (codes "exists ") (string c.args.text.now) c.in_ok-from_str-2.field-0 =
    asked (codes "exists ") c.args.text.now c.in-Some-strip_prefix.rest.now c.trimmed-file.result.now c.in_ok-from_str-2.field-0
    (x.1.1 ∙ ap (λ (r : List ℕ). codes "exists " ++ r) (sym x.2)) c.trimmed-file.ensures (sym c.is_empty-in-Some-strip_prefix.ensures
    ∙ c.if-is_empty-2.false) c.in_ok-from_str-2.ensures in
    (((Exists c.in_ok-from_str-2.field-0, is), tt), is)
