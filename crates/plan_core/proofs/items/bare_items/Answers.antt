use Rattle.std.proofs.Common.{◌≡◌, ◌∷◌, ◌++◌, ◌+◌, List, map, drop, sym, ap, subst, ◌∙◌}
use Rattle.std.proofs.lemmas.List.Elements.{All-contains}
use denote.Bor.{Bor}
use Rattle.nuc_base.proofs.Lists.{in_map}
use Rattle.tree_core.specs.View.{view}
use Rattle.tree_core.specs.Regular.{IsRegular}
use Rattle.recipe_reader.specs.declared.candidate.Candidate.{Candidate}
use Rattle.records.specs.Stored.{Item, item_view}
use Rattle.records.specs.declared.record.Item as code
use Rattle.device.specs.Plans.{AreRegularItems}
use Rattle.plan_core.specs.Looks.{candidates_of}
use Rattle.plan_core.specs.Set.{bare, items_of}
use Rattle.plan_core.proofs.Growing.{next, pushed, regular_push}
use Rattle.plan_core.proofs.items.bare_items.Goals as goal

pub loop-candidate-preserved : goal.loop-candidate-preserved
loop-candidate-preserved c =
    let set = map item_view c.args.set.now in
    let roots = c.args.roots.now in
    let cs = c.args.choice.now in
    let i = c.loop-candidate.candidate-index in
    let left = map bare (items_of set roots (candidates_of (drop i cs))) in
    let rest = map bare (items_of set roots (candidates_of (drop (i + 1) cs))) in
    let all = map bare (items_of set roots (candidates_of cs)) in
    let new = c.in_ok-bare_item.field-0 in
    let is : left ≡ item_view new ∷ rest = ap (λ (l : List (Bor Candidate)). map bare (items_of set roots (candidates_of l)))
    (next cs i c.candidate-item.result c.loop-candidate-test.true c.candidate-item.is)
    ∙ ap (λ (y : Item). y ∷ rest) (sym c.in_ok-bare_item.ensures.value) in
    record {
      value = subst (λ (l : List code.Item). map item_view l ++ rest ≡ all) (sym c.in_ok-push.ensures.items)
          (pushed item_view c.loop-candidate.items.items new left rest all c.loop-candidate.invariant.value is);
      regular = subst (λ (l : List code.Item). AreRegularItems (map item_view l)) (sym c.in_ok-push.ensures.items)
          (regular_push c.loop-candidate.items.items new c.loop-candidate.invariant.regular c.in_ok-bare_item.ensures.regular);
    }

pub bare_item-requires-clause-recipe : goal.bare_item-requires-clause-recipe
bare_item-requires-clause-recipe c =
    let b = c.candidate-item.result in
    All-contains (λ (x : Candidate). IsRegular (view x.recipe.default_config)) (candidates_of c.args.choice.now) b.now c.requires.recipes
    (in_map (λ (y : Bor Candidate). y.now) c.args.choice.now b (c.loop-candidate.candidate-index, c.loop-candidate-test.true, sym c.candidate-item.is))
