use Rattle.std.proofs.Common.{◌≡◌, Some, slice_get, option_map, sym, ap, subst, ◌∙◌}
use Rattle.std.proofs.lemmas.Option.{slice_get-map}
use Rattle.recipe_reader.specs.OneRecipe.{IsRecipeFor}
use Rattle.records.specs.Stored.{item_view}
use Rattle.test_supervisor.proofs.steps.count_in.Goals as goal

pub count_steps-requires-clause-recipe : goal.count_steps-requires-clause-recipe
count_steps-requires-clause-recipe c =
    let items = c.args.items.now in
    let x = c.in-Some.item.now in
    let there = subst (λ xs. slice_get xs 0 ≡ Some x) c.as_slice.ensures (sym c.in-Some.ensures.value) in
    record {
      item = item_view x;
      there = slice_get-map item_view items 0 ∙ ap (option_map item_view) there;
      recipe = c.in-Ok.recipe;
      reads = subst (λ bytes. IsRecipeFor bytes c.args.origin.now.platform c.in-Ok.recipe) c.as_slice-2.ensures c.in-Ok.ensures.exact;
    }
