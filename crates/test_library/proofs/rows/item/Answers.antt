use Rattle.std.proofs.Common.{ℕ, List, Ok, sym, subst, ◌∙◌}
use Rattle.recipe_reader.specs.Recipes.{ReadsRecipe}
use Rattle.test_library.proofs.rows.item.Goals as goal

pub returns-in_ok-item-in-Ok : goal.returns-in_ok-item-in-Ok
returns-in_ok-item-in-Ok c =
    let item = c.in_ok-item-in-Ok.ensures in (
      c.in-Ok.recipe,
      subst (λ (s : List ℕ). ReadsRecipe s c.args.platform.now (Ok c.in-Ok.recipe)) (c.as_slice.ensures ∙ sym item.recipe) c.in-Ok.ensures.exact,
      sym item.name,
      sym item.version,
    )
