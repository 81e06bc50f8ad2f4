use Rattle.std.proofs.Common.{ℕ, List, Ok, subst, inr}
use Rattle.recipe_reader.specs.Recipes.{ReadsRecipe}
use Rattle.library_core.proofs.Sifting.{unread_is}
use Rattle.library_core.proofs.taken.sift.Goals as goal

pub returns-in-Err : goal.returns-in-Err
returns-in-Err c = unread_is c.args.platform.now c.args.bytes c.as_slice.result.now c.in-Err.fault c.unread.result c.as_slice.ensures c.in-Err.ensures.exact
    c.unread.ensures

pub returns-then-is_nucleus : goal.returns-then-is_nucleus
returns-then-is_nucleus c =
    inr (
      c.in-Ok.recipe,
      subst (λ (s : List ℕ). ReadsRecipe s c.args.platform.now (Ok c.in-Ok.recipe)) c.as_slice.ensures c.in-Ok.ensures.exact,
      c.is_nucleus.ensures.0 c.if-is_nucleus.true,
    )
