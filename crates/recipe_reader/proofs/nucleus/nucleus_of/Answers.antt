use Rattle.std.proofs.Common.{ℕ, List, sym, subst}
use Rattle.tree_core.specs.Reading.{IsTreeOf}
use Rattle.recipe_reader.specs.Recipes.{limit}
use Rattle.recipe_reader.specs.Candidates.{nucleus_data}
use Rattle.recipe_reader.proofs.BuiltIn.{nucleus_tree, nucleus_lines}
use Rattle.recipe_reader.proofs.nucleus.nucleus_of.Goals as goal

pub returns : goal.returns
returns c =
    let v = c.args.version.now in
    let is = c.text.ensures.rule in
    let recipe = c.in_ok-recipe.ensures in record {
      name = recipe.name;
      version = recipe.version;
      bytes = c.in_ok-bytes.ensures;
      read = λ p. (
        nucleus_data v,
        subst (λ (s : List ℕ). IsTreeOf s limit (nucleus_data v)) (sym c.in_ok-bytes.ensures) (nucleus_tree c.tree_laws.ensures.reads_back v is),
        nucleus_lines p v is,
        recipe.recipe p,
      );
    }
