-- The places of the row, and the names that stand there.
use Rattle.std.proofs.Common.{[], ◌∷◌, refl, inl}
use Rattle.std.specs.Prelude.{codes}
use Rattle.tree_core.specs.declared.tree.Tree.TheVariants as tree
use Rattle.plan_core.specs.Rows.{candidate, recipe, dependency}
use Rattle.plan_core.proofs.laws.small_plans.Goals as goal

pub returns-clause-boots : goal.returns-clause-boots
returns-clause-boots c = inl (
  codes "B",
  codes "A" ∷ [],
  refl,
  tt,
  (candidate (recipe (codes "B") (codes "1.0.0") tree.Null [] []), refl, refl),
  inl (codes "A", [], refl, tt, (candidate (recipe (codes "A") (codes "1.0.0") tree.Null (dependency (codes "B") ∷ []) []), refl, refl), refl),
)
