use Rattle.std.proofs.Common.{map, sym, subst}
use Rattle.std.proofs.lemmas.List.Elements.{All-weaker}
use Rattle.tree_core.specs.View.{view}
use Rattle.tree_core.specs.Regular.{IsRegular}
use Rattle.recipe_reader.specs.Candidates.{IsReadFor}
use Rattle.recipe_reader.specs.declared.candidate.Candidate.{Candidate}
use Rattle.records.specs.Stored.{item_view}
use Rattle.plan_core.specs.Looks.{candidates_of, AreOf}
use Rattle.plan_core.proofs.Facts.{are_of}
use Rattle.plan_core.proofs.plan.parts_of.Goals as goal

pub bare_items-requires-clause-recipes : goal.bare_items-requires-clause-recipes
bare_items-requires-clause-recipes c =
    All-weaker (IsReadFor c.args.origin.now.platform) (λ (x : Candidate). IsRegular (view x.recipe.default_config))
    (λ x read. (c.recipe_laws.ensures.sound x.bytes c.args.origin.now.platform x.recipe read).regular) (candidates_of c.args.choice.now) c.requires.may.read

pub boots_of-requires-clause-items : goal.boots_of-requires-clause-items
boots_of-requires-clause-items c =
    subst (AreOf (candidates_of c.args.choice.now)) (sym c.in_ok-items.ensures.value)
    (are_of (map item_view c.as_slice.result.now) c.as_slice-2.result.now (candidates_of c.args.choice.now))
