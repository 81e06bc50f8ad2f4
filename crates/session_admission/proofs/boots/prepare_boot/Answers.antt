use Rattle.std.proofs.Common.{◌≡◌, List, Option, Some, None, map, sym, subst, ◌∙◌}
use Rattle.nuc_base.specs.declared.kinds.Step.TheVariants as step
use Rattle.records.specs.Stored.{item_view}
use Rattle.records.specs.declared.record.Item as code
use Rattle.device.specs.Lawful.{place}
use Rattle.components.specs.Made.{IsStepAt}
use Rattle.components.specs.declared.kinds.Prepared.{Prepared}
use Rattle.session_admission.proofs.Placed.{boot_of, has_scope, is_made, is_there}
use Rattle.session_admission.proofs.boots.prepare_boot.Goals as goal

pub unreachable-requires : goal.unreachable-requires
unreachable-requires c =
    is_there c.args.origin.now.platform (map item_view c.args.items.now) c.args.name.now c.requires.boot
    (subst (λ (xs : List code.Item). place c.args.name.now (map item_view xs) ≡ None) c.as_slice.ensures (sym c.place_of.ensures ∙ c.in_default.is))

pub step_of-requires-clause-recipe : goal.step_of-requires-clause-recipe
step_of-requires-clause-recipe c =
    has_scope c.args.origin.now (map item_view c.args.items.now) c.args.name.now c.in-Some.at c.requires.items
    (subst (λ (xs : List code.Item). place c.args.name.now (map item_view xs) ≡ Some c.in-Some.at) c.as_slice.ensures (sym c.place_of.ensures ∙ c.in-Some.is))

pub unreachable-requires-in_default-2 : goal.unreachable-requires-in_default-2
unreachable-requires-in_default-2 c =
    is_made c.recipe_laws.ensures.one_recipe c.args.origin.now (map item_view c.args.items.now) c.args.name.now c.in-Some.at c.requires.items c.requires.boot
    (subst (λ (xs : List code.Item). place c.args.name.now (map item_view xs) ≡ Some c.in-Some.at) c.as_slice.ensures (sym c.place_of.ensures ∙ c.in-Some.is))
    (subst (λ (m : Option Prepared). IsStepAt c.args.origin.now (map item_view c.args.items.now) c.in-Some.at step.Bootstrap m) c.in_default-2.is
    c.in_ok-made.ensures)

pub returns : goal.returns
returns c =
    boot_of c.args.origin.now (map item_view c.args.items.now) c.args.name.now c.in-Some.at c.in-Some-2.made
    (subst (λ (xs : List code.Item). place c.args.name.now (map item_view xs) ≡ Some c.in-Some.at) c.as_slice.ensures (sym c.place_of.ensures ∙ c.in-Some.is))
    (subst (λ (m : Option Prepared). IsStepAt c.args.origin.now (map item_view c.args.items.now) c.in-Some.at step.Bootstrap m) c.in-Some-2.is
    c.in_ok-made.ensures)
