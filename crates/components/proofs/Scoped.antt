-- The recipe by which an item is made ready is the one by which its scope was made.
use Rattle.std.proofs.Common.{◌≡◌, ◌≢◌, ◌<◌, ℕ, List, length, map, get_or, Some, slice_get, option_map, Option, refl, sym, ap, subst, ◌∙◌}
use Rattle.std.proofs.lemmas.List.{length-map}
use Rattle.std.proofs.lemmas.Option.{slice_get-map, slice_get_within, slice_get-get_or, get_or_from_slice_get}
use Rattle.nuc_base.specs.declared.kinds.Step.{Step}
use Rattle.nuc_base.specs.declared.kinds.Step.TheVariants.{Install, Run, Startup, Shutdown, Recover, Bootstrap}
use Rattle.recipe_reader.specs.OneRecipe.{IsRecipeFor, AreAlike, IsOneRecipe}
use Rattle.recipe_reader.specs.Steps.{step_of}
use Rattle.recipe_reader.specs.declared.recipe.Recipe.{Recipe}
use Rattle.recipe_reader.specs.declared.recipe.StepDef.{StepDef}
use Rattle.recipe_reader.specs.declared.recipe.Dependency.{Dependency}
use Rattle.interpolation.specs.declared.scope.Scope.{Scope}
use Rattle.records.specs.Stored.{Item, item_view}
use Rattle.records.specs.declared.record.Item as code
use Rattle.records.specs.declared.record.Origin.{Origin}
use Rattle.device.specs.Plans.{HasSomeRecipe}
use Rattle.device.specs.Scopes.{IsScopeOf, HasScope}
use Rattle.components.specs.Fitted.{Fitted, prepared_of}
use Rattle.components.specs.Made.{IsPrepared, IsStepAt, IsFittedAt, hard_names, soft_names}
use Rattle.components.specs.Runs.{IsFittedBy}
use Rattle.components.specs.declared.kinds.Prepared.{Prepared}

pub place_below : (origin : Origin) (items : List code.Item) (at : ℕ) → HasScope origin (map item_view items) at → at < length items
place_below origin items at h = subst (λ n. at < n) (length-map items item_view) (slice_get_within (map item_view items) at h.item h.there)

pub item_there : (items : List code.Item) (at : ℕ) (x : code.Item) → at < length items → x ≡ get_or items at x → slice_get items at ≡ Some x
item_there items at x below is = slice_get-get_or items at x below ∙ ap Some (sym is)

same_item : (items : List code.Item) (at : ℕ) (x : code.Item) (i : Item) → slice_get items at ≡ Some x → slice_get (map item_view items) at ≡ Some i →
    i ≡ item_view x
same_item items at x i there seen =
    let other : slice_get (map item_view items) at ≡ Some (item_view x) = slice_get-map item_view items at ∙ ap (option_map item_view) there in
    sym (get_or_from_slice_get (map item_view items) at i i seen) ∙ get_or_from_slice_get (map item_view items) at (item_view x) i other

pub recipe_there : (origin : Origin) (items : List code.Item) (at : ℕ) (x : code.Item) → slice_get items at ≡ Some x → HasScope origin
    (map item_view items) at → HasSomeRecipe origin.platform x.recipe
recipe_there origin items at x there h =
    (h.recipe, subst (λ (i : Item). IsRecipeFor i.recipe origin.platform h.recipe) (same_item items at x h.item there h.there) h.reads)

module _ (one : IsOneRecipe) (origin : Origin) (items : List code.Item) (at : ℕ) (x : code.Item) (there : slice_get items at ≡ Some x) (recipe : Recipe)
    (reads : IsRecipeFor x.recipe origin.platform recipe)
    (scope : Scope) (s : IsScopeOf origin (map item_view items) at scope) where
  alike : AreAlike s.recipe recipe
  alike = one x.recipe origin.platform s.recipe recipe (subst (λ (i : Item). IsRecipeFor i.recipe origin.platform s.recipe)
      (same_item items at x s.item there s.there) s.reads) reads

  of_scope : (step : Step) (made : Option Prepared) → IsPrepared scope (step_of recipe step) made → IsPrepared scope (step_of s.recipe step) made
  of_scope step made p = subst (λ (d : Option StepDef). IsPrepared scope d made) (sym (alike.steps step)) p

  pub step_made : (step : Step) (made : Option Prepared) → IsPrepared scope (step_of recipe step) made → IsStepAt origin (map item_view items) at step made
  step_made step made p = record { scope = scope; is_scope = s; prepared = of_scope step made p }

  each_step : (f : Fitted) → IsFittedBy scope recipe (item_view x) f → (step : Step) → step ≢ Bootstrap →
      IsPrepared scope (step_of s.recipe step) (prepared_of f step)
  each_step f by Install ne = of_scope Install f.install by.first_are.install_is
  each_step f by Run ne = of_scope Run f.run by.first_are.run_is
  each_step f by Startup ne = of_scope Startup f.startup by.first_are.startup_is
  each_step f by Shutdown ne = of_scope Shutdown f.shutdown by.last_are.shutdown_is
  each_step f by Recover ne = of_scope Recover f.recover by.last_are.recover_is
  each_step f by Bootstrap ne = absurd (ne refl)

  pub fitted_made : (f : Fitted) → IsFittedBy scope recipe (item_view x) f → IsFittedAt origin (map item_view items) at f
  fitted_made f by = record {
    scope = scope;
    is_scope = s;
    item = by.item_is ∙ sym (same_item items at x s.item there s.there);
    hard = by.hard_are ∙ ap (λ (ds : List Dependency). hard_names ds) (sym alike.dependencies);
    soft = by.soft_are ∙ ap (λ (ds : List Dependency). soft_names ds) (sym alike.dependencies);
    steps = each_step f by;
  }
