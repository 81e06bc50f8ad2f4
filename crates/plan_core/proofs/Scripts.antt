-- A bootstrap says one thing among some items.
use Rattle.std.proofs.Common.{◌≡◌, ℕ, List, [], ◌∷◌, sym, ap, subst, ◌∙◌, Bool}
use Rattle.std.specs.Prelude.{◌≢◌, ◌↔◌, IsTrue, Some, slice_get, filter}
use Rattle.std.specs.List.{AllZip, list_any}
use Rattle.std.specs.Str.{bytes_eq}
use Rattle.nuc_base.specs.declared.kinds.Step.TheVariants as steps
use Rattle.recipe_reader.specs.OneRecipe.{IsRecipeFor, IsOneRecipe}
use Rattle.recipe_reader.specs.declared.recipe.Dependency.{Dependency}
use Rattle.recipe_reader.specs.declared.recipe.Recipe.{Recipe}
use Rattle.recipe_reader.specs.declared.recipe.StepDef.{StepDef}
use Rattle.interpolation.specs.Laws.{ExpandAlike}
use Rattle.interpolation.specs.Scopes.{AreAlike, AreAlikePlaces, IsAlikePlace}
use Rattle.interpolation.specs.Variables.{Expanded}
use Rattle.interpolation.specs.declared.scope.Place.{Place}
use Rattle.interpolation.specs.declared.scope.Scope.{Scope}
use Rattle.records.specs.Stored.{Item}
use Rattle.records.specs.declared.record.Origin.{Origin}
use Rattle.device.specs.Scopes.{IsPlaceOf, IsScopeOf, needed_items}
use Rattle.plan_core.specs.Boots.{IsBootScript, ScriptsDiffer}

same_place : (i : Item) (p q : Place) → IsPlaceOf i p → IsPlaceOf i q → IsAlikePlace p q
same_place i p q h k = record { name = h.name ∙ sym k.name; version = h.version ∙ sym k.version; config = h.config ∙ sym k.config }

alike_places : (items : List Item) (ps qs : List Place) → AllZip IsPlaceOf items ps → AllZip IsPlaceOf items qs → AreAlikePlaces ps qs
alike_places [] [] [] h k = tt
alike_places [] [] (q ∷ qs) h k = absurd k
alike_places [] (p ∷ ps) qs h k = absurd h
alike_places (i ∷ items) [] qs h k = absurd h
alike_places (i ∷ items) (p ∷ ps) [] h k = absurd k
alike_places (i ∷ items) (p ∷ ps) (q ∷ qs) h k = (same_place i p q h.0 k.0, alike_places items ps qs h.1 k.1)

same_item : (items : List Item) (at : ℕ) (i j : Item) → slice_get items at ≡ Some i → slice_get items at ≡ Some j → i ≡ j
same_item items at i j a b = let e : Some i ≡ Some j = sym a ∙ b in cc

same_needed : (items : List Item) (r s : Recipe) → r.dependencies ≡ s.dependencies → needed_items r items ≡ needed_items s items
same_needed items r s e = ap (λ (ds : List Dependency). filter (λ (item : Item). list_any (λ d. bytes_eq d.name item.name) ds) items) e

one_scope : IsOneRecipe → (origin : Origin) (items : List Item) (at : ℕ) (s t : Scope) → IsScopeOf origin items at s → IsScopeOf origin items at t →
    AreAlike s t
one_scope one origin items at s t a b =
    let item = same_item items at a.item b.item a.there b.there in
    let reads : IsRecipeFor a.item.recipe origin.platform b.recipe = subst (λ (i : Item). IsRecipeFor i.recipe origin.platform b.recipe) (sym item) b.reads in
    let same = one a.item.recipe origin.platform a.recipe b.recipe a.reads reads in
    record {
      root = a.root ∙ sym b.root;
      thing = a.thing ∙ sym b.thing;
      own = same_place a.item s.own t.own a.own (subst (λ (i : Item). IsPlaceOf i t.own) (sym item) b.own);
      needed = alike_places (needed_items a.recipe items) s.needed t.needed a.needed
          (subst (λ (l : List Item). AllZip IsPlaceOf l t.needed) (sym (same_needed items a.recipe b.recipe same.dependencies)) b.needed);
    }

one_script : IsOneRecipe → ExpandAlike → (origin : Origin) (items : List Item) (at : ℕ) (a b : List ℕ) → IsBootScript origin items at a → IsBootScript origin
    items at b → a ≡ b
one_script one alike origin items at a b first second =
    let item = same_item items at first.item second.item first.there second.there in
    let reads : IsRecipeFor first.item.recipe origin.platform second.recipe = subst (λ (i : Item). IsRecipeFor i.recipe origin.platform second.recipe)
    (sym item) second.reads in
    let same = one first.item.recipe origin.platform first.recipe second.recipe first.reads reads in
    let both : Some first.step ≡ Some second.step = sym first.is_step ∙ same.steps steps.Bootstrap ∙ second.is_step in
    let step : first.step ≡ second.step = cc in
    alike first.scope second.scope first.step.script a b (one_scope one origin items at first.scope second.scope first.is_scope second.is_scope) first.expanded
    (subst (λ (s : StepDef). Expanded second.scope s.script b) (sym step) second.expanded)

-- so two texts of it tell whether it says something else elsewhere
pub scripts_decide : IsOneRecipe → ExpandAlike → (origin : Origin) (set items : List Item) (before at : ℕ) (old new : List ℕ) (b : Bool)
    → IsBootScript origin set before old → IsBootScript origin items at new → IsTrue b ↔ (old ≢ new) → IsTrue b ↔ ScriptsDiffer origin set items before at
scripts_decide one alike origin set items before at old new b was is tells = (
  λ h. record { old = old; new = new; was = was; is = is; differ = tells.0 h },
  λ d. tells.1 (λ e. d.differ (one_script one alike origin set before d.old old d.was was ∙ e ∙ one_script one alike origin items at new d.new is d.is)),
)
