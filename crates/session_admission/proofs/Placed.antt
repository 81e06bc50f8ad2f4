-- The item of a name, and its bootstrap step.
use Rattle.std.proofs.Common.{◌≡◌, ℕ, zero, suc, ◌+◌, ◌≤◌, List, [], ◌∷◌, length, Option, Some, None, Bool, true, false, refl, sym, ap, subst, ◌∙◌, inl}
use Rattle.std.proofs.Common.{inr, arith}
use Rattle.std.specs.Prelude.{slice_get, is_some, IsSome, if◌then◌else◌}
use Rattle.std.specs.List.{Contains}
use Rattle.std.specs.Str.{bytes_eq}
use Rattle.std.proofs.lemmas.Bool.{false≢true}
use Rattle.std.proofs.lemmas.List.Elements.{All-contains, All-from_recursion}
use Rattle.std.proofs.lemmas.Slice.Eq.{bytes_eq-Decides}
use Rattle.nuc_base.specs.declared.kinds.Step.TheVariants as step
use Rattle.nuc_base.specs.declared.platform.Platform.{Platform}
use Rattle.nuc_base.proofs.Lists.{in_nil, in_cons, in_here, in_there}
use Rattle.recipe_reader.specs.OneRecipe.{IsOneRecipe, IsRecipeFor}
use Rattle.recipe_reader.specs.Steps.{step_of}
use Rattle.recipe_reader.specs.declared.recipe.StepDef.{StepDef}
use Rattle.interpolation.specs.declared.scope.Scope.{Scope}
use Rattle.records.specs.Stored.{Item}
use Rattle.records.specs.declared.record.Origin.{Origin}
use Rattle.device.specs.Lawful.{place, place_from}
use Rattle.device.specs.Plans.{AreItems, HasRecipe, IsBoot, item_name}
use Rattle.device.specs.Scopes.{HasScope}
use Rattle.deploy_state.proofs.SameItem.{same_item}
use Rattle.components.specs.Made.{IsPrepared, IsPreparedFrom, IsStepAt}
use Rattle.components.specs.declared.kinds.Prepared.{Prepared}
use Rattle.session_boots.specs.Made.{IsBootOf}

-- ---- the place of a name

-- there is an item at the place, and it has the name
pub record IsPlaced (n : List ℕ) (items : List Item) (at : ℕ) : Type 0 where
  pub item : Item
  pub there : slice_get items at ≡ Some item
  pub is_one : Contains items item
  pub named : item.name ≡ n

placed_step : (k : ℕ) (n : List ℕ) (i : Item) (items : List Item) (at : ℕ) (b : Bool) → bytes_eq n i.name ≡ b
    → ((j : ℕ) → place_from (k + 1) n items ≡ Some j → (m : ℕ) × (j ≡ (k + 1) + m) × IsPlaced n items m)
    → (if b then Some k else place_from (k + 1) n items) ≡ Some at → (m : ℕ) × (at ≡ k + m) × IsPlaced n (i ∷ items) m
placed_step k n i items at true e more is =
    let same : k ≡ at = cc in
    (zero, omega (arith, same), record { item = i; there = refl; is_one = in_here i items; named = sym ((bytes_eq-Decides n i.name).0 e) })
placed_step k n i items at false e more is =
    let m = more at is in
    let far = m.1 in
    (suc m.0, omega (arith, far), record { item = m.2.item; there = m.2.there; is_one = in_there i items m.2.item m.2.is_one; named = m.2.named })

placed_from : (k : ℕ) (n : List ℕ) (items : List Item) (at : ℕ) → place_from k n items ≡ Some at → (m : ℕ) × (at ≡ k + m) × IsPlaced n items m
placed_from k n [] at is = absurd (cc)
placed_from k n (i ∷ items) at is = placed_step k n i items at (bytes_eq n i.name) refl (λ j. placed_from (k + 1) n items j) is

pub placed : (n : List ℕ) (items : List Item) (at : ℕ) → place n items ≡ Some at → IsPlaced n items at
placed n items at is =
    let m = placed_from 0 n items at is in
    let far = m.1 in
    let same : m.0 ≡ at = omega (arith, far) in
    subst (λ (k : ℕ). IsPlaced n items k) same m.2

found_step : (k : ℕ) (n : List ℕ) (items : List Item) (b : Bool) → (b ≡ false → IsSome (place_from (k + 1) n items)) →
    IsSome (if b then Some k else place_from (k + 1) n items)
found_step k n items true more = refl
found_step k n items false more = more refl

found_from : (k : ℕ) (n : List ℕ) (items : List Item) (i : Item) → Contains items i → i.name ≡ n → IsSome (place_from k n items)
found_from k n [] i has named = absurd (in_nil i has)
found_from k n (x ∷ items) i has named = found_step k n items (bytes_eq n x.name) (λ differs. elim (in_cons x items i has) [
  | inl here ↦ absurd (false≢true (sym differs ∙ (bytes_eq-Decides n x.name).1 (sym named ∙ ap item_name (sym here))))
  | inr there ↦ found_from (k + 1) n items i there named
])

none_is : {A : Type 0} (o : Option A) → o ≡ None → IsSome o → ⊥
none_is o is some = false≢true (sym (ap is_some is) ∙ some)

pub is_there : (p : Platform) (items : List Item) (n : List ℕ) → IsBoot p items n → place n items ≡ None → ⊥
is_there p items n boot none = none_is (place n items) none (found_from 0 n items boot.item boot.is_one boot.named)

-- ---- its step

pub has_scope : (o : Origin) (items : List Item) (n : List ℕ) (at : ℕ) → AreItems o.platform items → place n items ≡ Some at → HasScope o items at
has_scope o items n at are is =
    let p = placed n items at is in
    let r = All-contains (HasRecipe o.platform) items p.item (All-from_recursion (HasRecipe o.platform) items are.recipes) p.is_one in
    record { item = p.item; there = p.there; recipe = r.0; reads = r.1.reads }

pub some_item : (a b : Item) → ◌≡◌ {A = Option Item} (Some a) (Some b) → a ≡ b
some_item a b e = cc e

none_made : (scope : Scope) (def : Option StepDef) → IsPrepared scope def None → def ≡ None
none_made scope None made = refl
none_made scope (Some def) made = let is = made.1 in absurd (cc)

-- an item with a bootstrap step has it made ready
pub is_made : IsOneRecipe → (o : Origin) (items : List Item) (n : List ℕ) (at : ℕ) → AreItems o.platform items → IsBoot o.platform items n →
    place n items ≡ Some at
    → IsStepAt o items at step.Bootstrap None → ⊥
is_made one o items n at are boot is made =
    let p = placed n items at is in
    let scope = made.is_scope in
    let same : p.item ≡ boot.item = same_item items are.rise p.item boot.item p.is_one boot.is_one (p.named ∙ sym boot.named) in
    let here : scope.item ≡ boot.item = some_item scope.item p.item (sym scope.there ∙ p.there) ∙ same in
    let alike = one boot.item.recipe o.platform scope.recipe boot.recipe (subst (λ (i : Item). IsRecipeFor i.recipe o.platform scope.recipe) here scope.reads)
    boot.reads in
    none_is boot.recipe.bootstrap (sym (alike.steps step.Bootstrap) ∙ none_made made.scope (step_of scope.recipe step.Bootstrap) made.prepared) boot.step

pub boot_of : (o : Origin) (items : List Item) (n : List ℕ) (at : ℕ) (m : Prepared) → place n items ≡ Some at → IsStepAt o items at step.Bootstrap (Some m) →
    IsBootOf o items n m
boot_of o items n at m is made =
    let p = placed n items at is in
    record { at = at; item = p.item; there = p.there; named = p.named; prepared = made }
