-- Which items have a bootstrap step that runs again on the way back.
use Rattle.std.proofs.Common.{◌≡◌, ℕ, zero, suc, ◌+◌, ◌<◌, List, [], ◌∷◌, ◌++◌, append-nil, cond, get_or, length, map, take, Option, Some, None, Bool, true}
use Rattle.std.proofs.Common.{false, refl, sym, ap, subst, ◌∙◌, arith}
use Rattle.std.specs.Prelude.{filter, option_map, slice_get, IsSome, if◌then◌else◌}
use Rattle.std.specs.List.{AllByRecursion, AllZip, Contains}
use Rattle.std.specs.Option.{option_map_or}
use Rattle.std.specs.Str.{bytes_eq}
use Rattle.std.proofs.lemmas.Bool.{false≢true}
use Rattle.std.proofs.lemmas.List.{length-map}
use Rattle.std.proofs.lemmas.List.Elements.{All-contains, All-from_recursion, filter_more}
use Rattle.std.proofs.lemmas.Option.{slice_get-map, slice_get_read}
use Rattle.std.proofs.lemmas.Slice.Eq.{bytes_eq-Decides}
use Rattle.serde_json.specs.Data.{Data}
use Rattle.nuc_base.specs.declared.kinds.Step.TheVariants.{Bootstrap}
use Rattle.nuc_base.specs.declared.platform.Platform.{Platform}
use Rattle.nuc_base.proofs.Lists.{in_here, in_there}
use Rattle.recipe_reader.specs.Backs.{IsBack, is_back}
use Rattle.recipe_reader.specs.Environment.{Variable}
use Rattle.recipe_reader.specs.Lifecycles.{back_of_step, key_value}
use Rattle.recipe_reader.specs.OneRecipe.{IsRecipeFor}
use Rattle.recipe_reader.specs.Recipes.{inner, manifest_of}
use Rattle.recipe_reader.specs.Steps.{IsStep}
use Rattle.recipe_reader.specs.declared.fault.Key.TheVariants as key
use Rattle.recipe_reader.specs.declared.recipe.Recipe.{Recipe}
use Rattle.recipe_reader.specs.declared.recipe.StepDef.{StepDef}
use Rattle.records.specs.Stored.{Item, item_view}
use Rattle.records.specs.declared.record.Item as code
use Rattle.device.specs.Lawful.{goes_back, item_named, place, place_from}
use Rattle.device.specs.Plans.{HasRecipe, IsBoot, item_name}
use Rattle.device.proofs.SoundStages.{placed}
use Rattle.session_admission.proofs.Listed.{zip_push}
use Rattle.session_admission.proofs.Placed.{some_item}

-- ---- a recipe that says so has the step

has_step : (outer : List Variable) (v : Option Data) (def : Option StepDef) → IsStep Bootstrap outer v def → back_of_step v ≡ true → IsSome def
has_step outer None def is back = absurd (false≢true back)
has_step outer (Some v) None is back = absurd is
has_step outer (Some v) (Some def) is back = refl

has_bootstrap : (platform : Platform) (bytes : List ℕ) (r : Recipe) → IsRecipeFor bytes platform r → r.boot_back ≡ true → IsSome r.bootstrap
has_bootstrap platform bytes r reads back =
    let is = reads.3 in
    has_step is.steps.outer (key_value key.Bootstrap (inner key.Lifecycle (manifest_of platform reads.0))) r.bootstrap (is.steps.steps Bootstrap)
    (sym is.boot_back ∙ back)

-- ---- the item of a name

-- it stands at the place of the name
item_from : (k : ℕ) (n : List ℕ) (items : List Item) (at : ℕ) → place_from k n items ≡ Some at → (m : ℕ) × (at ≡ k + m) ×
    (item_named n items ≡ slice_get items m)
item_from k n [] at is = absurd (cc)
item_from k n (i ∷ items) at is = by (bytes_eq n i.name) (λ more. item_from (k + 1) n items at more) is
  where
    by : (b : Bool) → (place_from (k + 1) n items ≡ Some at → (m : ℕ) × (at ≡ (k + 1) + m) × (item_named n items ≡ slice_get items m)) →
        (if b then Some k else place_from (k + 1) n items) ≡ Some at
        → (m : ℕ) × (at ≡ k + m) × ((if b then Some i else item_named n items) ≡ slice_get (i ∷ items) m)
    by true more h = let same : k ≡ at = cc in (zero, omega (arith, same), refl)
    by false more h =
        let m = more h in
        let far = m.1 in
        (suc m.0, omega (arith, far), m.2)

item_at : (n : List ℕ) (items : List Item) (at : ℕ) → place n items ≡ Some at → item_named n items ≡ slice_get items at
item_at n items at is =
    let m = item_from 0 n items at is in
    let far = m.1 in
    let same : m.0 ≡ at = omega (arith, far) in
    subst (λ (k : ℕ). item_named n items ≡ slice_get items k) same m.2

pub place_below : (n : List ℕ) (items : List code.Item) (at : ℕ) → place n (map item_view items) ≡ Some at → at < length items
place_below n items at is = subst (λ (k : ℕ). at < k) (length-map items item_view) (placed n (map item_view items) at is)

-- what is read at that place
pub item_read : (n : List ℕ) (items : List code.Item) (at : ℕ) (x : code.Item) → place n (map item_view items) ≡ Some at → at < length items →
    x ≡ get_or items at x → item_named n (map item_view items) ≡ Some (item_view x)
item_read n items at x is below read =
    item_at n (map item_view items) at is ∙ slice_get-map item_view items at ∙ ap (λ (o : Option code.Item). option_map item_view o)
    (slice_get_read items (length items) at x refl below read)

none_from : (k : ℕ) (n : List ℕ) (items : List Item) → place_from k n items ≡ None → item_named n items ≡ None
none_from k n [] is = refl
none_from k n (i ∷ items) is = by (bytes_eq n i.name) (λ more. none_from (k + 1) n items more) is
  where
    by : (b : Bool) → (place_from (k + 1) n items ≡ None → item_named n items ≡ None) → (if b then Some k else place_from (k + 1) n items) ≡ None →
        (if b then Some i else item_named n items) ≡ None
    by true more h = absurd (cc)
    by false more h = more h

-- it is one of the items
named : (n : List ℕ) (items : List Item) (i : Item) → item_named n items ≡ Some i → Contains items i × (i.name ≡ n)
named n [] i is = absurd (cc)
named n (x ∷ items) i is = by (bytes_eq n x.name) refl (λ more. named n items i more) is
  where
    by : (b : Bool) → bytes_eq n x.name ≡ b → (item_named n items ≡ Some i → Contains items i × (i.name ≡ n)) → (if b then Some x else item_named n items)
        ≡ Some i → Contains (x ∷ items) i × (i.name ≡ n)
    by true e more h =
        let same = some_item x i h in
        (subst (Contains (x ∷ items)) same (in_here x items), ap item_name (sym same) ∙ sym ((bytes_eq-Decides n x.name).0 e))
    by false e more h =
        let m = more h in
        (in_there x items i m.0, m.1)

-- ---- whether its bootstrap runs again

told : Platform → Option Item → Bool
told p o = option_map_or (λ i. is_back p i.recipe) o false

pub back_none : (p : Platform) (n : List ℕ) (items : List Item) → place n items ≡ None → false ≡ goes_back p items n
unfolding told
back_none p n items is = sym (ap (told p) (none_from 0 n items is))

pub back_some : (p : Platform) (n : List ℕ) (items : List Item) (i : Item) → item_named n items ≡ Some i → is_back p i.recipe ≡ goes_back p items n
unfolding told
back_some p n items i is = sym (ap (told p) is)

pub is_boot : IsBack → (p : Platform) (items : List Item) (n : List ℕ) → AllByRecursion (HasRecipe p) items → goes_back p items n ≡ true → IsBoot p items n
is_boot law p items n recipes back = by (item_named n items) refl back
  where
    by : (o : Option Item) → item_named n items ≡ o → option_map_or (λ i. is_back p i.recipe) o false ≡ true → IsBoot p items n
    by None is h = absurd (false≢true h)
    by (Some i) is h =
        let one = named n items i is in
        let r = All-contains (HasRecipe p) items i (All-from_recursion (HasRecipe p) items recipes) one.0 in
        record {
          item = i;
          is_one = one.0;
          named = one.1;
          recipe = r.0;
          reads = r.1.reads;
          step =
              has_bootstrap p i.recipe r.0 r.1.reads (law i.recipe p r.0 r.1.reads ∙ h);
        }

-- ---- those of a list that do, one after another

module _ {A B : Type 0} (R : A → B → Type 0) (p : A → Bool) (xs : List A) (ys : List B) (i : ℕ) (x : A) (below : i < length xs) (is : x ≡ get_or xs i x)
    (zip : AllZip R (filter p (take i xs)) ys) where
  next : filter p (take (i + 1) xs) ≡ filter p (take i xs) ++ cond (p x) (x ∷ []) []
  next = filter_more p xs i x below ∙ ap (λ (y : A). filter p (take i xs) ++ cond (p y) (y ∷ []) []) (sym is)

  pub zip_one : p x ≡ true → (y : B) → R x y → AllZip R (filter p (take (i + 1) xs)) (ys ++ y ∷ [])
  zip_one has y r =
      let more : filter p (take (i + 1) xs) ≡ filter p (take i xs) ++ x ∷ [] = next ∙ ap (λ (b : Bool). filter p (take i xs) ++ cond b (x ∷ []) []) has in
      subst (λ (l : List A). AllZip R l (ys ++ y ∷ [])) (sym more) (zip_push R (filter p (take i xs)) ys x y zip r)

  pub zip_none : p x ≡ false → AllZip R (filter p (take (i + 1) xs)) ys
  zip_none none =
      let same : filter p (take (i + 1) xs) ≡ filter p (take i xs) = next ∙ ap (λ (b : Bool). filter p (take i xs) ++ cond b (x ∷ []) []) none ∙ append-nil
      (filter p (take i xs)) in
      subst (λ (l : List A). AllZip R l ys) (sym same) zip
