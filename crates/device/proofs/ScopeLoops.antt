-- What the loop over the items of a scope keeps.
use Rattle.std.proofs.Common.{◌≡◌, ℕ, ◌<◌, ◌≤◌, ◌+◌, Bool, true, false, cond, List, [], ◌∷◌, ◌++◌, length, map, drop, get_or, filter, Some, slice_get}
use Rattle.std.proofs.Common.{option_map, MatchBool, sym, ap, subst, ◌∙◌, append_assoc}
use Rattle.std.specs.List.{AllZip, All}
use Rattle.std.proofs.lemmas.List.{drop_all, append-nil, length-map}
use Rattle.std.proofs.lemmas.List.Elements.{All-nil, All-cons, All-head, All-tail, All-get_or}
use Rattle.std.proofs.lemmas.Option.{slice_get-map, slice_get_within, slice_get-get_or, get_or_from_slice_get}
use Rattle.tree_core.specs.Regular.{IsRegular}
use Rattle.tree_core.specs.View.{view}
use Rattle.recipe_reader.specs.OneRecipe.{IsRecipeFor}
use Rattle.recipe_reader.specs.declared.recipe.Recipe.{Recipe}
use Rattle.interpolation.specs.declared.scope.Place.{Place}
use Rattle.interpolation.specs.declared.scope.Scope.{Scope}
use Rattle.records.specs.Stored.{Item, item_view}
use Rattle.records.specs.declared.record.Item as code
use Rattle.records.specs.declared.record.Origin.{Origin}
use Rattle.device.specs.Plans.{AreRegularItems, HasSomeRecipe}
use Rattle.device.specs.Scopes.{IsPlaceOf, IsScopeOf, HasScope, is_needed, is_needed_at, ArePlacesAt, AddsPlace, AddsNeeded, IsScopeBy}
use Rattle.device.proofs.PlanLoops.{next}

-- the places so far are those of the items before that the recipe names
pub record Keeps (p : code.Item → Bool) (all rest : List code.Item) (done : List Place) : Type 0 where
  pub values : (more : List Place) → ArePlacesAt (filter p rest) more → ArePlacesAt (filter p all) (done ++ more)

pub adds_place : (recipe : Recipe) (item : code.Item) (place : Place) (old new : List Place) → is_needed_at recipe item ≡ true →
    IsPlaceOf (item_view item) place → new ≡ old ++ place ∷ [] → AddsNeeded recipe item old new
adds_place recipe item place old new named is grows =
    let added : AddsPlace item old new = record { place = place; is = is; grows = grows } in
    subst (λ b. MatchBool b (AddsPlace item old new) (new ≡ old)) (sym named) added

-- the places of an item and those after it
kept : (b : Bool) (p : code.Item → Bool) (x : code.Item) (rest : List code.Item) (old new more : List Place) → MatchBool b (AddsPlace x old new) (new ≡ old) →
    ArePlacesAt (filter p rest) more
    → (left : List Place) × (new ++ more ≡ old ++ left) × ArePlacesAt (cond b (x ∷ filter p rest) (filter p rest)) left
kept true p x rest old new more a r = (a.place ∷ more, ap (λ l. l ++ more) a.grows ∙ append_assoc old (a.place ∷ []) more, (a.is, r))
kept false p x rest old new more e r = (more, ap (λ l. l ++ more) e, r)

pub keeps_more : (recipe : Recipe) (all xs : List code.Item) (i : ℕ) (x : code.Item) (old new : List Place) → i < length xs → x ≡ get_or xs i x
    → Keeps (is_needed_at recipe) all (drop i xs) old → AddsNeeded recipe x old new → Keeps (is_needed_at recipe) all (drop (i + 1) xs) new
keeps_more recipe all xs i x old new below is k a =
    let p = is_needed_at recipe in
    let rest = drop (i + 1) xs in
    let opened : Keeps p all (x ∷ rest) old = subst (λ r. Keeps p all r old) (next xs i x below is) k in
    record {
      values = λ more r.
          let w = kept (p x) p x rest old new more a r in
          subst (ArePlacesAt (filter p all)) (sym w.1) (opened.values w.0 w.2);
    }

pub keeps_end : (p : code.Item → Bool) (all xs : List code.Item) (i : ℕ) (done : List Place) → length xs ≤ i → Keeps p all (drop i xs) done →
    ArePlacesAt (filter p all) done
keeps_end p all xs i done past k =
    let m : Keeps p all [] done = subst (λ r. Keeps p all r done) (drop_all i xs past) k in
    subst (ArePlacesAt (filter p all)) (append-nil done) (m.values [] tt)

-- ---- the items as they are seen

passing_at : (b : Bool) (p : Item → Bool) (i : code.Item) (items : List code.Item) (places : List Place) →
    ((ps : List Place) → ArePlacesAt (filter (λ j. p (item_view j)) items) ps → AllZip IsPlaceOf (filter p (map item_view items)) ps)
    → ArePlacesAt (cond b (i ∷ filter (λ j. p (item_view j)) items) (filter (λ j. p (item_view j)) items)) places
    → AllZip IsPlaceOf (cond b (item_view i ∷ filter p (map item_view items)) (filter p (map item_view items))) places
passing_at true p i items [] more z = absurd z
passing_at true p i items (place ∷ places) more z = (z.0, more places z.1)
passing_at false p i items places more z = more places z

passing : (p : Item → Bool) (items : List code.Item) (places : List Place) → ArePlacesAt (filter (λ i. p (item_view i)) items) places →
    AllZip IsPlaceOf (filter p (map item_view items)) places
passing p [] [] z = tt
passing p [] (place ∷ places) z = absurd z
passing p (i ∷ items) places z = passing_at (p (item_view i)) p i items places (passing p items) z

-- ---- regular configurations

abbrev HasRegular : Place → Type 0
HasRegular place = IsRegular (view place.config)

abbrev HasRegularItem : Item → Type 0
HasRegularItem item = IsRegular item.config

regular_at : (b : Bool) (p : Item → Bool) (i : Item) (items : List Item) (places : List Place) →
    ((ps : List Place) → AllZip IsPlaceOf (filter p items) ps → All HasRegular ps)
    → IsRegular i.config → AllZip IsPlaceOf (cond b (i ∷ filter p items) (filter p items)) places → All HasRegular places
regular_at true p i items [] more r z = absurd z
regular_at true p i items (place ∷ places) more r z = All-cons HasRegular place places (subst IsRegular (sym z.0.config) r) (more places z.1)
regular_at false p i items places more r z = more places z

regular : (p : Item → Bool) (items : List Item) (places : List Place) → AreRegularItems items → AllZip IsPlaceOf (filter p items) places → All HasRegular places
regular p [] [] r z = All-nil HasRegular
regular p [] (place ∷ places) r z = absurd z
regular p (i ∷ items) places r z = regular_at (p i) p i items places (λ ps. regular p items ps (All-tail HasRegularItem i items r))
    (All-head HasRegularItem i items r) z

-- ---- the item at the place

pub there_below : (origin : Origin) (items : List code.Item) (at : ℕ) → HasScope origin (map item_view items) at → at < length items
there_below origin items at h = subst (λ n. at < n) (length-map items item_view) (slice_get_within (map item_view items) at h.item h.there)

pub there_is : (origin : Origin) (items : List code.Item) (at : ℕ) (x : code.Item) → HasScope origin (map item_view items) at → x ≡ get_or items at x →
    slice_get items at ≡ Some x
there_is origin items at x h is = slice_get-get_or items at x (there_below origin items at h) ∙ ap Some (sym is)

pub there_has_recipe : (origin : Origin) (items : List code.Item) (at : ℕ) (x : code.Item) → HasScope origin (map item_view items) at →
    x ≡ get_or items at x → HasSomeRecipe origin.platform x.recipe
there_has_recipe origin items at x h is =
    let seen : slice_get (map item_view items) at ≡ Some (item_view x) = slice_get-map item_view items at ∙ ap (option_map item_view)
    (there_is origin items at x h is) in
    let same : h.item ≡ item_view x = sym (get_or_from_slice_get (map item_view items) at h.item h.item h.there) ∙ get_or_from_slice_get (map item_view items)
    at (item_view x) h.item seen in
    (h.recipe, subst (λ (i : Item). IsRecipeFor i.recipe origin.platform h.recipe) same h.reads)

-- ---- the whole scope

regular_there : (items : List Item) (at : ℕ) (item : Item) → slice_get items at ≡ Some item → AreRegularItems items → IsRegular item.config
regular_there items at item there r =
    let below = slice_get_within items at item there in
    subst HasRegularItem (get_or_from_slice_get items at item item there) (All-get_or HasRegularItem items at item below r)

pub scope_whole : (origin : Origin) (items : List code.Item) (at : ℕ) (item : code.Item) (recipe : Recipe) (scope : Scope) → slice_get items at ≡ Some item
    → AreRegularItems (map item_view items) → IsRecipeFor item.recipe origin.platform recipe → IsScopeBy origin recipe item items scope → IsScopeOf origin
    (map item_view items) at scope
scope_whole origin items at item recipe scope there r reads s =
    let seen : slice_get (map item_view items) at ≡ Some (item_view item) = slice_get-map item_view items at ∙ ap (option_map item_view) there in
    let places = passing (is_needed recipe) items scope.needed s.needed in
    record {
      root = s.root;
      thing = s.thing;
      item = item_view item;
      there = seen;
      own = s.own;
      recipe = recipe;
      reads = reads;
      needed = places;
      regular = record {
        own = subst IsRegular (sym s.own.config) (regular_there (map item_view items) at (item_view item) seen r);
        needed = regular (is_needed recipe) (map item_view items) scope.needed r places;
      };
    }
