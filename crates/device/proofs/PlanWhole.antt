-- A plan by its parts in memory.
use Rattle.std.proofs.Common.{◌≡◌, ℕ, ◌<◌, Bool, IsTrue, ◌↔◌, List, [], ◌∷◌, length, map, get_or, IsSome, Result, Ok, Err, IfOk, refl, sym, ap, subst, ◌∙◌}
use Rattle.std.proofs.Common.{arith, inl, inr}
use Rattle.std.specs.List.{All, AllByRecursion, AllZip, Contains}
use Rattle.std.specs.Prelude.{Option, is_some}
use Rattle.std.proofs.lemmas.List.{length-map}
use Rattle.std.proofs.lemmas.List.Elements.{Contains-get_or, All-map, All-from_recursion, recursion_from_All}
use Rattle.nuc_base.specs.declared.platform.Platform.{Platform}
use Rattle.nuc_base.specs.declared.kinds.Step.TheVariants.{Bootstrap}
use Rattle.nuc_base.proofs.Leading.{leads_more}
use Rattle.nuc_base.proofs.Lists.{in_here, in_there, in_nil, in_cons}
use Rattle.tree_core.specs.Regular.{IsRegular}
use Rattle.recipe_reader.specs.OneRecipe.{IsRecipeFor, AreAlike, IsOneRecipe}
use Rattle.recipe_reader.specs.declared.recipe.Recipe.{Recipe}
use Rattle.records.specs.Stored.{Item, item_view, plan_view}
use Rattle.records.specs.declared.record.Item as code
use Rattle.records.specs.declared.record.Plan as code_plan
use Rattle.device.specs.Plans.{AreRegularItems, AreRising, item_name, HasRecipe, HasConfig, IsHeldFor, IsRecipeOf, IsSupplied, NeedsByName, IsBoot}
use Rattle.device.specs.Plans.{AreRequirements, AreItems, AreBoots, IsPlan}
use Rattle.device.specs.PlanNeeds.{names_of, IsRegularAt, HasConfigAt, HasRecipeAt, IsRecipeAt, AreListed, AreBootsIn, AreItemsWith, StandsAt, IsMetIn}
use Rattle.device.specs.PlanNeeds.{AreMet, NeedsIn, FitsTogether, IsBootIn}
use Rattle.device.proofs.PlanPlaces.{one_place, element, Pair, pair_at, Seen, seen, shown, stands, long}

-- ---- all of a list

pub all_contained : {A : Type 0} (P : A → Type 0) (xs : List A) → ((x : A) → Contains xs x → P x) → AllByRecursion P xs
all_contained P [] f = tt
all_contained P (x ∷ xs) f = (f x (in_here x xs), all_contained P xs (λ y h. f y (in_there x xs y h)))

pub each_of : {A : Type 0} (P : A → Type 0) (xs : List A) (x : A) → AllByRecursion P xs → Contains xs x → P x
each_of P [] x a h = absurd (in_nil x h)
each_of P (y ∷ xs) x a h = elim (in_cons y xs x h) [ inl e ↦ subst P e a.0 | inr more ↦ each_of P xs x a.1 more ]

pub each_along : {A : Type 0} (P Q : A → Type 0) (xs : List A) → ((x : A) → P x → Q x) → AllByRecursion P xs → AllByRecursion Q xs
each_along P Q [] f a = tt
each_along P Q (x ∷ xs) f a = (f x a.0, each_along P Q xs f a.1)

-- what holds of the items as they are seen, and back
pub all_seen : {A B : Type 0} (f : A → B) (P : B → Type 0) (xs : List A) → AllByRecursion (λ x. P (f x)) xs → AllByRecursion P (map f xs)
all_seen f P [] a = tt
all_seen f P (x ∷ xs) a = (a.0, all_seen f P xs a.1)

pub all_back : {A B : Type 0} (f : A → B) (P : B → Type 0) (xs : List A) → AllByRecursion P (map f xs) → AllByRecursion (λ x. P (f x)) xs
all_back f P [] a = tt
all_back f P (x ∷ xs) a = (a.0, all_back f P xs a.1)

pub names_seen : (items : List code.Item) → map item_name (map item_view items) ≡ names_of items
names_seen [] = refl
names_seen (i ∷ items) = ap (λ ns. i.name ∷ ns) (names_seen items)

has_recipes : (platform : Platform) (items : List code.Item) (recipes : List Recipe) → AllZip (IsRecipeAt platform) items recipes →
    AllByRecursion (HasRecipeAt platform) items
has_recipes platform [] recipes z = tt
has_recipes platform (i ∷ items) [] z = absurd z
has_recipes platform (i ∷ items) (r ∷ recipes) z = ((r, z.0), has_recipes platform items recipes z.1)

some_too : {A B : Type 0} (x : Option A) (y : Option B) → is_some x ≡ is_some y → IsSome x → IsSome y
some_too x y e h = sym e ∙ h

module _ (one : IsOneRecipe) (platform : Platform) (items : List code.Item) (recipes : List Recipe) (z : AllZip (IsRecipeAt platform) items recipes) where
  abbrev pub vs : List Item
  vs = map item_view items

  -- the recipe beside an item that is seen is like any that its bytes are
  pair : (item : Item) (s : Seen items item) → Pair (IsRecipeAt platform) items recipes s.at
  pair item s = pair_at (IsRecipeAt platform) items recipes s.at z s.below

  alike : (item : Item) (s : Seen items item) (recipe : Recipe) → IsRecipeFor item.recipe platform recipe → AreAlike recipe (pair item s).other
  alike item s recipe reads =
      let p = pair item s in
      let is : item_view p.one ≡ item = ap item_view (sym (p.one_is p.one)) ∙ s.is p.one in
      one item.recipe platform recipe p.other reads (subst (λ (i : Item). IsRecipeFor i.recipe platform p.other) is p.both.reads)

  -- an item and its recipe, by the place
  pub record Placed (at : ℕ) : Type 0 where
    pub item : Item
    pub is_one : Contains vs item
    pub recipe : Recipe
    pub reads : IsRecipeFor item.recipe platform recipe
    pub is : (d : Recipe) → get_or recipes at d ≡ recipe
    pub name : (n : List ℕ) → StandsAt items n at → item.name ≡ n

  placed : (at : ℕ) → at < length items → Placed at
  placed at below =
      let p = pair_at (IsRecipeAt platform) items recipes at z below in
      record {
        item = item_view p.one;
        is_one = subst (λ (i : code.Item). Contains vs (item_view i)) (p.one_is p.one) (shown items at p.one below);
        recipe = p.other;
        reads = p.both.reads;
        is = p.other_is;
        name = λ n s. ap (λ (i : code.Item). i.name) (sym (p.one_is p.one)) ∙ s.named p.one;
      }

  -- ---- needs

  by_place : (a b : List ℕ) → NeedsByName platform vs a b → NeedsIn items recipes a b
  by_place a b n =
      let s = seen items n.item n.is_one in
      let like = alike n.item s n.names.recipe n.names.reads in
      record {
        at = s.at;
        stands = stands items n.item a s n.from;
        dependency = n.dependency;
        named = λ d. subst (λ (r : Recipe). Contains r.dependencies n.dependency) (sym ((pair n.item s).other_is d))
            (subst (λ ds. Contains ds n.dependency) like.dependencies n.names.named);
        to = n.to;
      }

  by_name : (a b : List ℕ) → NeedsIn items recipes a b → NeedsByName platform vs a b
  by_name a b n =
      let p = placed n.at n.stands.below in
      record {
        item = p.item;
        is_one = p.is_one;
        from = p.name a n.stands;
        dependency = n.dependency;
        names = record {
          recipe = p.recipe;
          reads = p.reads;
          named = subst (λ (r : Recipe). Contains r.dependencies n.dependency) (p.is p.recipe)
              (n.named p.recipe);
        };
        to = n.to;
      }

  -- ---- dependencies that are met

  recipe_met : AllByRecursion (AreMet items) recipes → (at : ℕ) (d : Recipe) → at < length recipes → AreMet items (get_or recipes at d)
  recipe_met met at d below = each_of (AreMet items) recipes (get_or recipes at d) met (Contains-get_or recipes at d below)

  supplied_each : AllByRecursion (AreMet items) recipes → (item : Item) → Contains vs item → IsSupplied platform vs item
  supplied_each met item h = λ d n.
      let s = seen items item h in
      let like = alike item s n.recipe n.reads in
      let p = pair item s in
      let same = long (IsRecipeAt platform) items recipes z in
      let below = s.below in
      let m = subst (λ (r : Recipe). AreMet items r) (p.other_is p.other) (recipe_met met s.at p.other (omega (arith, same, below))) in
      each_of (IsMetIn items) p.other.dependencies d m (subst (λ ds. Contains ds d) like.dependencies n.named)

  supplied : AllByRecursion (AreMet items) recipes → AllByRecursion (IsSupplied platform vs) vs
  supplied met = all_contained (IsSupplied platform vs) vs (supplied_each met)

  met_each : AllByRecursion (IsSupplied platform vs) vs → (recipe : Recipe) → Contains recipes recipe → AreMet items recipe
  met_each given recipe h =
      let same = long (IsRecipeAt platform) items recipes z in
      let under = h.1 in
      let p = placed h.0 (omega (arith, same, under)) in
      let is : recipe ≡ p.recipe = sym h.2 ∙ p.is recipe in
      let supply : IsSupplied platform vs p.item = each_of (IsSupplied platform vs) vs p.item given p.is_one in
      subst (λ (r : Recipe). AreMet items r) (sym is)
      (all_contained (IsMetIn items) p.recipe.dependencies (λ d c. supply d (record { recipe = p.recipe; reads = p.reads; named = c })))

  met : AllByRecursion (IsSupplied platform vs) vs → AllByRecursion (AreMet items) recipes
  met given = all_contained (AreMet items) recipes (met_each given)

  -- ---- boots

  boot : (n : List ℕ) → IsBootIn items recipes n → IsBoot platform vs n
  boot n b =
      let p = placed b.at b.stands.below in
      record {
        item = p.item;
        is_one = p.is_one;
        named = p.name n b.stands;
        recipe = p.recipe;
        reads = p.reads;
        step = subst (λ (r : Recipe). IsSome r.bootstrap) (p.is p.recipe) (b.step p.recipe);
      }

  boot_in : (n : List ℕ) → IsBoot platform vs n → IsBootIn items recipes n
  boot_in n b =
      let s = seen items b.item b.is_one in
      let like = alike b.item s b.recipe b.reads in
      record {
        at = s.at;
        stands = stands items b.item n s b.named;
        step = λ d. subst (λ (r : Recipe). IsSome r.bootstrap) (sym ((pair b.item s).other_is d))
            (some_too b.recipe.bootstrap (pair b.item s).other.bootstrap (ap is_some (like.steps Bootstrap)) b.step);
      }

  -- ---- the whole

  pub boots_whole : (boots : List (List ℕ)) → AreBootsIn items recipes boots → AreBoots platform vs boots
  boots_whole boots are = record { few = are.few; differ = are.differ; each = each_along (IsBootIn items recipes) (IsBoot platform vs) boots boot are.each }

  pub boots_in : (boots : List (List ℕ)) → AreBoots platform vs boots → AreBootsIn items recipes boots
  boots_in boots are = record { few = are.few; differ = are.differ; each = each_along (IsBoot platform vs) (IsBootIn items recipes) boots boot_in are.each }

  pub items_whole : AreListed items → AllByRecursion HasConfigAt items → FitsTogether items recipes → AreItems platform vs
  items_whole listed configs fits = record {
    few = let few = listed.few in let n = length-map items item_view in omega (arith, few, n);
    rise = subst AreRising (sym (names_seen items)) listed.rise;
    recipes = all_seen item_view (HasRecipe platform) items (has_recipes platform items recipes z);
    configs = all_seen item_view HasConfig items configs;
    supplied = supplied fits.met;
    acyclic = λ n m. fits.acyclic n (leads_more {R = NeedsByName platform vs} {S = NeedsIn items recipes} by_place m);
  }

  pub items_fit : AreItems platform vs → FitsTogether items recipes
  items_fit are = record {
    met = met are.supplied;
    acyclic = λ n m. are.acyclic n (leads_more {R = NeedsIn items recipes} {S = NeedsByName platform vs} by_name m);
  }

-- a recipe that is like the item's is the item's, and where it is not there is none
alike_is : (platform : Platform) (item : Item) (r s : Recipe) → IsRecipeFor item.recipe platform r → AreAlike s r → IsRecipeOf platform item s →
    IsRecipeOf platform item r
alike_is platform item r s reads like is = record {
  reads = reads;
  name = sym like.name ∙ is.name;
  version = sym like.version ∙ is.version;
  files = subst (λ files. AllZip IsHeldFor files item.artifacts) like.artifacts is.files;
}

pub not_recipe : IsOneRecipe → (platform : Platform) (item : Item) (r : Recipe) → IsRecipeFor item.recipe platform r → (IsRecipeOf platform item r → ⊥) →
    HasRecipe platform item → ⊥
not_recipe one platform item r reads bad h = bad (alike_is platform item r h.0 reads (one item.recipe platform h.0 r h.1.reads reads) h.1)

-- ---- what is asked of items first

pub items_listed : (platform : Platform) (items : List code.Item) → AreItems platform (map item_view items) → AreListed items
items_listed platform items are = record {
  few = let few = are.few in let n = length-map items item_view in omega (arith, few, n);
  rise =
      subst AreRising (names_seen items) are.rise;
}

-- ---- an answer that speaks of another fact

pub answers : {E : Type 0} (r : Result Bool E) (P Q : Type 0) → (P → Q) → (Q → P) → IfOk r (λ b. IsTrue b ↔ P) → IfOk r (λ b. IsTrue b ↔ Q)
answers (Ok b) P Q f g h = (λ e. f (h.0 e), λ q. h.1 (g q))
answers (Err e) P Q f g h = tt

-- ---- the boot of a name

pub boot_answer : (items : List code.Item) (recipes : List Recipe) (n : List ℕ) (at : ℕ) (r : Recipe) (b : Bool) → AreRising (names_of items) →
    length recipes ≡ length items → StandsAt items n at
    → b ≡ is_some (get_or recipes at r).bootstrap → IsTrue b ↔ IsBootIn items recipes n
boot_answer items recipes n at r b rise same s e =
    let below = s.below in
    let el = element recipes at (omega (arith, same, below)) in (
      λ yes. record { at = at; stands = s; step = λ d. subst (λ (q : Recipe). IsSome q.bootstrap) (el.1 r ∙ sym (el.1 d)) (sym e ∙ yes) },
      λ h.
          let one = one_place items n h.at at rise h.stands s in
          e ∙ subst (λ k. IsSome (get_or recipes k r).bootstrap) one (h.step r),
    )

-- ---- a plan

boots_along : (items : List code.Item) (rs recipes : List Recipe) (bs boots : List (List ℕ)) → rs ≡ recipes → bs ≡ boots → AreBootsIn items rs bs →
    AreBootsIn items recipes boots
boots_along items rs recipes bs boots r b are = subst (λ (x : List Recipe). AreBootsIn items x boots) r (subst (AreBootsIn items rs) b are)

pub plan_answer : IsOneRecipe → (platform : Platform) (plan : code_plan.Plan) (items : List code.Item) (recipes rs : List Recipe) (bs : List (List ℕ))
    (b : Bool) → plan.items ≡ items → rs ≡ recipes → bs ≡ plan.boots
    → AreRequirements plan.requirements → AreItemsWith platform items recipes → IsTrue b ↔ AreBootsIn items rs bs → IsTrue b ↔ IsPlan platform (plan_view plan)
plan_answer one platform plan items recipes rs bs b same r boots requirements w told = (
  λ yes. record {
    requirements = requirements;
    items = subst (λ (is : List code.Item). AreItems platform (map item_view is)) (sym same) w.are_items;
    boots = subst (λ (is : List code.Item). AreBoots platform (map item_view is) plan.boots) (sym same)
        (boots_whole one platform items recipes w.each plan.boots (boots_along items rs recipes bs plan.boots r boots (told.0 yes)));
  },
  λ is. told.1
      (boots_along items recipes rs plan.boots bs (sym r) (sym boots)
      (boots_in one platform items recipes w.each plan.boots (subst (λ (is : List code.Item). AreBoots platform (map item_view is) plan.boots) same is.boots))),
)

-- regular items are regular as they are seen, and back
pub regular_seen : (items : List code.Item) → All IsRegularAt items → AreRegularItems (map item_view items)
regular_seen items h = All-map (λ (i : Item). IsRegular i.config) item_view items h

regular_by : (items : List code.Item) → AllByRecursion (λ (i : Item). IsRegular i.config) (map item_view items) → AllByRecursion IsRegularAt items
regular_by [] h = tt
regular_by (i ∷ items) h = (h.0, regular_by items h.1)

pub regular_back : (items : List code.Item) → AreRegularItems (map item_view items) → All IsRegularAt items
regular_back items h = All-from_recursion IsRegularAt items (regular_by items (recursion_from_All (λ (i : Item). IsRegular i.config) (map item_view items) h))
