-- The items of a whole device's own plan, one by one.
use Rattle.std.proofs.Common.{◌≡◌, ◌⊎◌, ℕ, Bool, true, false, List, [], ◌∷◌, map, refl, sym, ap, ap₂, subst, ◌∙◌, inl, inr}
use Rattle.std.specs.Prelude.{◌&&◌, IfSome, Option, Some, None, find, is_some, option_map}
use Rattle.std.specs.Option.{option_or}
use Rattle.std.specs.List.{All, AllByRecursion, AllZip, Contains, IsDistinct}
use Rattle.std.specs.Str.{bytes_eq}
use Rattle.std.proofs.lemmas.Bool.{false≢true}
use Rattle.std.proofs.lemmas.List.Elements.{All-contains, All-from_recursion}
use Rattle.std.proofs.lemmas.Map.Keys.{IsDistinct-head, IsDistinct-tail}
use Rattle.std.proofs.lemmas.Slice.Eq.{bytes_eq-Decides}
use Rattle.nuc_base.specs.declared.artifact.Artifact.{Artifact}
use Rattle.nuc_base.proofs.Lists.{in_cons, in_here, in_map, in_nil, in_there}
use Rattle.tree_core.specs.View.{view}
use Rattle.config_ops.specs.NewConfig.{new_config}
use Rattle.recipe_reader.specs.Candidates.{IsReadFor}
use Rattle.recipe_reader.specs.OneRecipe.{IsOneRecipe, IsRecipeFor}
use Rattle.recipe_reader.specs.SetLaws.{DependsOnElements}
use Rattle.recipe_reader.specs.Sound.{ReadsSound, artifact_file}
use Rattle.recipe_reader.specs.declared.candidate.Candidate.{Candidate}
use Rattle.records.specs.Stored.{DraftItem, Item}
use Rattle.records.specs.declared.record.Held.{Held}
use Rattle.records.specs.declared.record.Origin.{Origin}
use Rattle.device.specs.Filled.{ItemFilled}
use Rattle.device.specs.Devices.{Device}
use Rattle.device.specs.Plans.{HasRecipe, IsHeldFor}
use Rattle.device.specs.Sound.{AreItemsFor, IsSound}
use Rattle.plan_core.specs.Looks.{IsOf}
use Rattle.plan_core.specs.Requests.{wanted_of}
use Rattle.plan_core.specs.Set.{artifact_of, change_in, item_in, item_of, items_of, kept_digest}
use Rattle.plan_core.proofs.Found.{found}
use Rattle.law_whole.specs.Taking.{IsKeptItem, OwnItemsStay}
use Rattle.law_whole.proofs.Bringing.{chosen_in}
use Rattle.law_whole.proofs.Choosing.{inside}
use Rattle.law_whole.proofs.Keeping.{own_config_stays}
use Rattle.law_whole.proofs.Owning.{names_of, own_set_is_chosen}
use Rattle.law_whole.proofs.Rising.{one_named}
use Rattle.law_whole.proofs.There.{finds_one}

-- ---- what is found

find_is : {X : Type 0} (test : X → Bool) (xs : List X) (x : X) → Contains xs x → test x ≡ true → ((y : X) → Contains xs y → test y ≡ true → y ≡ x) →
    find test xs ≡ Some x
find_is {X = X} test xs x among passes only = by (find test xs) refl (finds_one test xs x among passes)
  where
    by : (o : Option X) → find test xs ≡ o → is_some (find test xs) ≡ true → find test xs ≡ Some x
    by None is some = let both : false ≡ true = sym (ap is_some is) ∙ some in absurd cc
    by (Some y) is some = let f = found test xs y is in is ∙ ap Some (only y f.0 f.1)

and_both : (a b : Bool) → (a && b) ≡ true → (a ≡ true) × (b ≡ true)
and_both true b e = (refl, e)
and_both false b e = absurd (false≢true e)

-- of different keys each is one element's
one_keyed : {X : Type 0} (key : X → List ℕ) (xs : List X) → IsDistinct bytes_eq (map key xs) → (g h : X) → Contains xs g → Contains xs h → key g ≡ key h → g ≡ h
one_keyed key [] differ g h i j same = absurd (in_nil g i)
one_keyed {X = X} key (x ∷ xs) differ g h i j same = elim (in_cons x xs g i) [
  | inl e ↦ elim (in_cons x xs h j) [
    | inl f ↦ sym e ∙ f
    | inr k ↦ absurd (apart h k (ap key e ∙ same))
  ]
  | inr l ↦ elim (in_cons x xs h j) [
    | inl f ↦ absurd (apart g l (ap key f ∙ sym same))
    | inr k ↦ one_keyed key xs (IsDistinct-tail bytes_eq (key x) (map key xs) differ) g h l k same
  ]
]
  where
    apart : (y : X) → Contains xs y → key x ≡ key y → ⊥
    apart y k e =
        let no : bytes_eq (key x) (key y) ≡ false = All-contains (λ (n : List ℕ). bytes_eq (key x) n ≡ false) (map key xs) (key y)
        (All-from_recursion (λ (n : List ℕ). bytes_eq (key x) n ≡ false) (map key xs) (IsDistinct-head bytes_eq (key x) (map key xs) differ))
        (in_map key xs y k) in
        let yes : bytes_eq (key x) (key y) ≡ true = (bytes_eq-Decides (key x) (key y)).1 e in
        let both : true ≡ false = sym yes ∙ no in cc

-- ---- files

abbrev held_file : Held → List ℕ
held_file h = h.file

files_same : (files : List Artifact) (hs : List Held) → AllZip IsHeldFor files hs → map artifact_file files ≡ map held_file hs
files_same [] [] z = refl
files_same [] (h ∷ hs) z = absurd z
files_same (a ∷ files) [] z = absurd z
files_same (a ∷ files) (h ∷ hs) z = ap₂ (λ (x : List ℕ) (xs : List (List ℕ)). x ∷ xs) (sym z.0.file) (files_same files hs z.1)

held_same : (h z : Held) → z.file ≡ h.file → z.digest ≡ h.digest → z ≡ h
held_same h z file digest = λ k. record { file = file k; digest = digest k }

digest_same : (z d : List ℕ) (o p : Option (List ℕ)) → o ≡ Some d → IfSome (option_or o p) (λ x. z ≡ x) → z ≡ d
digest_same z d None p is h = absurd cc
digest_same z d (Some x) p is h = let same : x ≡ d = cc in h ∙ same

module _ (i : Item) where
  kept_files : (files : List Artifact) (hs zs : List Held) → AllZip IsHeldFor files hs → ((h : Held) → Contains hs h →
      kept_digest h.file i.artifacts ≡ Some h.digest)
      → AllZip IsHeldFor (map (artifact_of (Some i)) files) zs → zs ≡ hs
  kept_files [] [] [] z kept w = refl
  kept_files [] [] (y ∷ zs) z kept w = absurd w
  kept_files [] (h ∷ hs) zs z kept w = absurd z
  kept_files (a ∷ files) [] zs z kept w = absurd z
  kept_files (a ∷ files) (h ∷ hs) [] z kept w = absurd w
  kept_files (a ∷ files) (h ∷ hs) (y ∷ zs) z kept w =
      let at : kept_digest a.file i.artifacts ≡ Some h.digest = ap (λ (f : List ℕ). kept_digest f i.artifacts) (sym z.0.file) ∙ kept h (in_here h hs) in
      ap₂ (λ (x : Held) (xs : List Held). x ∷ xs)
      (held_same h y (w.0.file ∙ sym z.0.file) (digest_same y.digest h.digest (kept_digest a.file i.artifacts) a.digest at w.0.digest))
      (kept_files files hs zs z.1 (λ x k. kept x (in_there h hs x k)) w.1)

  digest_found : IsDistinct bytes_eq (map held_file i.artifacts) → (h : Held) → Contains i.artifacts h → kept_digest h.file i.artifacts ≡ Some h.digest
  digest_found differ h among =
      ap (option_map (λ (x : Held). x.digest)) (find_is (λ (x : Held). bytes_eq h.file x.file) i.artifacts h among ((bytes_eq-Decides h.file h.file).1 refl)
      (λ y k passes. one_keyed held_file i.artifacts differ y h k among (sym ((bytes_eq-Decides h.file y.file).0 passes))))

-- ---- three lists beside one another

zip_both : (f : Candidate → DraftItem) (S : Item → Item → Type 0) (xs : List Candidate) (ys zs : List Item) → AllZip IsOf xs ys
    → AllZip ItemFilled (map f xs) zs
    → ((c : Candidate) (i j : Item) → Contains xs c → Contains ys i → IsOf c i → ItemFilled (f c) j → S i j) → AllZip S ys zs
zip_both f S [] [] [] z w h = tt
zip_both f S [] [] (j ∷ zs) z w h = absurd w
zip_both f S [] (i ∷ ys) zs z w h = absurd z
zip_both f S (c ∷ xs) [] zs z w h = absurd z
zip_both f S (c ∷ xs) (i ∷ ys) [] z w h = absurd w
zip_both f S (c ∷ xs) (i ∷ ys) (j ∷ zs) z w h = (
  h c i j (in_here c xs) (in_here i ys) z.0 w.0,
  zip_both f S xs ys zs z.1 w.1 (λ x y v k l. h x y v (in_there c xs x k) (in_there i ys y l)),
)

pub own_items_stay : IsOneRecipe → ReadsSound → DependsOnElements → OwnItemsStay
own_items_stay one reads_sound elements o d cs document draft plan sound whole is gathered same planned fills =
    zip_both (item_of d.set document.roots) (IsKeptItem o.platform document.roots) planned.plan.choice d.set plan.items
    (own_set_is_chosen one elements o d cs planned.plan.choice document sound whole is gathered same planned.plan.is_choice)
    (subst (λ (l : List DraftItem). AllZip ItemFilled l plan.items) planned.plan.items fills.items) each_item
  where
    names : (i j : Item) → Contains d.set i → Contains d.set j → i.name ≡ j.name → i ≡ j
    names = one_named d.set (names_of d o sound is)

    read_choice : (x : Candidate) → Contains planned.plan.choice x → IsReadFor o.platform x
    read_choice x k =
        All-contains (IsReadFor o.platform) cs x gathered.read
        (chosen_in cs planned.plan.is_choice.0 x (inside cs (wanted_of d.groups document) planned.plan.is_choice.0 planned.plan.is_choice.1.valid)
        (subst (λ (l : List Candidate). Contains l x) planned.plan.is_choice.2 k))

    has_recipe : (i : Item) → Contains d.set i → HasRecipe o.platform i
    has_recipe i k = All-contains (HasRecipe o.platform) d.set i (All-from_recursion (HasRecipe o.platform) d.set (subst (λ (x : Option Origin). AreItemsFor
        x d.set) is sound.set).recipes) k

    item_at : (c : Candidate) (i : Item) → Contains d.set i → IsOf c i → item_in c.recipe.name c.recipe.version d.set ≡ Some i
    item_at c i k of = find_is (λ (x : Item). bytes_eq c.recipe.name x.name && bytes_eq c.recipe.version x.version) d.set i k
        (ap₂ (λ (a b : Bool). a && b) ((bytes_eq-Decides c.recipe.name i.name).1 (sym of.0)) ((bytes_eq-Decides c.recipe.version i.version).1 (sym of.1)))
        (λ y l passes. names y i l k (sym ((bytes_eq-Decides c.recipe.name y.name).0 (and_both (bytes_eq c.recipe.name y.name) (bytes_eq c.recipe.version
        y.version) passes).0) ∙ sym of.0))

    files_stay : (c : Candidate) (i j : Item) → Contains planned.plan.choice c → Contains d.set i → IsOf c i → ItemFilled (item_of d.set document.roots c) j →
        j.artifacts ≡ i.artifacts
    files_stay c i j k l of f =
        let r = has_recipe i l in
        let read : IsRecipeFor i.recipe o.platform c.recipe = subst (λ (b : List ℕ). IsRecipeFor b o.platform c.recipe) (sym of.2) (read_choice c k) in
        let alike = one i.recipe o.platform c.recipe r.0 read r.1.reads in
        let zipped : AllZip IsHeldFor c.recipe.artifacts i.artifacts = subst (λ (files : List Artifact). AllZip IsHeldFor files i.artifacts)
        (sym alike.artifacts) r.1.files in
        let differ : IsDistinct bytes_eq (map held_file i.artifacts) = subst (IsDistinct bytes_eq) (files_same c.recipe.artifacts i.artifacts zipped)
        (reads_sound i.recipe o.platform c.recipe read).files in
        kept_files i c.recipe.artifacts i.artifacts j.artifacts zipped (digest_found i differ)
        (subst (λ (x : Option Item). AllZip IsHeldFor (map (artifact_of x) c.recipe.artifacts) j.artifacts) (item_at c i l of) f.files)

    each_item : (c : Candidate) (i j : Item) → Contains planned.plan.choice c → Contains d.set i → IsOf c i → ItemFilled (item_of d.set document.roots c) j →
        IsKeptItem o.platform document.roots i j
    each_item c i j k l of f =
        let stays = own_config_stays one elements o d cs planned.plan.choice document sound whole is gathered same planned.plan.is_choice c i k l (sym of.0) in
        let read : IsRecipeFor i.recipe o.platform c.recipe = subst (λ (b : List ℕ). IsRecipeFor b o.platform c.recipe) (sym of.2) (read_choice c k) in record {
          name = f.name ∙ sym of.0;
          version = f.version ∙ sym of.1;
          recipe = f.recipe ∙ sym of.2;
          artifacts = files_stay c i j k l of f;
          config = λ none. f.config ∙ stays.0 (ap (λ (n : List ℕ). change_in n document.roots) (sym of.0) ∙ none);
          changed = λ r reads. f.config ∙ stays.1
              ∙ ap₂ (λ x n. new_config (Some i.config) x (change_in n document.roots)) (one i.recipe o.platform c.recipe r read reads).default_config
              (sym of.0);
        }
