-- The items of a plan whose files were taken in, each beside its candidate.
use Rattle.std.proofs.Common.{◌≡◌, ℕ, ◌≤◌, Bool, true, false, List, [], ◌∷◌, length, map, refl, sym, subst}
use Rattle.std.specs.Prelude.{◌&&◌, Option, Some, None, IfSome, option_map, option_and_then}
use Rattle.std.specs.List.{All, AllByRecursion, AllZip, Contains}
use Rattle.std.specs.Str.{bytes_eq}
use Rattle.std.proofs.lemmas.Bool.{false≢true}
use Rattle.std.proofs.lemmas.List.Elements.{All-contains, All-from_recursion, All-head, All-tail}
use Rattle.std.proofs.lemmas.Slice.Eq.{bytes_eq-Decides}
use Rattle.serde_json.specs.Written.{compact_text}
use Rattle.nuc_base.specs.Tables.{AllHold, each}
use Rattle.nuc_base.specs.declared.platform.Platform.{Platform}
use Rattle.nuc_base.specs.declared.artifact.Artifact.{Artifact}
use Rattle.nuc_base.proofs.Lists.{in_one, in_here, in_there}
use Rattle.tree_core.specs.Parts.{IsObject}
use Rattle.tree_core.specs.Regular.{IsRegular}
use Rattle.tree_core.specs.View.{view}
use Rattle.tree_core.specs.declared.tree.Tree.{Tree}
use Rattle.config_ops.specs.Laws as config
use Rattle.config_ops.specs.NewConfig.{change_of}
use Rattle.config_ops.specs.declared.update.Update.{Update}
use Rattle.recipe_reader.specs.Candidates.{IsReadFor}
use Rattle.recipe_reader.specs.OneRecipe.{IsRecipeFor, IsOneRecipe}
use Rattle.recipe_reader.specs.Sound.{ReadsSound}
use Rattle.recipe_reader.specs.declared.candidate.Candidate.{Candidate}
use Rattle.records.specs.Stored.{Item}
use Rattle.library_core.specs.Gathered.{KeepBytes}
use Rattle.device.specs.Limits.{most_config}
use Rattle.device.specs.Plans.{AreItems, HasRecipe, HasConfig, IsConfig, IsHeldFor}
use Rattle.deployment_doc.specs.Sound.{AreSound, UpdatesByObject, MergesObject}
use Rattle.deployment_doc.specs.declared.document.Root.{Root}
use Rattle.device.specs.Filled.{ItemFilled}
use Rattle.plan_core.specs.Plans.{config_lines}
use Rattle.plan_core.specs.Set.{item_named, item_in, root_named, change_in, config_of, item_of, items_of, bare}
use Rattle.plan_core.proofs.Files.{KeepsFiles, files_differ, held_all}
use Rattle.plan_core.proofs.Found.{found}

-- an item of this candidate
pub record IsMade (p : Platform) (c : Candidate) (i : Item) : Type 0 where
  pub reads : IsRecipeFor i.recipe p c.recipe
  pub name : c.recipe.name ≡ i.name
  pub version : c.recipe.version ≡ i.version
  pub files : AllZip IsHeldFor c.recipe.artifacts i.artifacts
  pub is_config : IsConfig i.config

-- ---- configurations

merge_object : (o : Option Tree) → IfSome o (λ t. IsObject (view t) × IsRegular (view t)) → IfSome (option_map view o) IsObject
merge_object None h = tt
merge_object (Some t) h = h.0

update_object : (o : Option Update) → IfSome o MergesObject → config.MergesObject (option_map change_of o)
update_object None h = tt
update_object (Some u) h = merge_object u.merge h

change_object : (n : List ℕ) (roots : List Root) → AreSound roots → (o : Option Root) → root_named n roots ≡ o →
    config.MergesObject (option_and_then (λ (r : Root). option_map change_of r.update) o)
change_object n roots sound None is = tt
change_object n roots sound (Some r) is = update_object r.update
    (All-contains UpdatesByObject roots r sound.merges (found (λ (root : Root). bytes_eq n root.name) roots r is).0)

kept_object : (n : List ℕ) (items : List Item) → AllByRecursion HasConfig items → (o : Option Item) → item_named n items ≡ o →
    IfSome (option_map (λ (i : Item). i.config) o) IsObject
kept_object n items configs None is = tt
kept_object n items configs (Some i) is =
    (All-contains HasConfig items i (All-from_recursion HasConfig items configs) (found (λ (item : Item). bytes_eq n item.name) items i is).0).is_object

and_both : (a b : Bool) → (a && b) ≡ true → (a ≡ true) × (b ≡ true)
and_both true b e = (refl, e)
and_both false b e = absurd (false≢true e)

module _ (one : IsOneRecipe) (reads_sound : ReadsSound) (object : config.ConfigIsObject) (p : Platform) (set : List Item) (roots : List Root)
    (items : AreItems p set) (sound : AreSound roots) where
  -- what is known of a candidate
  record Fits (c : Candidate) : Type 0 where
    read : IsReadFor p c
    kept : KeepBytes set (c ∷ [])
    short : length (compact_text (config_of set roots c.recipe)) ≤ most_config

  config_object : (c : Candidate) → Fits c → IsObject (config_of set roots c.recipe)
  config_object c fits =
      object (option_map (λ (i : Item). i.config) (item_named c.recipe.name set)) (view c.recipe.default_config) (change_in c.recipe.name roots)
      (kept_object c.recipe.name set items.configs (item_named c.recipe.name set) refl)
      (reads_sound c.bytes p c.recipe fits.read).object
      (change_object c.recipe.name roots sound (root_named c.recipe.name roots) refl)

  keeps : (c : Candidate) → Fits c → (o : Option Item) → item_in c.recipe.name c.recipe.version set ≡ o → KeepsFiles c.recipe.artifacts o
  keeps c fits None is = tt
  keeps c fits (Some i) is =
      let f = found (λ (item : Item). bytes_eq c.recipe.name item.name && bytes_eq c.recipe.version item.version) set i is in
      let both = and_both (bytes_eq c.recipe.name i.name) (bytes_eq c.recipe.version i.version) f.1 in
      let bytes = fits.kept i c f.0 (in_here c []) ((bytes_eq-Decides c.recipe.name i.name).0 both.0) ((bytes_eq-Decides c.recipe.version i.version).0 both.1)
      in
      let has = All-contains (HasRecipe p) set i (All-from_recursion (HasRecipe p) set items.recipes) f.0 in
      let same = one i.recipe p has.0 c.recipe has.1.reads (subst (λ (b : List ℕ). IsRecipeFor b p c.recipe) bytes fits.read) in
      subst (λ (parts : List Artifact). AllZip IsHeldFor parts i.artifacts) same.artifacts has.1.files

  made_one : (c : Candidate) (i : Item) → Fits c → ItemFilled (item_of set roots c) i → IsMade p c i
  made_one c i fits fills = record {
    reads = subst (λ (b : List ℕ). IsRecipeFor b p c.recipe) (sym fills.recipe) fits.read;
    name = sym fills.name;
    version = sym fills.version;
    files = held_all (item_in c.recipe.name c.recipe.version set) c.recipe.artifacts i.artifacts (files_differ p c.bytes c.recipe fits.read)
        (keeps c fits (item_in c.recipe.name c.recipe.version set) refl) fills.files;
    is_config = subst IsConfig (sym fills.config) (record { is_object = config_object c fits; short = fits.short });
  }

  all_made : (cs : List Candidate) (made : List Item) → AllByRecursion Fits cs → AllZip ItemFilled (items_of set roots cs) made → AllZip (IsMade p) cs made
  all_made [] [] fits z = tt
  all_made [] (i ∷ made) fits z = absurd z
  all_made (c ∷ cs) [] fits z = absurd z
  all_made (c ∷ cs) (i ∷ made) fits z = (made_one c i fits.0 z.0, all_made cs made fits.1 z.1)

  all_fit : (cs : List Candidate) → All (IsReadFor p) cs → KeepBytes set cs → AllHold (each config_lines (map bare (items_of set roots cs))) →
      AllByRecursion Fits cs
  all_fit [] read kept short = tt
  all_fit (c ∷ cs) read kept short = (
    record {
      read = All-head (IsReadFor p) c cs read;
      kept = λ i x among there. kept i x among (subst (Contains (c ∷ cs)) (in_one c x there) (in_here c cs));
      short = short.0;
    },
    all_fit cs (All-tail (IsReadFor p) c cs read) (λ i x among there. kept i x among (in_there c cs x there)) short.1,
  )

  pub items_made : (cs : List Candidate) (made : List Item) → All (IsReadFor p) cs → KeepBytes set cs →
      AllHold (each config_lines (map bare (items_of set roots cs)))
      → AllZip ItemFilled (items_of set roots cs) made → AllZip (IsMade p) cs made
  items_made cs made read kept short z = all_made cs made (all_fit cs read kept short) z
