-- The recipe that the lines name is sound.
use Rattle.std.proofs.Common.{◌≡◌, ◌≤◌, ℕ, List, ◌++◌, map, length, Option, Some, None, Result, Ok, Err, IfSome, IfOk, sym, subst, arith, nat_cmp, lit≤}
use Rattle.std.specs.List.{AllZip}
use Rattle.std.specs.List.Sorted.{IsStrictlySortedBy}
use Rattle.std.specs.Cmp.Lexicographic.{slice_cmp}
use Rattle.std.proofs.lemmas.Option.{same_Some, none-some}
use Rattle.std.proofs.lemmas.Slice.Zip.{AllZip-long}
use Rattle.serde_json.specs.Data.{Data, string, object, Members, no_members}
use Rattle.serde_json.specs.Find.{get}
use Rattle.nuc_base.specs.Names.{IsName}
use Rattle.nuc_base.specs.Tables.{Table, AllHold, AnswerBy, on}
use Rattle.nuc_base.specs.declared.artifact.Artifact.{Artifact}
use Rattle.nuc_base.specs.declared.platform.Platform.{Platform}
use Rattle.npm_ranges.specs.Versions.{IsVersion}
use Rattle.tree_core.specs.Parts.{present, IsTextOf, IsObject, check, members, pairs_of, values, optional}
use Rattle.tree_core.specs.Regular.{IsRegular}
use Rattle.tree_core.specs.View.{view}
use Rattle.nuc_base.proofs.Tables.{hold_last}
use Rattle.tree_core.proofs.RegularParts.{get_regular, present_regular}
use Rattle.tree_core.proofs.Rising.{names_rise}
use Rattle.recipe_reader.specs.Artifacts.{IsArtifact, AreArtifacts, artifacts_lines}
use Rattle.recipe_reader.specs.Dependencies.{IsDependency, AreDependencies, dependencies_lines}
use Rattle.recipe_reader.specs.Platforms.{manifests_lines}
use Rattle.recipe_reader.specs.Recipes.{IsRecipe, IsDefault, recipe_lines, head_lines, config_lines, chosen_lines, part_lines, manifest_of, inner}
use Rattle.recipe_reader.specs.Recipes.{object_lines, needed, name_lines, version_lines, format_lines, type_lines, global_lines}
use Rattle.recipe_reader.specs.Sound.{IsSound, dependency_name}
use Rattle.recipe_reader.specs.Spelled.{spelled}
use Rattle.recipe_reader.specs.declared.recipe.Dependency.{Dependency}
use Rattle.recipe_reader.specs.declared.recipe.Recipe.{Recipe}
use Rattle.recipe_reader.specs.declared.fault.Key.TheVariants as key
use Rattle.recipe_reader.specs.declared.fault.RecipeFault.{RecipeFault}
use Rattle.recipe_reader.specs.declared.fault.RecipeFault.TheVariants as fault
use Rattle.recipe_reader.specs.Lifecycles.{lifecycle_lines}
use Rattle.recipe_reader.proofs.SoundSteps.{chosen_files, hold_first, lifecycle_holds, not_both, short_steps}

module _ (platform : Platform) (d : Data) where
  abbrev configs : Table RecipeFault
  configs = optional (spelled key.ComponentConfiguration) d config_lines

  abbrev needs : Table RecipeFault
  needs = optional (spelled key.ComponentDependencies) d dependencies_lines

  head_holds : AllHold (recipe_lines platform d) → AllHold (head_lines d)
  head_holds h = hold_first (head_lines d) configs (hold_first (head_lines d ++ configs) needs (hold_first (head_lines d ++ configs
      ++ needs) (part_lines platform d) h))

  configs_hold : AllHold (recipe_lines platform d) → AllHold configs
  configs_hold h = hold_last (head_lines d) configs (hold_first (head_lines d ++ configs) needs (hold_first (head_lines d ++ configs
      ++ needs) (part_lines platform d) h))

  needs_hold : AllHold (recipe_lines platform d) → AllHold needs
  needs_hold h = hold_last (head_lines d ++ configs) needs (hold_first (head_lines d ++ configs ++ needs) (part_lines platform d) h)

  chosen_hold : AllHold (recipe_lines platform d) → AllHold (on (manifest_of platform d) chosen_lines)
  chosen_hold h = hold_last (optional (spelled key.Manifests) d (manifests_lines platform)) (on (manifest_of platform d) chosen_lines)
      (hold_last (head_lines d ++ configs ++ needs) (part_lines platform d) h)

-- ---- the name and the version

module _ (d : Data) where
  abbrev formats : Table RecipeFault
  formats = check (IsObject d) (fault.WrongKind key.Recipe) ++ needed key.RecipeFormatVersion d format_lines

  abbrev named : Table RecipeFault
  named = needed key.ComponentName d name_lines

  abbrev versioned : Table RecipeFault
  versioned = needed key.ComponentVersion d version_lines

  abbrev typed : Table RecipeFault
  typed = optional (spelled key.ComponentType) d type_lines

  abbrev global : Table RecipeFault
  global = optional (spelled key.Lifecycle) d global_lines

  named_holds : AllHold (head_lines d) → AllHold named
  named_holds h = hold_last formats named (hold_first (formats ++ named) versioned (hold_first (formats ++ named
      ++ versioned) typed (hold_first (formats ++ named ++ versioned ++ typed) global h)))

  versioned_holds : AllHold (head_lines d) → AllHold versioned
  versioned_holds h = hold_last (formats ++ named) versioned (hold_first (formats ++ named
      ++ versioned) typed (hold_first (formats ++ named ++ versioned ++ typed) global h))

text_has : (P : List ℕ → Type 0) (s : List ℕ) → IsTextOf P (string s) → P s
text_has P s h =
    let same : h.0 ≡ s = cc h.1 in
    subst P same h.2

name_of : (o : Option Data) (s : List ℕ) → o ≡ Some (string s) → AllHold (on o name_lines) → IsName s
name_of None s e h = absurd (none-some (string s) e)
name_of (Some v) s e h = let same : v ≡ string s = same_Some v (string s) e in text_has IsName s (subst (IsTextOf IsName) same h.1.0)

version_of : (o : Option Data) (s : List ℕ) → o ≡ Some (string s) → AllHold (on o version_lines) → IsVersion s
version_of None s e h = absurd (none-some (string s) e)
version_of (Some v) s e h = let same : v ≡ string s = same_Some v (string s) e in text_has IsVersion s (subst (IsTextOf IsVersion) same h.1.0)

-- ---- the default configuration

default_object : (o : Option Data) (c : Data) → IsDefault o c → AllHold (on o (object_lines key.DefaultConfiguration)) → IsObject c
default_object None c is h = (no_members, is)
default_object (Some v) c is h = subst IsObject (sym is) h.0

config_object : (o : Option Data) (c : Data) → IsDefault (inner key.DefaultConfiguration o) c → AllHold (on o config_lines) → IsObject c
config_object None c is h = default_object None c is tt
config_object (Some v) c is h = default_object (present (get (spelled key.DefaultConfiguration) v)) c is h.1

-- ---- dependencies

module _ (ds : List Dependency) where
  dependencies_of : (v : Data) → AllZip IsDependency (members v) ds → (ms : Members) → v ≡ object ms → IsRegular v → length (members v) ≤ 64
      → (length ds ≤ 64) × IsStrictlySortedBy (slice_cmp nat_cmp) (map dependency_name ds)
  dependencies_of v z ms is r few =
      let zip : AllZip IsDependency (pairs_of ms) ds = subst (λ (w : Data). AllZip IsDependency (members w) ds) is z in
      let short : length (pairs_of ms) ≤ 64 = subst (λ (w : Data). length (members w) ≤ 64) is few in
      let regular : IsRegular (object ms) = subst IsRegular is r in
      let long = AllZip-long IsDependency (pairs_of ms) ds zip in
      (omega (arith, long, short), names_rise dependency_name IsDependency (λ m b h. h.name) ms ds regular.orderly zip)

few_dependencies : (o : Option Data) (ds : List Dependency) → IfSome o IsRegular → AllHold (on o dependencies_lines) → AreDependencies o ds
    → (length ds ≤ 64) × IsStrictlySortedBy (slice_cmp nat_cmp) (map dependency_name ds)
unfolding IsStrictlySortedBy
few_dependencies None ds r h z = subst (λ (xs : List Dependency). (length xs ≤ 64) × IsStrictlySortedBy (slice_cmp nat_cmp) (map dependency_name xs)) (sym z)
    (lit≤ tt, tt)
few_dependencies (Some v) ds r h z = dependencies_of ds v z h.0.0 h.0.1 r h.1.0

-- ---- artifacts

few_artifacts_of : (o : Option Data) (xs : List Artifact) → AllHold (on o artifacts_lines) → AreArtifacts o xs → length xs ≤ 64
few_artifacts_of None xs h z = subst (λ (ys : List Artifact). length ys ≤ 64) (sym z) (lit≤ tt)
few_artifacts_of (Some v) xs h z = let long = AllZip-long IsArtifact (values v) xs z in let few = h.1.0 in omega (arith, long, few)

chosen_artifacts : (o : Option Data) (xs : List Artifact) → AllHold (on o chosen_lines) → AreArtifacts (inner key.Artifacts o) xs → length xs ≤ 64
chosen_artifacts None xs h z = few_artifacts_of None xs tt z
chosen_artifacts (Some m) xs h z =
    few_artifacts_of (present (get (spelled key.Artifacts) m)) xs (hold_last (optional (spelled key.Lifecycle) m lifecycle_lines)
    (optional (spelled key.Artifacts) m artifacts_lines) h) z

-- ---- the whole

pub recipe_sound : (platform : Platform) (d : Data) (r : Recipe) → IsRegular d → AllHold (recipe_lines platform d) → IsRecipe platform d r → IsSound r
recipe_sound platform d r regular h is =
    let head = head_holds platform d h in
    let chosen = chosen_hold platform d h in
    let steps = lifecycle_holds (manifest_of platform d) chosen in
    let named = named_holds d head in
    let versioned = versioned_holds d head in
    let needs = few_dependencies (present (get (spelled key.ComponentDependencies) d)) r.dependencies (present_regular
    (get (spelled key.ComponentDependencies) d) (get_regular (spelled key.ComponentDependencies) d regular)) (needs_hold platform d h) is.dependencies in
    record {
      name = name_of (get (spelled key.ComponentName) d) r.name is.name named.1;
      version = version_of (get (spelled key.ComponentVersion) d) r.version is.version versioned.1;
      object = config_object (present (get (spelled key.ComponentConfiguration) d)) (view r.default_config) is.default_config (configs_hold platform d h);
      regular = is.regular;
      few = needs.0;
      rising = needs.1;
      few_artifacts = chosen_artifacts (manifest_of platform d) r.artifacts chosen is.artifacts;
      files = chosen_files (manifest_of platform d) r.artifacts chosen is.artifacts;
      not_both = not_both (inner key.Lifecycle (manifest_of platform d)) r steps is.steps;
      limits = short_steps (inner key.Lifecycle (manifest_of platform d)) r steps is.steps;
    }

pub answers_sound : (platform : Platform) (d : Data) (result : Result Recipe RecipeFault) → IsRegular d →
    AnswerBy fault.NoMemory (recipe_lines platform d) (IsRecipe platform d) result → IfOk result IsSound
answers_sound platform d (Err f) regular h = tt
answers_sound platform d (Ok r) regular h = recipe_sound platform d r regular h.0 h.1
