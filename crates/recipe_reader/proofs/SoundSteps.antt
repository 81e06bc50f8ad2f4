-- The steps and the files of the recipe that the lines name.
use Rattle.std.proofs.Common.{◌≡◌, ◌≤◌, ℕ, ◌*◌, ◌||◌, Bool, true, false, List, [], ◌∷◌, ◌++◌, map, Option, Some, None, IsSome, IfSome, refl, sym, subst}
use Rattle.std.proofs.Common.{arith, lit≤}
use Rattle.std.specs.List.{AllByRecursion, AllZip, IsDistinct}
use Rattle.std.specs.Str.{bytes_eq}
use Rattle.std.proofs.lemmas.Bool.{false≢true}
use Rattle.serde_json.specs.Data.{Data, null, boolean, number, string, array, object}
use Rattle.serde_json.specs.Find.{get}
use Rattle.nuc_base.specs.Tables.{Table, AllHold, on}
use Rattle.nuc_base.specs.declared.artifact.Artifact.{Artifact}
use Rattle.nuc_base.specs.declared.kinds.Step.{Step}
use Rattle.nuc_base.specs.declared.kinds.Step.TheVariants.{Install, Run, Startup, Shutdown, Recover, Bootstrap}
use Rattle.nuc_base.proofs.Tables.{hold_last}
use Rattle.tree_core.specs.Parts.{check, values, optional, present}
use Rattle.recipe_reader.specs.Artifacts.{IsArtifact, AreArtifacts, artifacts_lines, artifact_lines, listed_lines, has_name, file_at}
use Rattle.recipe_reader.specs.Environment.{Variable, environment_lines}
use Rattle.recipe_reader.specs.Keys.{keyed}
use Rattle.recipe_reader.specs.Lifecycles.{AreSteps, HasBoth, first_steps, keys_lines, last_steps, lifecycle_lines, one_step, step_value}
use Rattle.recipe_reader.specs.Recipes.{chosen_lines, inner}
use Rattle.recipe_reader.specs.Sound.{IsShort, artifact_file}
use Rattle.recipe_reader.specs.Spelled.{spelled}
use Rattle.recipe_reader.specs.Steps.{IsLimit, IsStep, double_lines, script_lines, skip_lines, step_lines, step_of, timeout_lines, usual_limit}
use Rattle.recipe_reader.specs.declared.recipe.Recipe.{Recipe}
use Rattle.recipe_reader.specs.declared.recipe.StepDef.{StepDef}
use Rattle.recipe_reader.specs.declared.fault.Key.TheVariants as key
use Rattle.recipe_reader.specs.declared.fault.RecipeFault.{RecipeFault}
use Rattle.recipe_reader.specs.declared.fault.RecipeFault.TheVariants as fault

-- ---- of lines that all hold, those before

pub hold_first : {Fault : Type 0} (above lines : Table Fault) → AllHold (above ++ lines) → AllHold above
hold_first [] lines h = tt
hold_first (line ∷ above) lines h = (h.0, hold_first above lines h.1)

-- ---- the lines of a lifecycle

module _ (v : Data) where
  abbrev variables : Table RecipeFault
  variables = on (keyed (spelled key.Setenv) v) environment_lines

  not_both_of : AllHold (lifecycle_lines v) → HasBoth v → ⊥
  not_both_of h = (hold_last (keys_lines v ++ variables ++ first_steps v ++ last_steps v) (check (HasBoth v → ⊥) fault.RunAndStartup) h).0

  first_hold : AllHold (lifecycle_lines v) → AllHold (first_steps v)
  first_hold h = hold_last (keys_lines v ++ variables) (first_steps v) (hold_first (keys_lines v ++ variables
      ++ first_steps v) (last_steps v) (hold_first (keys_lines v ++ variables ++ first_steps v ++ last_steps v) (check (HasBoth v → ⊥) fault.RunAndStartup) h))

  last_hold : AllHold (lifecycle_lines v) → AllHold (last_steps v)
  last_hold h = hold_last (keys_lines v ++ variables ++ first_steps v) (last_steps v) (hold_first (keys_lines v ++ variables ++ first_steps v
      ++ last_steps v) (check (HasBoth v → ⊥) fault.RunAndStartup) h)

  steps_hold : (step : Step) → AllHold (lifecycle_lines v) → AllHold (one_step step v)
  steps_hold Install h = hold_first (one_step Install v) (one_step Run v) (hold_first (one_step Install v
      ++ one_step Run v) (one_step Startup v) (first_hold h))
  steps_hold Run h = hold_last (one_step Install v) (one_step Run v) (hold_first (one_step Install v ++ one_step Run v) (one_step Startup v) (first_hold h))
  steps_hold Startup h = hold_last (one_step Install v ++ one_step Run v) (one_step Startup v) (first_hold h)
  steps_hold Shutdown h = hold_first (one_step Shutdown v) (one_step Recover v) (hold_first (one_step Shutdown v
      ++ one_step Recover v) (one_step Bootstrap v) (last_hold h))
  steps_hold Recover h = hold_last (one_step Shutdown v) (one_step Recover v) (hold_first (one_step Shutdown v
      ++ one_step Recover v) (one_step Bootstrap v) (last_hold h))
  steps_hold Bootstrap h = hold_last (one_step Shutdown v ++ one_step Recover v) (one_step Bootstrap v) (last_hold h)

-- ---- a step is there where its key is

there : (step : Step) (outer : List Variable) (o : Option Data) (def : Option StepDef) → IsStep step outer o def → IsSome def → IsSome o
there step outer None None is has = has
there step outer None (Some def) is has = absurd is
there step outer (Some v) def is has = refl

pub not_both : (o : Option Data) (recipe : Recipe) → AllHold (on o lifecycle_lines) → AreSteps o (step_of recipe) → IsSome recipe.run →
    IsSome recipe.startup → ⊥
not_both None recipe h are run startup = false≢true (there Run are.outer None recipe.run (are.steps Run) run)
not_both (Some v) recipe h are run startup =
    not_both_of v h (
      there Run are.outer (step_value Run v) recipe.run (are.steps Run) run,
      there Startup are.outer (step_value Startup v) recipe.startup (are.steps Startup) startup,
    )

-- ---- its limit

short_usual : (step : Step) → IfSome (usual_limit step) (λ limit. limit ≤ 1000000000)
short_usual Install = lit≤ tt
short_usual Run = tt
short_usual Startup = lit≤ tt
short_usual Shutdown = lit≤ tt
short_usual Recover = lit≤ tt
short_usual Bootstrap = lit≤ tt

short_limit : (step : Step) (o : Option Data) (limit : Option ℕ) → AllHold (on o timeout_lines) → IsLimit step o limit →
    IfSome limit (λ limit. limit ≤ 1000000000)
short_limit step None limit h is = subst (λ (l : Option ℕ). IfSome l (λ limit. limit ≤ 1000000000)) (sym is) (short_usual step)
short_limit step (Some v) limit h is =
    let count = h.1.0 in
    let same : count.0 ≡ is.0 = cc (count.1, is.1) in
    let few : count.0 ≤ 1000000 = count.3 in
    let below : is.0 * 1000 ≤ 1000000000 = omega (arith, same, few) in
    subst (λ (l : Option ℕ). IfSome l (λ limit. limit ≤ 1000000000)) (sym is.2) below

-- a text has no key of a limit
limit_lines : (step : Step) (v : Data) → AllHold (step_lines step v) → AllHold (on (keyed (spelled key.Timeout) v) timeout_lines)
limit_lines step null h = tt
limit_lines step (boolean b) h = tt
limit_lines step (number n) h = tt
limit_lines step (string s) h = tt
limit_lines step (array ds) h = tt
limit_lines step (object ms) h =
    let v = object ms in
    let skips : Table RecipeFault = on (keyed (spelled key.Skipif) v) skip_lines in
    let limits : Table RecipeFault = on (keyed (spelled key.Timeout) v) timeout_lines in
    let variables : Table RecipeFault = on (keyed (spelled key.Setenv) v) environment_lines in
    hold_last (double_lines v ++ script_lines v ++ skips) limits (hold_first (double_lines v ++ script_lines v ++ skips ++ limits) variables h.1)

short_step : (step : Step) (outer : List Variable) (o : Option Data) (def : Option StepDef) → AllHold (on o (step_lines step)) → IsStep step outer o def →
    IfSome def IsShort
short_step step outer o None h is = tt
short_step step outer None (Some def) h is = absurd is
short_step step outer (Some v) (Some def) h is = short_limit step (keyed (spelled key.Timeout) v) def.limit_ms (limit_lines step v h) is.limit

pub short_steps : (o : Option Data) (recipe : Recipe) → AllHold (on o lifecycle_lines) → AreSteps o (step_of recipe) → (step : Step) →
    IfSome (step_of recipe step) IsShort
short_steps None recipe h are step = short_step step are.outer None (step_of recipe step) tt (are.steps step)
short_steps (Some v) recipe h are step = short_step step are.outer (step_value step v) (step_of recipe step) (steps_hold v step h) (are.steps step)

-- ---- files

-- none of the names is one of the files
abbrev Differ : List (List ℕ) → List (List ℕ) → Type 0
Differ names files = AllByRecursion (λ n. AllByRecursion (λ f. bytes_eq n f ≡ false) files) names

none_differ : (names : List (List ℕ)) → Differ names []
none_differ [] = tt
none_differ (n ∷ names) = (tt, none_differ names)

one_more : (names : List (List ℕ)) (f : List ℕ) (files : List (List ℕ)) → has_name names f ≡ false → Differ names files → Differ names (f ∷ files)
one_more [] f files h differ = tt
one_more (n ∷ names) f files h differ = by (bytes_eq n f) refl h (λ none. one_more names f files none differ.1)
  where
    by : (b : Bool) → bytes_eq n f ≡ b → (b || has_name names f) ≡ false → (has_name names f ≡ false → Differ names (f ∷ files)) →
        Differ (n ∷ names) (f ∷ files)
    by true is h rest = absurd cc
    by false is h rest = ((is, differ.0), rest h)

parted : (names : List (List ℕ)) (f : List ℕ) (files : List (List ℕ)) → Differ (names ++ f ∷ []) files → Differ names files ×
    AllByRecursion (λ g. bytes_eq f g ≡ false) files
parted [] f files h = (tt, h.0)
parted (n ∷ names) f files h = let rest = parted names f files h.1 in ((h.0, rest.0), rest.1)

listed : (names : List (List ℕ)) (vs : List Data) (xs : List Artifact) → AllHold (listed_lines names vs) → AllZip IsArtifact vs xs →
    Differ names (map artifact_file xs) × IsDistinct bytes_eq (map artifact_file xs)
unfolding IsDistinct
listed names [] [] h z = (none_differ names, tt)
listed names [] (x ∷ xs) h z = absurd z
listed names (v ∷ vs) [] h z = absurd z
listed names (v ∷ vs) (x ∷ xs) h z =
    let one : Table RecipeFault = check (has_name names (file_at v) ≡ false) fault.DuplicateArtifact in
    let here = (hold_last (artifact_lines v) one (hold_first (artifact_lines v ++ one) (listed_lines (names ++ file_at v ∷ []) vs) h)).0 in
    let rest = listed (names ++ file_at v ∷ []) vs xs (hold_last (artifact_lines v ++ one) (listed_lines (names ++ file_at v ∷ []) vs) h) z.1 in
    let halves = parted names (file_at v) (map artifact_file xs) rest.0 in
    subst (λ (f : List ℕ). Differ names (f ∷ map artifact_file xs) × IsDistinct bytes_eq (f ∷ map artifact_file xs)) (sym z.0.file)
    (one_more names (file_at v) (map artifact_file xs) here halves.0, (halves.1, rest.1))

files_differ : (o : Option Data) (xs : List Artifact) → AllHold (on o artifacts_lines) → AreArtifacts o xs → IsDistinct bytes_eq (map artifact_file xs)
unfolding IsDistinct
files_differ None xs h z = subst (λ (ys : List Artifact). IsDistinct bytes_eq (map artifact_file ys)) (sym z) tt
files_differ (Some v) xs h z = (listed [] (values v) xs h.1.1 z).1

-- ---- of the manifest for the platform

pub chosen_files : (o : Option Data) (xs : List Artifact) → AllHold (on o chosen_lines) → AreArtifacts (inner key.Artifacts o) xs →
    IsDistinct bytes_eq (map artifact_file xs)
chosen_files None xs h z = files_differ None xs tt z
chosen_files (Some m) xs h z =
    files_differ (present (get (spelled key.Artifacts) m)) xs (hold_last (optional (spelled key.Lifecycle) m lifecycle_lines)
    (optional (spelled key.Artifacts) m artifacts_lines) h) z

pub lifecycle_holds : (o : Option Data) → AllHold (on o chosen_lines) → AllHold (on (inner key.Lifecycle o) lifecycle_lines)
lifecycle_holds None h = tt
lifecycle_holds (Some m) h = hold_first (optional (spelled key.Lifecycle) m lifecycle_lines) (optional (spelled key.Artifacts) m artifacts_lines) h
