-- Bytes are one recipe at most, and have no fault where they are one.
use Rattle.std.proofs.Common.{◌≡◌, ◌⊎◌, ℕ, ◌*◌, Bool, List, [], ◌∷◌, Option, Some, None, inl, inr, refl, ap, sym, subst, ◌∙◌, arith}
use Rattle.std.specs.Prelude.{codes}
use Rattle.std.proofs.lemmas.Option.{same_Some}
use Rattle.serde_json.specs.Data.{Data, null, boolean, number, string, array, object}
use Rattle.serde_json.specs.Find.{get}
use Rattle.nuc_base.specs.Tables.{AllHold, IsFirst}
use Rattle.nuc_base.specs.declared.artifact.Artifact.{Artifact}
use Rattle.nuc_base.specs.declared.kinds.Step.{Step}
use Rattle.nuc_base.specs.declared.platform.Platform.{Platform}
use Rattle.nuc_base.proofs.Tables.{first_excludes, first_one}
use Rattle.tree_core.specs.Laws.{IsOneTree, IsOneFault as TreeIsOneFault, HasNoFault as TreeHasNoFault}
use Rattle.tree_core.specs.Parts.{present, members, values}
use Rattle.tree_core.specs.View.{view}
use Rattle.recipe_reader.specs.Backs.{back_read, is_back}
use Rattle.recipe_reader.specs.Artifacts.{IsArtifact, IsDigestOf, AreArtifacts, IsDigest}
use Rattle.recipe_reader.specs.Dependencies.{IsDependency, IsRangeOf, IsHard, AreDependencies}
use Rattle.recipe_reader.specs.Environment.{Variable, IsVariable, AreVariables, IsJoined}
use Rattle.recipe_reader.specs.Keys.{is_same}
use Rattle.recipe_reader.specs.Lifecycles.{key_value, AreSteps}
use Rattle.recipe_reader.specs.OneRecipe.{IsRecipeFor, AreAlike}
use Rattle.recipe_reader.specs.Recipes.{IsRecipe, IsFault, IsDefault, recipe_lines, limit, inner, manifest_of}
use Rattle.recipe_reader.specs.Spelled.{spelled}
use Rattle.recipe_reader.specs.Steps.{IsAsked, IsSkip, IsSkipOf, IsLimit, IsEnvironment, IsStepDef, IsStep, trimmed, step_of, key_of}
use Rattle.recipe_reader.specs.declared.recipe.Dependency.{Dependency}
use Rattle.recipe_reader.specs.declared.recipe.Recipe.{Recipe}
use Rattle.recipe_reader.specs.declared.recipe.Skip.{Skip}
use Rattle.recipe_reader.specs.declared.recipe.Skip.TheVariants.{OnPath, Exists}
use Rattle.recipe_reader.specs.declared.recipe.StepDef.{StepDef}
use Rattle.recipe_reader.specs.declared.fault.Key.TheVariants.{ComponentConfiguration, ComponentDependencies, DefaultConfiguration, Lifecycle, Artifacts}
use Rattle.recipe_reader.specs.declared.fault.Key.TheVariants.{Setenv}
use Rattle.recipe_reader.specs.declared.fault.RecipeFault.{RecipeFault}
use Rattle.recipe_reader.specs.declared.fault.RecipeFault.TheVariants.{NoMemory, Tree}
use Rattle.tree_core.proofs.Among.{zip_one}
use Rattle.recipe_reader.proofs.Digests.{digest_one}
use Rattle.recipe_reader.proofs.Joining.{joined_one}

-- ---- dependencies

range_one : (o : Option Data) (r s : List ℕ) → IsRangeOf o r → IsRangeOf o s → r ≡ s
range_one None r s h k = h ∙ sym k
range_one (Some v) r s h k = cc (h, k)

hard_one : (o : Option Data) (a b : Bool) → IsHard o a → IsHard o b → a ≡ b
hard_one None a b h k = h ∙ sym k
hard_one (Some v) a b h k =
    let e : h.0 ≡ k.0 = cc (h.1, k.1) in
    h.2 ∙ ap (is_same (codes "HARD")) e ∙ sym k.2

abbrev dependency : List ℕ → List ℕ → Bool → Dependency
dependency name range hard = record { name = name; range = range; hard = hard }

dependency_one : (m : List ℕ × Data) (d e : Dependency) → IsDependency m d → IsDependency m e → d ≡ e
dependency_one m d e h k =
    let name = h.name ∙ sym k.name in
    let range = range_one _ d.range e.range h.range k.range in
    let hard = hard_one _ d.hard e.hard h.kind k.kind in
    ap (λ n. dependency n d.range d.hard) name ∙ ap (λ r. dependency e.name r d.hard) range ∙ ap (dependency e.name e.range) hard

dependencies_one : (o : Option Data) (ds es : List Dependency) → AreDependencies o ds → AreDependencies o es → ds ≡ es
dependencies_one None ds es h k = h ∙ sym k
dependencies_one (Some v) ds es h k = zip_one IsDependency dependency_one (members v) ds es h k

-- ---- artifacts

digest_of_one : (o : Option Data) (d e : Option (List ℕ)) → IsDigestOf o d → IsDigestOf o e → d ≡ e
digest_of_one None None None h k = refl
digest_of_one None None (Some e) h k = absurd k
digest_of_one None (Some d) e h k = absurd h
digest_of_one (Some v) None e h k = absurd h
digest_of_one (Some v) (Some d) None h k = absurd k
digest_of_one (Some v) (Some d) (Some e) h k =
    let same : h.0 ≡ k.0 = cc (h.1, k.1) in
    ap Some (digest_one k.0 d e (subst (λ s. IsDigest s d) same h.2) k.2)

abbrev artifact : List ℕ → Option (List ℕ) → Artifact
artifact file digest = record { file = file; digest = digest }

artifact_one : (v : Data) (a b : Artifact) → IsArtifact v a → IsArtifact v b → a ≡ b
artifact_one v a b h k =
    let file = h.file ∙ sym k.file in
    let digest = digest_of_one _ a.digest b.digest h.digest k.digest in
    ap (λ f. artifact f a.digest) file ∙ ap (artifact b.file) digest

artifacts_one : (o : Option Data) (xs ys : List Artifact) → AreArtifacts o xs → AreArtifacts o ys → xs ≡ ys
artifacts_one None xs ys h k = h ∙ sym k
artifacts_one (Some v) xs ys h k = zip_one IsArtifact artifact_one (values v) xs ys h k

-- ---- steps

on_path_one : (v : Data) (s t : List ℕ) → IsAsked (codes "onpath ") v s → IsAsked (codes "onpath ") v t → s ≡ t
on_path_one v s t h k =
    let rest : h.rest ≡ k.rest = cc (sym h.text ∙ k.text) in
    h.argument ∙ ap trimmed rest ∙ sym k.argument

exists_one : (v : Data) (s t : List ℕ) → IsAsked (codes "exists ") v s → IsAsked (codes "exists ") v t → s ≡ t
exists_one v s t h k =
    let rest : h.rest ≡ k.rest = cc (sym h.text ∙ k.text) in
    h.argument ∙ ap trimmed rest ∙ sym k.argument

abbrev first_byte : Data → ℕ
first_byte null = 0
first_byte (boolean b) = 0
first_byte (number n) = 0
first_byte (string []) = 0
first_byte (string (b ∷ s)) = b
first_byte (array ds) = 0
first_byte (object ms) = 0

differ : (a b : ℕ) → a ≡ 111 → b ≡ 101 → a ≡ b → ⊥
differ a b is other e = omega (arith, is, other, e)

other_word : (v : Data) (s t : List ℕ) → IsAsked (codes "onpath ") v s → IsAsked (codes "exists ") v t → ⊥
other_word v s t h k = differ 111 101 refl refl (ap first_byte (sym h.text ∙ k.text))

skip_one : (v : Data) (a b : Skip) → IsSkip v a → IsSkip v b → a ≡ b
skip_one v (OnPath s) (OnPath t) h k = ap OnPath (on_path_one v s t h k)
skip_one v (OnPath s) (Exists t) h k = absurd (other_word v s t h k)
skip_one v (Exists s) (OnPath t) h k = absurd (other_word v t s k h)
skip_one v (Exists s) (Exists t) h k = ap Exists (exists_one v s t h k)

skip_of_one : (o : Option Data) (a b : Option Skip) → IsSkipOf o a → IsSkipOf o b → a ≡ b
skip_of_one None None None h k = refl
skip_of_one None None (Some b) h k = absurd k
skip_of_one None (Some a) b h k = absurd h
skip_of_one (Some v) None b h k = absurd h
skip_of_one (Some v) (Some a) None h k = absurd k
skip_of_one (Some v) (Some a) (Some b) h k = ap Some (skip_one v a b h k)

limit_one : (step : Step) (o : Option Data) (a b : Option ℕ) → IsLimit step o a → IsLimit step o b → a ≡ b
limit_one step None a b h k = h ∙ sym k
limit_one step (Some v) a b h k =
    let same : h.0 ≡ k.0 = cc (sym h.1 ∙ k.1) in
    h.2 ∙ ap (λ n. Some (n * 1000)) same ∙ sym k.2

abbrev pair : List ℕ → List ℕ → Variable
pair name value = (name, value)

variable_one : (m : List ℕ × Data) (x y : Variable) → IsVariable m x → IsVariable m y → x ≡ y
variable_one m x y h k =
    let value = same_Some x.1 y.1 (sym h.1 ∙ k.1) in
    ap (λ n. pair n x.1) (h.0 ∙ sym k.0) ∙ ap (pair y.0) value

variables_one : (o : Option Data) (xs ys : List Variable) → AreVariables o xs → AreVariables o ys → xs ≡ ys
variables_one None xs ys h k = h ∙ sym k
variables_one (Some v) xs ys h k = zip_one IsVariable variable_one (members v) xs ys h k

environment_one : (own : Option Data) (outer a b : List Variable) → IsEnvironment own outer a → IsEnvironment own outer b → a ≡ b
environment_one own outer a b h k =
    let same = variables_one own h.own_variables k.own_variables h.are_own k.are_own in
    joined_one k.own_variables outer a b (subst (λ (xs : List Variable). IsJoined xs outer a) same h.joined) k.joined

abbrev def : List ℕ → Option Skip → Option ℕ → List Variable → StepDef
def script skip limit_ms env = record { script = script; skip = skip; limit_ms = limit_ms; env = env }

def_one : (step : Step) (outer : List Variable) (v : Data) (a b : StepDef) → IsStepDef step outer v a → IsStepDef step outer v b → a ≡ b
def_one step outer v a b h k =
    let script = same_Some a.script b.script (sym h.script ∙ k.script) in
    let skip = skip_of_one _ a.skip b.skip h.skip k.skip in
    let limit = limit_one step _ a.limit_ms b.limit_ms h.limit k.limit in
    let env = environment_one _ outer a.env b.env h.env k.env in
    ap (λ s. def s a.skip a.limit_ms a.env) script
    ∙ ap (λ s. def b.script s a.limit_ms a.env) skip
    ∙ ap (λ l. def b.script b.skip l a.env) limit
    ∙ ap (def b.script b.skip b.limit_ms) env

step_one : (step : Step) (outer : List Variable) (v : Option Data) (a b : Option StepDef) → IsStep step outer v a → IsStep step outer v b → a ≡ b
step_one step outer None None None h k = refl
step_one step outer None None (Some b) h k = absurd k
step_one step outer None (Some a) b h k = absurd h
step_one step outer (Some v) None b h k = absurd h
step_one step outer (Some v) (Some a) None h k = absurd k
step_one step outer (Some v) (Some a) (Some b) h k = ap Some (def_one step outer v a b h k)

steps_one : (lifecycle : Option Data) (a b : Step → Option StepDef) → AreSteps lifecycle a → AreSteps lifecycle b → (step : Step) → a step ≡ b step
steps_one lifecycle a b h k step =
    let same = variables_one (key_value Setenv lifecycle) h.outer k.outer h.are_outer k.are_outer in
    step_one step k.outer (key_value (key_of step) lifecycle) (a step) (b step)
    (subst (λ (xs : List Variable). IsStep step xs (key_value (key_of step) lifecycle) (a step)) same (h.steps step))
    (k.steps step)

-- ---- the default configuration

default_one : (o : Option Data) (c d : Data) → IsDefault o c → IsDefault o d → c ≡ d
default_one None c d h k = h ∙ sym k
default_one (Some v) c d h k = h ∙ sym k

-- ---- the whole

recipe_one : (platform : Platform) (d : Data) (r s : Recipe) → IsRecipe platform d r → IsRecipe platform d s → AreAlike r s
recipe_one platform d r s h k = record {
  name = cc (h.name, k.name);
  version = cc (h.version, k.version);
  dependencies = dependencies_one (present (get (spelled ComponentDependencies) d)) r.dependencies s.dependencies h.dependencies k.dependencies;
  default_config = default_one (inner DefaultConfiguration (present (get (spelled ComponentConfiguration) d))) (view r.default_config)
      (view s.default_config) h.default_config k.default_config;
  steps = steps_one (inner Lifecycle (manifest_of platform d)) (step_of r) (step_of s) h.steps k.steps;
  boot_back = h.boot_back ∙ sym k.boot_back;
  artifacts = artifacts_one (inner Artifacts (manifest_of platform d)) r.artifacts s.artifacts h.artifacts k.artifacts;
}

-- the bytes say of the way back what their recipe says
pub reads_back : (bytes : List ℕ) (platform : Platform) (r : Recipe) → IsRecipeFor bytes platform r → r.boot_back ≡ is_back platform bytes
unfolding is_back
reads_back bytes platform r h = h.3.boot_back ∙ sym (ap (back_read platform) h.1.json.value)

module _ (one_tree : IsOneTree) (no_fault : TreeHasNoFault) (bytes : List ℕ) (platform : Platform) where
  pub reads_one : (r s : Recipe) → IsRecipeFor bytes platform r → IsRecipeFor bytes platform s → AreAlike r s
  reads_one r s h k =
      recipe_one platform k.0 r s (subst (λ (d : Data). IsRecipe platform d r) (one_tree bytes limit h.0 k.0 h.1 k.1) h.3) k.3

  pub fault_none : (r : Recipe) (f : RecipeFault) → IsRecipeFor bytes platform r → (f ≡ NoMemory) ⊎ IsFault bytes platform f → f ≡ NoMemory
  fault_none r f h (inl k) = k
  fault_none r f h (inr (inl k)) = absurd (k.3 (no_fault bytes limit h.0 k.0 h.1 k.2))
  fault_none r f h (inr (inr k)) =
      absurd (first_excludes (recipe_lines platform k.0) f (subst (λ (d : Data). AllHold (recipe_lines platform d)) (one_tree bytes limit h.0 k.0 h.1 k.1)
      h.2) k.2)

module _ (one_tree : IsOneTree) (no_fault : TreeHasNoFault) (one_fault : TreeIsOneFault) (bytes : List ℕ) (platform : Platform) where
  pub fault_one : (f g : RecipeFault) → IsFault bytes platform f → IsFault bytes platform g → f ≡ g
  fault_one f g (inl a) (inl b) = a.1 ∙ ap Tree (one_fault bytes limit a.0 b.0 a.2 b.2 a.3 b.3) ∙ sym b.1
  fault_one f g (inl a) (inr b) = absurd (a.3 (no_fault bytes limit b.0 a.0 b.1 a.2))
  fault_one f g (inr a) (inl b) = absurd (b.3 (no_fault bytes limit a.0 b.0 a.1 b.2))
  fault_one f g (inr a) (inr b) =
      first_one (recipe_lines platform b.0) f g (subst (λ (d : Data). IsFirst (recipe_lines platform d) f) (one_tree bytes limit a.0 b.0 a.1 b.1) a.2) b.2
