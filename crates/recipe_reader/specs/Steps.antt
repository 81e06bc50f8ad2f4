-- The steps of a lifecycle.
use Rattle.std.specs.Prelude.{◌≡◌, ◌≢◌, ℕ, ◌*◌, ◌==◌, ◌||◌, Bool, false, List, [], ◌∷◌, ◌++◌, codes, Option, Some, None, IsSome, option_and_then}
use Rattle.std.specs.Prelude.{if◌then◌else◌, ◌⊎◌, ⊤}
use Rattle.serde_json.specs.Data.{Data, null, boolean, number, unsigned, string, array, object}
use Rattle.serde_json.specs.Find.{as_str}
use Rattle.nuc_base.specs.Tables.{Table, on}
use Rattle.nuc_base.specs.declared.kinds.Step.{Step}
use Rattle.nuc_base.specs.declared.kinds.Step.TheVariants.{Install, Run, Startup, Shutdown, Recover, Bootstrap}
use Rattle.tree_core.specs.Counts.{IsCount}
use Rattle.tree_core.specs.Parts.{IsText, IsNumber, IsObject, check}
use Rattle.recipe_reader.specs.Spelled.{spelled}
use Rattle.recipe_reader.specs.Keys.{any_case, keyed, is_doubled}
use Rattle.recipe_reader.specs.Environment.{Variable, environment_lines, AreVariables, IsJoined}
use Rattle.recipe_reader.specs.declared.recipe.Recipe.{Recipe}
use Rattle.recipe_reader.specs.declared.recipe.StepDef.{StepDef}
use Rattle.recipe_reader.specs.declared.recipe.Skip.{Skip}
use Rattle.recipe_reader.specs.declared.recipe.Skip.TheVariants.{OnPath, Exists}
use Rattle.recipe_reader.specs.declared.fault.Key.{Key}
use Rattle.recipe_reader.specs.declared.fault.Key.TheVariants as key
use Rattle.recipe_reader.specs.declared.fault.RecipeFault.{RecipeFault}
use Rattle.recipe_reader.specs.declared.fault.RecipeFault.TheVariants as fault

abbrev pub step_of : Recipe → Step → Option StepDef
step_of recipe Install = recipe.install
step_of recipe Run = recipe.run
step_of recipe Startup = recipe.startup
step_of recipe Shutdown = recipe.shutdown
step_of recipe Recover = recipe.recover
step_of recipe Bootstrap = recipe.bootstrap

-- the key of a step
abbrev pub key_of : Step → Key
key_of Install = key.Install
key_of Run = key.Run
key_of Startup = key.Startup
key_of Shutdown = key.Shutdown
key_of Recover = key.Recover
key_of Bootstrap = key.Bootstrap

-- ---- when a step is skipped

-- a space or a tab
abbrev pub is_blank : ℕ → Bool
is_blank b = b == 32 || b == 9

abbrev pub trim_start : List ℕ → List ℕ
trim_start [] = []
trim_start (x ∷ xs) = if is_blank x then trim_start xs else x ∷ xs

abbrev pub before : ℕ → List ℕ → List ℕ
before x [] = if is_blank x then [] else x ∷ []
before x (y ∷ ys) = x ∷ y ∷ ys

abbrev pub trim_end : List ℕ → List ℕ
trim_end [] = []
trim_end (x ∷ xs) = before x (trim_end xs)

-- without the blanks at both ends
abbrev pub trimmed : List ℕ → List ℕ
trimmed s = trim_end (trim_start s)

-- the word, and behind it t between blanks
pub record IsAsked (word : List ℕ) (v : Data) (t : List ℕ) : Type 0 where
  pub rest : List ℕ
  pub text : v ≡ string (word ++ rest)
  pub argument : t ≡ trimmed rest
  pub some : t ≢ []

abbrev pub IsSkip : Data → Skip → Type 0
IsSkip v (OnPath t) = IsAsked (codes "onpath ") v t
IsSkip v (Exists t) = IsAsked (codes "exists ") v t

abbrev pub skip_lines : Data → Table RecipeFault
skip_lines v = check ((skip : Skip) × IsSkip v skip) fault.BadSkipif

abbrev pub IsSkipOf : Option Data → Option Skip → Type 0
IsSkipOf None None = ⊤
IsSkipOf None (Some skip) = ⊥
IsSkipOf (Some v) None = ⊥
IsSkipOf (Some v) (Some skip) = IsSkip v skip

-- ---- how long a step may take

abbrev pub most_seconds : ℕ
most_seconds = 1000000

abbrev pub timeout_lines : Data → Table RecipeFault
timeout_lines v = check (IsNumber v) (fault.WrongKind key.Timeout) ++ check (IsCount most_seconds v) fault.BadTimeout

-- the limit in milliseconds of a step that gives none
abbrev pub usual_limit : Step → Option ℕ
usual_limit Install = Some 120000
usual_limit Run = None
usual_limit Startup = Some 120000
usual_limit Shutdown = Some 15000
usual_limit Recover = Some 60000
usual_limit Bootstrap = Some 120000

abbrev pub IsLimit : Step → Option Data → Option ℕ → Type 0
IsLimit step None limit = limit ≡ usual_limit step
IsLimit step (Some v) limit = (n : ℕ) × (v ≡ number (unsigned n)) × (limit ≡ Some (n * 1000))

-- ---- a step

abbrev pub doubles : Key → Data → Table RecipeFault
doubles k v = check (is_doubled (spelled k) v ≡ false) (fault.DuplicateKey k)

abbrev pub double_lines : Data → Table RecipeFault
double_lines v = doubles key.Script v ++ doubles key.Skipif v ++ doubles key.Timeout v ++ doubles key.Setenv v

abbrev pub text_lines : Key → Data → Table RecipeFault
text_lines k v = check (IsText v) (fault.WrongKind k)

-- the key is there in some case, and the lines on its value
abbrev pub required_key : Key → Data → (Data → Table RecipeFault) → Table RecipeFault
required_key k v lines = check (IsSome (any_case (spelled k) v)) (fault.Missing k) ++ on (any_case (spelled k) v) lines

abbrev pub script_lines : Data → Table RecipeFault
script_lines v = required_key key.Script v (text_lines key.Script)

abbrev pub object_lines : Data → Table RecipeFault
object_lines v =
    double_lines v
    ++ script_lines v
    ++ on (keyed (spelled key.Skipif) v) skip_lines
    ++ on (keyed (spelled key.Timeout) v) timeout_lines
    ++ on (keyed (spelled key.Setenv) v) environment_lines

-- the value, where it is an object
abbrev pub as_fields : Data → Option Data
as_fields null = None
as_fields (boolean b) = None
as_fields (number n) = None
as_fields (string s) = None
as_fields (array ds) = None
as_fields (object ms) = Some (object ms)

abbrev pub step_lines : Step → Data → Table RecipeFault
step_lines step v = check (IsText v ⊎ IsObject v) (fault.WrongKind (key_of step)) ++ on (as_fields v) object_lines

-- a text is its own script
abbrev pub script_in : Data → Option (List ℕ)
script_in null = None
script_in (boolean b) = None
script_in (number n) = None
script_in (string s) = Some s
script_in (array ds) = None
script_in (object ms) = option_and_then as_str (any_case (spelled key.Script) (object ms))

-- the variables of the step and those of its lifecycle, the own ones first
pub record IsEnvironment (own : Option Data) (outer env : List Variable) : Type 0 where
  pub own_variables : List Variable
  pub are_own : AreVariables own own_variables
  pub joined : IsJoined own_variables outer env

-- the step as its value says, with the variables of the lifecycle
pub record IsStepDef (step : Step) (outer : List Variable) (v : Data) (def : StepDef) : Type 0 where
  pub script : script_in v ≡ Some def.script
  pub skip : IsSkipOf (keyed (spelled key.Skipif) v) def.skip
  pub limit : IsLimit step (keyed (spelled key.Timeout) v) def.limit_ms
  pub env : IsEnvironment (keyed (spelled key.Setenv) v) outer def.env

abbrev pub IsStep : Step → List Variable → Option Data → Option StepDef → Type 0
IsStep step outer None None = ⊤
IsStep step outer None (Some def) = ⊥
IsStep step outer (Some v) None = ⊥
IsStep step outer (Some v) (Some def) = IsStepDef step outer v def
