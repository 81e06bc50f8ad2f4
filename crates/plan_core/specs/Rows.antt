-- Small devices, candidates and documents, and what plans have of them.
use Rattle.std.specs.Prelude.{◌≡◌, ℕ, true, false, List, [], ◌∷◌, Option, Some, None, codes, ⊤, replicate}
use Rattle.serde_json.specs.Data.{Data, number, object, no_members, member, unsigned}
use Rattle.tree_core.specs.declared.tree.Tree.{Tree}
use Rattle.tree_core.specs.declared.tree.Tree.TheVariants as tree
use Rattle.tree_core.specs.View.{view}
use Rattle.nuc_base.specs.declared.artifact.Artifact.{Artifact}
use Rattle.nuc_base.specs.declared.kinds.Policy.TheVariants as policies
use Rattle.recipe_reader.specs.Members.{Need}
use Rattle.recipe_reader.specs.declared.candidate.Candidate.{Candidate}
use Rattle.recipe_reader.specs.declared.recipe.Dependency.{Dependency}
use Rattle.recipe_reader.specs.declared.recipe.Recipe.{Recipe}
use Rattle.dep_order.specs.declared.Edges.{Edges}
use Rattle.records.specs.Stored.{Item}
use Rattle.records.specs.declared.record.Held.{Held}
use Rattle.records.specs.declared.record.Requirement.{Requirement}
use Rattle.records.specs.declared.record.Group.{Group}
use Rattle.config_ops.specs.declared.update.Update.{Update}
use Rattle.deployment_doc.specs.declared.document.Document.{Document}
use Rattle.deployment_doc.specs.declared.document.Root.{Root}
use Rattle.plan_core.specs.Requests.{wanted_of}
use Rattle.plan_core.specs.Set.{config_of, item_in, artifact_of}
use Rattle.plan_core.specs.Boots.{edges_of, ArePicked}

-- ---- parts

abbrev pub requirement : List ℕ → List ℕ → Requirement
requirement n r = record { name = n; range = r }

abbrev pub need : List ℕ → List ℕ → Need
need n r = record { name = n; range = r }

abbrev pub group : List ℕ → List Requirement → Group
group arn requirements = record { arn = arn; revision = 0; requirements = requirements }

abbrev pub root : List ℕ → List ℕ → Option Update → Root
root n r update = record { name = n; range = r; update = update }

abbrev pub document : List ℕ → List Root → Document
document group roots = record { id = codes "d"; group = group; revision = 0; policy = policies.Rollback; roots = roots }

abbrev pub recipe : List ℕ → List ℕ → Tree → List Dependency → List Artifact → Recipe
recipe n v default dependencies artifacts = record {
  name = n;
  version = v;
  default_config = default;
  dependencies = dependencies;
  install = None;
  run = None;
  startup = None;
  shutdown = None;
  recover = None;
  bootstrap = None;
  boot_back = false;
  artifacts = artifacts;
}

abbrev pub candidate : Recipe → Candidate
candidate r = record { recipe = r; bytes = [] }

abbrev pub dependency : List ℕ → Dependency
dependency n = record { name = n; range = codes "*"; hard = true }

abbrev pub item : List ℕ → List ℕ → Data → List Held → Item
item n v config artifacts = record { name = n; version = v; recipe = []; config = config; artifacts = artifacts }

-- the JSON value {"key":n}
abbrev pub count_data : List ℕ → ℕ → Data
count_data key n = object (member key (number (unsigned n)) no_members)

-- ---- rows

-- group `ga` wants X >=1.0.0 <2.0.0, and a document of `gb` X ~1.2: both are wanted, and of `gb` nothing else
abbrev pub TwoGroups : Type 0
TwoGroups =
    wanted_of
    (group (codes "ga") (requirement (codes "X") (codes ">=1.0.0 <2.0.0") ∷ []) ∷ group (codes "gb") (requirement (codes "Y") (codes "*") ∷ []) ∷ [])
    (document (codes "gb") (root (codes "X") (codes "~1.2") None ∷ []))
    ≡ need (codes "X") (codes ">=1.0.0 <2.0.0") ∷ need (codes "X") (codes "~1.2") ∷ []

-- what the set has of a component is the start, also in another version
abbrev pub KeepsConfig : Type 0
KeepsConfig = (default : Tree) → view default ≡ count_data (codes "n") 1
    → config_of (item (codes "X") (codes "1.0.0") (count_data (codes "n") 5) [] ∷ []) [] (recipe (codes "X") (codes "2.0.0") default [] [])
    ≡ count_data (codes "n") 5

-- and the default of a new one
abbrev pub TakesDefault : Type 0
TakesDefault = (default : Tree) → view default ≡ count_data (codes "n") 1
    → config_of (item (codes "Y") (codes "1.0.0") (count_data (codes "n") 5) [] ∷ []) [] (recipe (codes "X") (codes "2.0.0") default [] [])
    ≡ count_data (codes "n") 1

abbrev pub digest : ℕ → List ℕ
digest b = replicate 32 b

abbrev pub file : Option (List ℕ) → Artifact
file d = record { file = codes "f"; digest = d }

abbrev pub with_file : Item
with_file = item (codes "X") (codes "1.0.0") (object no_members) (record { file = codes "f"; digest = digest 7 } ∷ [])

-- a kept version's artifact has the kept digest
abbrev pub KeepsDigest : Type 0
KeepsDigest = artifact_of (item_in (codes "X") (codes "1.0.0") (with_file ∷ [])) (file None) ≡ file (Some (digest 7))

-- another version's what its recipe says
abbrev pub TakesRecipeDigest : Type 0
TakesRecipeDigest = artifact_of (item_in (codes "X") (codes "1.0.1") (with_file ∷ [])) (file None) ≡ file None

-- A needs B
abbrev pub pair : List Candidate
pair =
    candidate (recipe (codes "A") (codes "1.0.0") tree.Null (dependency (codes "B") ∷ []) [])
    ∷ candidate (recipe (codes "B") (codes "1.0.0") tree.Null [] [])
    ∷ []

abbrev pub pair_edges : Edges
pair_edges = record { nodes = 2; needs = record { from = 0; to = 1; hard = true } ∷ [] }

abbrev pub OrdersNeeds : Type 0
OrdersNeeds = edges_of pair ≡ pair_edges

-- B comes before A
abbrev pub BootsInOrder : Type 0
BootsInOrder = ArePicked (λ p. ⊤) pair (1 ∷ 0 ∷ []) (codes "B" ∷ codes "A" ∷ [])
