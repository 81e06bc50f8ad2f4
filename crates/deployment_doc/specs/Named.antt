-- The document that the lines name.
use Rattle.std.specs.Prelude.{◌≡◌, ℕ, List, [], codes, Option, Some, None, ⊤}
use Rattle.std.specs.List.{AllZip}
use Rattle.serde_json.specs.Data.{Data, number, unsigned, string}
use Rattle.serde_json.specs.Find.{get}
use Rattle.sha2.specs.Sha256.{sha256}
use Rattle.hex.specs.Hex.{encode_lower}
use Rattle.nuc_base.specs.Pointers.{tokens}
use Rattle.nuc_base.specs.declared.kinds.Policy.{Policy}
use Rattle.nuc_base.specs.declared.kinds.Policy.TheVariants.{Rollback, DoNothing}
use Rattle.tree_core.specs.Parts.{present, members, values}
use Rattle.tree_core.specs.Regular.{IsRegular}
use Rattle.tree_core.specs.View.{view}
use Rattle.tree_core.specs.declared.tree.Tree.{Tree}
use Rattle.config_ops.specs.declared.update.Update.{Update}
use Rattle.deployment_doc.specs.Lines.{reset_in, merge_in, IsMergeObject}
use Rattle.deployment_doc.specs.Spelled.{spelled}
use Rattle.deployment_doc.specs.declared.fault.Key.TheVariants as key
use Rattle.deployment_doc.specs.declared.document.Document.{Document}
use Rattle.deployment_doc.specs.declared.document.Root.{Root}

-- the id, or where there is none the SHA-256 of the bytes (FIPS 180-4) in lower-case hexadecimal digits
abbrev pub IsId : List ℕ → Option Data → List ℕ → Type 0
IsId bytes None id = id ≡ encode_lower (sha256 bytes)
IsId bytes (Some v) id = v ≡ string id

-- the revision, or where there is none 0
abbrev pub IsRevision : Option Data → ℕ → Type 0
IsRevision None revision = revision ≡ 0
IsRevision (Some v) revision = v ≡ number (unsigned revision)

abbrev pub policy_word : Policy → List ℕ
policy_word Rollback = codes "ROLLBACK"
policy_word DoNothing = codes "DO_NOTHING"

-- the policy, or where there is none the rollback
abbrev pub IsPolicy : Option Data → Policy → Type 0
IsPolicy None policy = policy ≡ Rollback
IsPolicy (Some v) policy = v ≡ string (policy_word policy)

-- the value of a key of a value that may be absent
abbrev pub inner : Option Data → List ℕ → Option Data
inner None k = None
inner (Some v) k = present (get k v)

-- the components in key order
abbrev pub components : Option Data → List (List ℕ × Data)
components None = []
components (Some v) = members v

abbrev pub IsReset : Data → List (List ℕ) → Type 0
IsReset v p = (s : List ℕ) × (v ≡ string s) × (p ≡ tokens s)

abbrev pub AreResets : Option Data → List (List (List ℕ)) → Type 0
AreResets None resets = resets ≡ []
AreResets (Some v) resets = AllZip IsReset (values v) resets

-- the tree of an object, which is regular
abbrev pub IsMerge : Option Data → Option Tree → Type 0
IsMerge None None = ⊤
IsMerge None (Some t) = ⊥
IsMerge (Some v) None = ⊥
IsMerge (Some v) (Some t) = IsMergeObject v (view t) × IsRegular (view t)

pub record IsUpdateOf (v : Data) (update : Update) : Type 0 where
  pub resets : AreResets (reset_in v) update.resets
  pub merge : IsMerge (merge_in v) update.merge

abbrev pub IsUpdate : Option Data → Option Update → Type 0
IsUpdate None None = ⊤
IsUpdate None (Some u) = ⊥
IsUpdate (Some v) None = ⊥
IsUpdate (Some v) (Some u) = IsUpdateOf v u

pub record IsRoot (m : List ℕ × Data) (root : Root) : Type 0 where
  pub name : root.name ≡ m.0
  pub range : get (spelled key.ComponentVersion) m.1 ≡ Some (string root.range)
  pub update : IsUpdate (present (get (spelled key.ConfigurationUpdate) m.1)) root.update

pub record IsDocument (bytes : List ℕ) (d : Data) (document : Document) : Type 0 where
  pub id : IsId bytes (present (get (spelled key.DeploymentId) d)) document.id
  pub group : get (spelled key.TargetArn) d ≡ Some (string document.group)
  pub revision : IsRevision (present (get (spelled key.Revision) d)) document.revision
  pub policy : IsPolicy (inner (present (get (spelled key.DeploymentPolicies) d)) (spelled key.FailureHandlingPolicy)) document.policy
  pub roots : AllZip IsRoot (components (present (get (spelled key.Components) d))) document.roots
