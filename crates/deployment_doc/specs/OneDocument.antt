-- What two readings of the same bytes have in common.
use Rattle.std.specs.Prelude.{◌≡◌, ℕ, List, Option, Some, None, option_map, Ok, ⊤}
use Rattle.std.specs.List.{AllZip}
use Rattle.tree_core.specs.View.{view}
use Rattle.config_ops.specs.declared.update.Update.{Update}
use Rattle.deployment_doc.specs.Reads.{ReadsDocument}
use Rattle.deployment_doc.specs.declared.document.Document.{Document}
use Rattle.deployment_doc.specs.declared.document.Root.{Root}

-- the bytes are this document
abbrev pub IsDocumentOf : List ℕ → Document → Type 0
IsDocumentOf bytes document = ReadsDocument bytes (Ok document)

-- one update, or none: two trees of one value count as one
abbrev pub AreSameUpdates : Option Update → Option Update → Type 0
AreSameUpdates None None = ⊤
AreSameUpdates None (Some v) = ⊥
AreSameUpdates (Some u) None = ⊥
AreSameUpdates (Some u) (Some v) = (u.resets ≡ v.resets) × (option_map view u.merge ≡ option_map view v.merge)

pub record IsSameRoot (r s : Root) : Type 0 where
  pub name : r.name ≡ s.name
  pub range : r.range ≡ s.range
  pub update : AreSameUpdates r.update s.update

pub record AreAlike (a b : Document) : Type 0 where
  pub id : a.id ≡ b.id
  pub group : a.group ≡ b.group
  pub revision : a.revision ≡ b.revision
  pub policy : a.policy ≡ b.policy
  pub roots : AllZip IsSameRoot a.roots b.roots

-- bytes are one document at most
abbrev pub IsOneDocument : Type 0
IsOneDocument = (bytes : List ℕ) (a b : Document) → IsDocumentOf bytes a → IsDocumentOf bytes b → AreAlike a b
