-- The change that bytes ask for: the lines by which it is read, in their order, and what they name.
-- (AWS IoT Greengrass V2 developer guide, "Update component configurations".)
use Rattle.std.specs.Prelude.{◌≡◌, ◌⊎◌, ℕ, List, ◌++◌, Some, Result, MatchResult}
use Rattle.serde_json.specs.Data.{Data, string}
use Rattle.serde_json.specs.Find.{get}
use Rattle.nuc_base.specs.Tables.{Table, AllHold, IsFirst}
use Rattle.tree_core.specs.Parts.{IsObject, check}
use Rattle.tree_core.specs.Reading.{IsTreeOf, IsFirstFault}
use Rattle.tree_core.specs.declared.fault.TreeFault.{TreeFault}
use Rattle.tree_core.specs.declared.fault.TreeFault.TheVariants as tree
use Rattle.deployment_doc.specs.Lines.{text_limit, at_required, label_lines, update_lines}
use Rattle.deployment_doc.specs.Named.{IsUpdateOf}
use Rattle.deployment_doc.specs.Spelled.{spelled}
use Rattle.deployment_doc.specs.declared.fault.DocFault.{DocFault}
use Rattle.deployment_doc.specs.declared.fault.DocFault.TheVariants as fault
use Rattle.deployment_doc.specs.declared.fault.Key.TheVariants as key
use Rattle.config_cmd.specs.declared.change.Change.{Change}

-- an object with an id, which is the update of the component of this name as well
abbrev pub change_lines : List ℕ → Data → Table DocFault
change_lines name d =
    check (IsObject d) (fault.WrongKind key.Document)
    ++ at_required key.DeploymentId d (label_lines key.DeploymentId)
    ++ update_lines name d

pub record IsChange (d : Data) (change : Change) : Type 0 where
  pub id : get (spelled key.DeploymentId) d ≡ Some (string change.id)
  pub update : IsUpdateOf d change.update

-- The fault of the first line that fails, where the first line of all asks that the bytes are a tree.
abbrev pub IsChangeFault : List ℕ → List ℕ → DocFault → Type 0
IsChangeFault name bytes f =
    ((t : TreeFault) × (f ≡ fault.Tree t) × IsFirstFault bytes text_limit t × (t ≡ tree.NoMemory → ⊥))
    ⊎ ((d : Data) × IsTreeOf bytes text_limit d × IsFirst (change_lines name d) f)

-- The change that the lines name where none fails, else the fault of the first that does. Want of memory is free.
abbrev pub ReadsChange : List ℕ → List ℕ → Result Change DocFault → Type 0
ReadsChange name bytes result = MatchResult result
    (λ change. (d : Data) × IsTreeOf bytes text_limit d × AllHold (change_lines name d) × IsChange d change)
    (λ f. (f ≡ fault.NoMemory) ⊎ IsChangeFault name bytes f)
