-- The document of a change: its component's group asks what it asks already.
use Rattle.std.specs.Prelude.{◌≡◌, ℕ, List, ◌++◌, Bool, map, find, Option, Some, None, IsSome, if◌then◌else◌}
use Rattle.std.specs.List.{list_any}
use Rattle.std.specs.Str.{bytes_eq}
use Rattle.nuc_base.specs.Tables.{Table}
use Rattle.nuc_base.specs.declared.kinds.Policy.TheVariants.{Rollback}
use Rattle.tree_core.specs.Parts.{check}
use Rattle.config_ops.specs.declared.update.Update.{Update}
use Rattle.records.specs.declared.record.Group.{Group}
use Rattle.records.specs.declared.record.Requirement.{Requirement}
use Rattle.deployment_doc.specs.declared.document.Document.{Document}
use Rattle.deployment_doc.specs.declared.document.Root.{Root}
use Rattle.device.specs.Devices.{Device}
use Rattle.device.specs.Lawful.{item_named}
use Rattle.config_cmd.specs.declared.change.Change.{Change}
use Rattle.config_cmd.specs.declared.fault.SetFault.{SetFault}
use Rattle.config_cmd.specs.declared.fault.SetFault.TheVariants as fault

-- the group requires the component of this name
abbrev pub requires_name : List ℕ → Group → Bool
requires_name name g = list_any (λ r. bytes_eq name r.name) g.requirements

-- the first group that does, in the order in which they joined
abbrev pub group_for : List ℕ → List Group → Option Group
group_for name groups = find (requires_name name) groups

abbrev pub set_lines : Device → List ℕ → Table SetFault
set_lines d name = check (IsSome (item_named name d.set)) fault.NoComponent ++ check (IsSome (group_for name d.groups)) fault.NotListed

-- the requirement as it stands, with the update where it is of this name
abbrev pub root_for : List ℕ → Update → Requirement → Root
root_for name update r = record { name = r.name; range = r.range; update = if bytes_eq name r.name then Some update else None }

pub record IsChangeDocument (d : Device) (name : List ℕ) (change : Change) (document : Document) : Type 0 where
  pub group : Group
  pub first : group_for name d.groups ≡ Some group
  pub id : document.id ≡ change.id
  pub named : document.group ≡ group.arn
  pub revision : document.revision ≡ 0
  pub policy : document.policy ≡ Rollback
  pub roots : document.roots ≡ map (root_for name change.update) group.requirements
