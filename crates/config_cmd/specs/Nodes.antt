-- A node of a component's configuration.
use Rattle.std.specs.Prelude.{◌≡◌, ℕ, List, ◌++◌, Option, Some, IsSome, option_map, option_and_then}
use Rattle.serde_json.specs.Data.{Data}
use Rattle.serde_json.specs.Written.{compact_text}
use Rattle.nuc_base.specs.Tables.{Table}
use Rattle.tree_core.specs.Nodes.{node}
use Rattle.tree_core.specs.Parts.{check}
use Rattle.device.specs.Devices.{Device}
use Rattle.device.specs.Lawful.{item_named}
use Rattle.config_cmd.specs.declared.fault.GetFault.{GetFault}
use Rattle.config_cmd.specs.declared.fault.GetFault.TheVariants as fault

-- the configuration of the component of this name in the set
abbrev pub config_in : Device → List ℕ → Option Data
config_in d name = option_map (λ i. i.config) (item_named name d.set)

-- the node of it that a pointer names (RFC 6901)
abbrev pub node_in : Device → List ℕ → List (List ℕ) → Option Data
node_in d name at = option_and_then (node at) (config_in d name)

abbrev pub get_lines : Device → List ℕ → List (List ℕ) → Table GetFault
get_lines d name at = check (IsSome (config_in d name)) fault.NoComponent ++ check (IsSome (node_in d name at)) fault.NoNode

-- the compact text of the node
abbrev pub IsNodeText : Device → List ℕ → List (List ℕ) → List ℕ → Type 0
IsNodeText d name at text = (e : Data) × (node_in d name at ≡ Some e) × (text ≡ compact_text e)
