-- What `status` prints of a device: lines, or one JSON text.
use Rattle.std.specs.Prelude.{ℕ, List, [], ◌∷◌, ◌++◌, ◌==◌, if◌then◌else◌, map, Option, Some, None, codes, decimal}
use Rattle.std.specs.List.{flat_map}
use Rattle.serde_json.specs.Data.{Data, unsigned, null, number, string, array, object, no_members, member}
use Rattle.serde_json.specs.Written.{compact_text}
use Rattle.nuc_base.specs.declared.kinds.Outcome.{Outcome}
use Rattle.tree_core.specs.View.{items_of, pair_data}
use Rattle.records.specs.Stored.{Item}
use Rattle.records.specs.declared.record.Origin.{Origin}
use Rattle.records.specs.declared.record.Requirement.{Requirement}
use Rattle.device.specs.Devices.{Device, Pending}
use Rattle.records.specs.declared.record.Group.{Group}
use Rattle.status_text.specs.Words.{outcome_text, stage_text}

-- ---- lines

-- a word, more words with a space before each, and a line feed
abbrev pub line : List ℕ → List (List ℕ) → List ℕ
line word more = word ++ flat_map (λ w. 32 ∷ w) more ++ 10 ∷ []

-- a device has an origin from its first record on
abbrev pub origin_lines : Option Origin → List ℕ
origin_lines None = []
origin_lines (Some o) = line (codes "thing") (o.thing ∷ []) ++ line (codes "nucleus") (o.nucleus ∷ [])

abbrev pub requirement_line : Requirement → List ℕ
requirement_line r = line (codes "require") (r.name ∷ r.range ∷ [])

-- a group without a revision has no such line
abbrev pub revision_line : ℕ → List ℕ
revision_line n = if n == 0 then [] else line (codes "revision") (decimal n ∷ [])

abbrev pub group_lines : Group → List ℕ
group_lines g = line (codes "group") (g.arn ∷ []) ++ revision_line g.revision ++ flat_map requirement_line g.requirements

abbrev pub component_line : Item → List ℕ
component_line i = line (codes "component") (i.name ∷ i.version ∷ compact_text i.config ∷ [])

abbrev pub closed_line : List ℕ × Outcome → List ℕ
closed_line c = line (codes "closed") (c.0 ∷ outcome_text c.1 ∷ [])

abbrev pub pending_lines : Option Pending → List ℕ
pending_lines None = []
pending_lines (Some p) = line (codes "pending") (p.plan.id ∷ stage_text p.stage ∷ [])

-- Groups stand in the order in which they joined, components in that of the set, and closed deployments in the order
-- in which they closed.
abbrev pub status_text : Device → List ℕ
status_text d =
    origin_lines d.origin
    ++ flat_map group_lines d.groups
    ++ flat_map component_line d.set
    ++ flat_map closed_line d.closed
    ++ pending_lines d.pending

-- ---- the same as a tree, whose keys are in byte order

-- a list of what each element is shown as
abbrev pub list_tree : {A : Type 0} → (A → Data) → List A → Data
list_tree tree_of xs = array (items_of (map tree_of xs))

abbrev pub closed_tree : List ℕ × Outcome → Data
closed_tree c = pair_data (codes "id") c.0 (codes "outcome") (outcome_text c.1)

abbrev pub component_tree : Item → Data
component_tree i = object (
    member (codes "config") i.config (
    member (codes "name") (string i.name) (
    member (codes "version") (string i.version) no_members)))

abbrev pub requirement_tree : Requirement → Data
requirement_tree r = pair_data (codes "name") r.name (codes "range") r.range

abbrev pub group_tree : Group → Data
group_tree g = object (
    member (codes "arn") (string g.arn) (
    member (codes "components") (list_tree requirement_tree g.requirements) (
    member (codes "revision") (number (unsigned g.revision)) no_members)))

abbrev pub nucleus_tree : Option Origin → Data
nucleus_tree None = null
nucleus_tree (Some o) = string o.nucleus

abbrev pub pending_tree : Option Pending → Data
pending_tree None = null
pending_tree (Some p) = pair_data (codes "id") p.plan.id (codes "stage") (stage_text p.stage)

abbrev pub thing_tree : Option Origin → Data
thing_tree None = null
thing_tree (Some o) = string o.thing

abbrev pub status_tree : Device → Data
status_tree d = object (
    member (codes "closed") (list_tree closed_tree d.closed) (
    member (codes "components") (list_tree component_tree d.set) (
    member (codes "groups") (list_tree group_tree d.groups) (
    member (codes "nucleus") (nucleus_tree d.origin) (
    member (codes "pending") (pending_tree d.pending) (
    member (codes "thing") (thing_tree d.origin) no_members))))))
