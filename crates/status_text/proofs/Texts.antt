-- What is written with literal keys is the compact text of the objects.
use Rattle.std.proofs.Common.{◌≡◌, ℕ, List, [], ◌∷◌, ◌++◌, map, refl, ap, append_assoc, Some}
use Rattle.std.specs.List.{AllByRecursion}
use Rattle.std.specs.Prelude.{codes, decimal}
use Rattle.json.specs.Print.{quoted, escape_byte}
use Rattle.serde_json.specs.Data.{Data, unsigned, number, string, object, no_members, member}
use Rattle.serde_json.specs.Written.{compact_text}
use Rattle.tree_core.specs.Regular.{IsRegular}
use Rattle.tree_core.specs.View.{view, pair_data}
use Rattle.records.specs.Stored.{item_view}
use Rattle.records.specs.declared.record.Item as code
use Rattle.records.specs.declared.record.Origin.{Origin}
use Rattle.device.specs.Devices.{Device}
use Rattle.status_text.specs.Regularity.{AreRegular}
use Rattle.status_text.specs.Status.{list_tree, closed_tree, component_tree, group_tree, pending_tree, status_tree}

pub closed_text : (id outcome : List ℕ) → codes "{\"id\":" ++ (quoted id ++ (codes ",\"outcome\":" ++ (quoted outcome ++ codes "}"))) ≡ compact_text
    (pair_data (codes "id") id (codes "outcome") outcome)
unfolding escape_byte
closed_text id outcome = refl

pub requirement_text : (name range : List ℕ) → codes "{\"name\":" ++ (quoted name ++ (codes ",\"range\":" ++ (quoted range ++ codes "}"))) ≡ compact_text
    (pair_data (codes "name") name (codes "range") range)
unfolding escape_byte
requirement_text name range = refl

pub pending_text : (id stage : List ℕ) → codes "{\"id\":" ++ (quoted id ++ (codes ",\"stage\":" ++ (quoted stage ++ codes "}"))) ≡ compact_text
    (pair_data (codes "id") id (codes "stage") stage)
unfolding escape_byte
pending_text id stage = refl

pub component_text : (config : Data) (name version : List ℕ) →
    codes "{\"config\":" ++ (compact_text config ++ (codes ",\"name\":" ++ (quoted name ++ (codes ",\"version\":" ++ (quoted version ++ codes "}")))))
    ≡ compact_text (object (member (codes "config") config (member (codes "name") (string name) (member (codes "version") (string version) no_members))))
unfolding escape_byte
component_text config name version = refl

pub group_text : (arn : List ℕ) (components : Data) (revision : ℕ) →
    codes "{\"arn\":" ++ (quoted arn ++ (codes ",\"components\":"
    ++ (compact_text components ++ (codes ",\"revision\":" ++ (decimal revision ++ codes "}"))))) ≡ compact_text
    (object (member (codes "arn") (string arn) (member (codes "components") components (member (codes "revision") (number (unsigned revision)) no_members))))
unfolding escape_byte
group_text arn components revision = refl

pub device_text : (closed components groups pending : Data) (nucleus thing : List ℕ) →
    (codes "{\"closed\":" ++ (compact_text closed ++ (codes ",\"components\":"
    ++ (compact_text components ++ (codes ",\"groups\":" ++ compact_text groups)))))
    ++ (codes ",\"nucleus\":" ++ (quoted nucleus ++ (codes ",\"pending\":"
    ++ (compact_text pending ++ (codes ",\"thing\":" ++ (quoted thing ++ codes "}")))))) ≡ compact_text
    (object (member (codes "closed") closed (member (codes "components") components
    (member (codes "groups") groups (member (codes "nucleus") (string nucleus)
    (member (codes "pending") pending (member (codes "thing") (string thing) no_members)))))))
unfolding escape_byte
device_text closed components groups pending nucleus thing = simp append_assoc

-- with the origin that the device has
pub status_shown : (d : Device) (o : Origin) → d.origin ≡ Some o
    → (codes "{\"closed\":" ++ (compact_text (list_tree closed_tree d.closed)
    ++ (codes ",\"components\":" ++ (compact_text (list_tree component_tree d.set)
    ++ (codes ",\"groups\":" ++ compact_text (list_tree group_tree d.groups))))))
    ++ (codes ",\"nucleus\":" ++ (quoted o.nucleus ++ (codes ",\"pending\":"
    ++ (compact_text (pending_tree d.pending) ++ (codes ",\"thing\":" ++ (quoted o.thing ++ codes "}"))))))
    ≡ compact_text (status_tree d)
status_shown d o is = rw is (device_text (list_tree closed_tree d.closed) (list_tree component_tree d.set) (list_tree group_tree d.groups)
    (pending_tree d.pending) o.nucleus o.thing)

-- the configurations of items as they are stored
pub can_show : (items : List code.Item) → AreRegular (map item_view items) → AllByRecursion (λ (i : code.Item). IsRegular (view i.config)) items
can_show [] regular = tt
can_show (i ∷ items) regular = (regular.0, can_show items regular.1)

pub map_twice : (items : List code.Item) → map component_tree (map item_view items) ≡ map (λ (i : code.Item). component_tree (item_view i)) items
map_twice [] = refl
map_twice (i ∷ items) = ap (λ (ds : List Data). component_tree (item_view i) ∷ ds) (map_twice items)
