-- The tree of a status nests no deeper than JSON readers go where the device's configurations are regular.
use Rattle.std.proofs.Common.{◌≤◌, List, [], ◌∷◌, map, ℕ, Option, Some, None, arith}
use Rattle.std.proofs.lemmas.List.Elements.{recursion_from_All}
use Rattle.serde_json.specs.Data.{Data, depth, items_depth}
use Rattle.serde_json.specs.Read.{max_depth}
use Rattle.tree_core.specs.Regular.{IsRegular}
use Rattle.tree_core.specs.View.{items_of}
use Rattle.records.specs.Stored.{Item}
use Rattle.records.specs.declared.record.Origin.{Origin}
use Rattle.device.specs.Devices.{Device, Pending, IsRegularDevice}
use Rattle.status_text.specs.Regularity.{AreRegular}
use Rattle.records.specs.declared.record.Group.{Group}
use Rattle.status_text.specs.Status.{closed_tree, component_tree, requirement_tree, group_tree, nucleus_tree, pending_tree, thing_tree, status_tree}

-- a list nests as deep as its elements may
items_shallow : {A : Type 0} (tree_of : A → Data) (n : ℕ) → ((x : A) → depth (tree_of x) ≤ n) → (xs : List A) → items_depth (items_of (map tree_of xs)) ≤ n
items_shallow tree_of n each [] = omega arith
items_shallow tree_of n each (x ∷ xs) = let first = each x in let others = items_shallow tree_of n each xs in omega (arith, first, others)

components_shallow : (items : List Item) → AreRegular items → items_depth (items_of (map component_tree items)) ≤ 65
components_shallow [] regular = omega arith
components_shallow (i ∷ items) regular = let others = components_shallow items regular.1 in omega (arith, regular.0.shallow, others)

group_shallow : (g : Group) → depth (group_tree g) ≤ 3
group_shallow g = let inside = items_shallow requirement_tree 1 (λ r. omega arith) g.requirements in omega (arith, inside)

nucleus_shallow : (o : Option Origin) → depth (nucleus_tree o) ≤ 0
nucleus_shallow None = omega arith
nucleus_shallow (Some o) = omega arith

thing_shallow : (o : Option Origin) → depth (thing_tree o) ≤ 0
thing_shallow None = omega arith
thing_shallow (Some o) = omega arith

pending_shallow : (p : Option Pending) → depth (pending_tree p) ≤ 1
pending_shallow None = omega arith
pending_shallow (Some p) = omega arith

pub status_shallow : (d : Device) → IsRegularDevice d → depth (status_tree d) ≤ max_depth
status_shallow d regular =
    let closed = items_shallow closed_tree 1 (λ c. omega arith) d.closed in
    let components = components_shallow d.set (recursion_from_All (λ (i : Item). IsRegular i.config) d.set regular.set) in
    let groups = items_shallow group_tree 3 group_shallow d.groups in
    omega (arith, closed, components, groups, nucleus_shallow d.origin, pending_shallow d.pending, thing_shallow d.origin)
