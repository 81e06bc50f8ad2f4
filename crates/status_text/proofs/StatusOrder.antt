-- The tree of a status is orderly where the device's configurations are regular.
use Rattle.std.proofs.Common.{◌<◌, ◌^◌, List, [], ◌∷◌, refl, map, ℕ, Option, Some, None}
use Rattle.std.proofs.lemmas.List.Elements.{recursion_from_All}
use Rattle.serde_json.specs.Data.{Data}
use Rattle.nuc_base.specs.declared.kinds.Outcome.{Outcome}
use Rattle.tree_core.specs.Regular.{IsRegular, IsOrderly, ItemsAreOrderly}
use Rattle.tree_core.specs.View.{items_of}
use Rattle.records.specs.Stored.{Item}
use Rattle.records.specs.declared.record.Origin.{Origin}
use Rattle.records.specs.declared.record.Requirement.{Requirement}
use Rattle.device.specs.Devices.{Device, Pending, IsRegularDevice}
use Rattle.status_text.specs.Regularity.{AreRegular, AreNumbers}
use Rattle.records.specs.declared.record.Group.{Group}
use Rattle.status_text.specs.Status.{closed_tree, component_tree, requirement_tree, group_tree, nucleus_tree, pending_tree, thing_tree, status_tree}

-- a list is orderly where what each element is shown as is
list_orderly : {A : Type 0} (tree_of : A → Data) → ((x : A) → IsOrderly (tree_of x)) → (xs : List A) → ItemsAreOrderly (items_of (map tree_of xs))
list_orderly tree_of each [] = tt
list_orderly tree_of each (x ∷ xs) = (each x, list_orderly tree_of each xs)

components_orderly : (items : List Item) → AreRegular items → ItemsAreOrderly (items_of (map component_tree items))
components_orderly [] regular = tt
components_orderly (i ∷ items) regular = (((refl, (refl, tt)), regular.0.orderly, ((refl, tt), tt, (tt, tt, tt))), components_orderly items regular.1)

closed_orderly : (c : List ℕ × Outcome) → IsOrderly (closed_tree c)
closed_orderly c = ((refl, tt), tt, (tt, tt, tt))

requirement_orderly : (r : Requirement) → IsOrderly (requirement_tree r)
requirement_orderly r = ((refl, tt), tt, (tt, tt, tt))

group_orderly : (g : Group) → g.revision < 2 ^ 64 → IsOrderly (group_tree g)
group_orderly g number = ((refl, (refl, tt)), tt, ((refl, tt), list_orderly requirement_tree requirement_orderly g.requirements, (tt, number, tt)))

groups_orderly : (groups : List Group) → AreNumbers groups → ItemsAreOrderly (items_of (map group_tree groups))
groups_orderly [] numbers = tt
groups_orderly (g ∷ groups) numbers = (group_orderly g numbers.0, groups_orderly groups numbers.1)

nucleus_orderly : (o : Option Origin) → IsOrderly (nucleus_tree o)
nucleus_orderly None = tt
nucleus_orderly (Some o) = tt

thing_orderly : (o : Option Origin) → IsOrderly (thing_tree o)
thing_orderly None = tt
thing_orderly (Some o) = tt

pending_orderly : (p : Option Pending) → IsOrderly (pending_tree p)
pending_orderly None = tt
pending_orderly (Some p) = ((refl, tt), tt, (tt, tt, tt))

pub status_orderly : (d : Device) → IsRegularDevice d → AreNumbers d.groups → IsOrderly (status_tree d)
status_orderly d regular numbers = (
  (refl, (refl, (refl, (refl, (refl, tt))))),
  list_orderly closed_tree closed_orderly d.closed,
  (
    (refl, (refl, (refl, (refl, tt)))),
    components_orderly d.set (recursion_from_All (λ (i : Item). IsRegular i.config) d.set regular.set),
    (
      (refl, (refl, (refl, tt))),
      groups_orderly d.groups numbers,
      (
        (refl, (refl, tt)),
        nucleus_orderly d.origin,
        ((refl, tt), pending_orderly d.pending, (tt, thing_orderly d.origin, tt)),
      ),
    ),
  ),
)
