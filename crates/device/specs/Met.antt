-- Devices whose items meet what their groups and their items ask.
use Rattle.std.specs.Prelude.{◌≡◌, List, [], ◌∷◌, Option, Some, None, ⊤}
use Rattle.std.specs.List.{AllByRecursion, Contains}
use Rattle.std.specs.Option.{IfSome}
use Rattle.records.specs.Stored.{Item, Plan, Record, Accepted}
use Rattle.npm_ranges.specs.Ranges.{IsInRange}
use Rattle.records.specs.declared.record.Origin.{Origin}
use Rattle.records.specs.declared.record.Requirement.{Requirement}
use Rattle.device.specs.Grouped.{with_group}
use Rattle.device.specs.Devices.{Device, Group}
use Rattle.device.specs.Lawful.{applied}
use Rattle.device.specs.Plans.{IsSupplied}

-- one of the items has the requirement's name and a version in its range
pub record IsAnswered (items : List Item) (requirement : Requirement) : Type 0 where
  pub item : Item
  pub is_one : Contains items item
  pub name : item.name ≡ requirement.name
  pub version : IsInRange item.version requirement.range

-- each requirement of each group is met by an item
abbrev pub GroupsAreMet : List Group → List Item → Type 0
GroupsAreMet groups items = AllByRecursion (λ g. AllByRecursion (IsAnswered items) g.requirements) groups

-- each dependency of an item is met by an item; a device without an origin has no items
abbrev pub ItemsAreMet : Option Origin → List Item → Type 0
ItemsAreMet None items = items ≡ []
ItemsAreMet (Some o) items = AllByRecursion (IsSupplied o.platform items) items

-- the same with the plan's items in place of the set, and its requirements in place of its group's
pub record IsPlanMet (d : Device) (p : Plan) : Type 0 where
  pub groups : GroupsAreMet (with_group d.groups p) p.items
  pub items : ItemsAreMet d.origin p.items

pub record Met (d : Device) : Type 0 where
  pub groups : GroupsAreMet d.groups d.set
  pub items : ItemsAreMet d.origin d.set
  pub pending : IfSome d.pending (λ q. IsPlanMet d q.plan)

-- a plan that the record brings meets what all groups then ask; that its items meet what they ask of one another is
-- part of its being lawful
abbrev pub BringsMet : Device → Record → Type 0
BringsMet d (Accepted p) = GroupsAreMet (with_group d.groups p) p.items
BringsMet d _ = ⊤

-- each plan that the records bring does, where they begin with this device
abbrev pub BringMet : Device → List Record → Type 0
BringMet d [] = ⊤
BringMet d (r ∷ records) = BringsMet d r × BringMet (applied d r) records
