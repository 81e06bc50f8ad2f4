-- A device that is rebuilt from the records of its front, one after another.
use Rattle.std.specs.Prelude.{◌≡◌, ℕ, ◌+◌, ◌-◌, ◌<◌, ◌≤◌, false, List, [], ◌∷◌, ◌++◌, length, map, Some, None, Result, Ok, Err, ⊤}
use Rattle.std.specs.Str.{bytes_eq}
use Rattle.std.specs.Map.{lookup}
use Rattle.nuc_base.specs.declared.kinds.Outcome.{Outcome}
use Rattle.records.specs.declared.record.Origin.{Origin}
use Rattle.records.specs.Stored.{Item, Record, Turned, Grouped, Kept, Ended, item_view}
use Rattle.device.specs.Limits.{most_root, most_groups, most_closed, most_elements}
use Rattle.device.specs.Grouped.{has_group}
use Rattle.device.specs.Devices.{Device, Group, device_view}
use Rattle.device.specs.declared.device.Device as code_device
use Rattle.device.specs.declared.rebuilding.Rebuilding as code
use Rattle.device.specs.declared.fault.RestoreFault.{RestoreFault}
use Rattle.device.specs.declared.fault.RestoreFault.TheVariants.{NotSound, NoMemory}
use Rattle.device.specs.Plans.{AreItems, AreRequirements, AreRegularItems}
use Rattle.device.specs.Sound.{AreGroups, AreClosed}
use Rattle.device.specs.Fronts.{stock_of}

-- what came so far, and how many groups, items and closed deployments are still to come
pub record Building : Type 0 where
  pub origin : Origin
  pub groups : List Group
  pub set : List Item
  pub closed : List (List ℕ × Outcome)
  pub groups_to_come : ℕ
  pub items_to_come : ℕ
  pub closed_to_come : ℕ

abbrev pub building_view : code.Rebuilding → Building
building_view b = record {
  origin = b.origin;
  groups = b.groups.list;
  set = map item_view b.set;
  closed = b.closed;
  groups_to_come =
      b.groups_to_come;
  items_to_come = b.items_to_come;
  closed_to_come = b.closed_to_come;
}

-- the device of what came
abbrev pub device_of : Building → Device
device_of b = record { origin = Some b.origin; groups = b.groups; set = b.set; closed = b.closed; pending = None }

-- ---- the beginning

-- a turn that counts no more than a device may have
abbrev pub MayRebuild : Record → Type 0
MayRebuild (Turned n o groups items closed) = (length o.root ≤ most_root) × (groups ≤ most_groups) × (items ≤ most_elements) × (closed ≤ most_closed)
MayRebuild _ = ⊥

-- nothing of its stock came yet
abbrev pub BeginsAs : Record → Building → Type 0
BeginsAs (Turned n o groups items closed) b = b ≡ record {
  origin = o;
  groups = [];
  set = [];
  closed = [];
  groups_to_come = groups;
  items_to_come =
      items;
  closed_to_come = closed;
}
BeginsAs _ b = ⊥

-- ---- one record more

-- the groups come first, then the items, then the closed deployments
abbrev pub MayComeNext : Building → Record → Type 0
MayComeNext b (Grouped g) = (0 < b.groups_to_come) × (has_group g.arn b.groups ≡ false) × AreRequirements g.requirements
MayComeNext b (Kept i) = (b.groups_to_come ≡ 0) × (0 < b.items_to_come)
MayComeNext b (Ended id o) = (b.groups_to_come ≡ 0) × (b.items_to_come ≡ 0) × (0 < b.closed_to_come) × (lookup (bytes_eq id) b.closed ≡ None)
MayComeNext b _ = ⊥

abbrev pub with_next : Building → Record → Building
with_next b (Grouped g) = record b { groups = b.groups ++ g ∷ []; groups_to_come = b.groups_to_come - 1 }
with_next b (Kept i) = record b { set = b.set ++ i ∷ []; items_to_come = b.items_to_come - 1 }
with_next b (Ended id o) = record b { closed = b.closed ++ (id, o) ∷ []; closed_to_come = b.closed_to_come - 1 }
with_next b _ = b

-- ---- the end

-- nothing is still to come, and the items are those of a device
pub record IsWhole (b : Building) : Type 0 where
  pub no_groups : b.groups_to_come ≡ 0
  pub no_items : b.items_to_come ≡ 0
  pub no_closed : b.closed_to_come ≡ 0
  pub items : AreItems b.origin.platform b.set

-- ---- what holds all along

-- what came is sound, and no more is to come than a device may have
pub record IsOrderly (b : Building) : Type 0 where
  pub root : length b.origin.root ≤ most_root
  pub groups : AreGroups b.groups
  pub closed : AreClosed b.closed
  pub few_groups : length b.groups + b.groups_to_come ≤ most_groups
  pub few_items : length b.set + b.items_to_come ≤ most_elements
  pub few_closed : length b.closed + b.closed_to_come ≤ most_closed
  pub regular : AreRegularItems b.set

-- these records were given so far
pub record IsBuilt (records : List Record) (b : Building) : Type 0 where
  pub number : ℕ
  pub is : records ≡ Turned number b.origin (length b.groups + b.groups_to_come) (length b.set + b.items_to_come) (length b.closed + b.closed_to_come) ∷
      stock_of (device_of b)
  pub items_later : 0 < b.groups_to_come → b.set ≡ []
  pub closed_later : 0 < b.groups_to_come + b.items_to_come → b.closed ≡ []

-- ---- what the steps answer

abbrev pub BeginOutcome : Record → Result code.Rebuilding RestoreFault → Type 0
BeginOutcome r (Ok b) = MayRebuild r × BeginsAs r (building_view b)
BeginOutcome r (Err NotSound) = MayRebuild r → ⊥
BeginOutcome r (Err NoMemory) = ⊤

abbrev pub NextOutcome : Record → Building → Building → Result (Unit {0}) RestoreFault → Type 0
NextOutcome r old new (Ok x) = MayComeNext old r × (new ≡ with_next old r)
NextOutcome r old new (Err NotSound) = MayComeNext old r → ⊥
NextOutcome r old new (Err NoMemory) = ⊤

abbrev pub FinishOutcome : Building → Result code_device.Device RestoreFault → Type 0
FinishOutcome b (Ok d) = IsWhole b × (device_view d ≡ device_of b)
FinishOutcome b (Err NotSound) = IsWhole b → ⊥
FinishOutcome b (Err NoMemory) = ⊤
