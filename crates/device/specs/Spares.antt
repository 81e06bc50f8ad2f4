-- What is made ready for the steps up to the close of a plan.
use Rattle.std.specs.Prelude.{◌≡◌, ℕ, Bool, List, length, map, take}
use Rattle.std.specs.List.{AllByRecursion}
use Rattle.std.specs.Option.{IfSome}
use Rattle.records.specs.declared.record.Origin.{Origin}
use Rattle.records.specs.Stored.{Item, Plan}
use Rattle.device.specs.Devices.{Device}
use Rattle.device.specs.Endings.{EndsWith}
use Rattle.device.specs.Grouped.{with_group}
use Rattle.device.specs.Lawful.{IsReadable, goes_back}
use Rattle.device.specs.declared.spare.Spare.{Spare}

-- the flags of these names tell the backs, where the recipes of the set do
abbrev pub FlagBacks : List Item → List (List ℕ) → List Bool → Origin → Type 0
FlagBacks set names flags o = AllByRecursion (IsReadable o.platform set) names → take (length names) flags ≡ map (goes_back o.platform set) names

-- it was made from what closed in this device, its groups and its set, for this plan
pub record IsSpareFor (s : Spare) (d : Device) (p : Plan) : Type 0 where
  pub closed : EndsWith s.closed d.closed p.id
  pub groups : s.groups.list ≡ with_group d.groups p
  pub backs : IfSome d.origin (FlagBacks d.set p.boots s.back_flags)

abbrev pub IsSpareOf : Spare → Device → Type 0
IsSpareOf s d = IfSome d.pending (λ q. IsSpareFor s d q.plan)
