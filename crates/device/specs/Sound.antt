-- What holds of every device that records leave.
use Rattle.std.specs.Prelude.{◌≡◌, ◌⊎◌, ℕ, ◌<◌, ◌≤◌, true, false, IsTrue, List, [], length, map, get_or, Option, Some, None, is_some, slice_get}
use Rattle.std.specs.Option.{IfSome, IsSome, IsSomeAnd}
use Rattle.std.specs.List.{AllByRecursion, IsDistinct}
use Rattle.std.specs.Str.{bytes_eq}
use Rattle.std.specs.Map.{lookup}
use Rattle.nuc_base.specs.declared.kinds.Outcome.{Outcome}
use Rattle.records.specs.declared.record.Origin.{Origin}
use Rattle.records.specs.Stored.{Item, Plan, Record}
use Rattle.device.specs.Limits.{most_root, most_groups, most_closed, most_elements}
use Rattle.device.specs.Grouped.{has_group, revision_of}
use Rattle.device.specs.Devices.{Device, Pending, Group, no_device}
use Rattle.device.specs.declared.staged.Stage.TheVariants as stages
use Rattle.device.specs.Plans.{AreItems, AreRequirements, IsPlan}
use Rattle.device.specs.Lawful.{Allowed, Lawful, Run, IsNotOlder, backs, no_failures}

-- ---- a pending deployment

-- a plan that a device of this origin takes
abbrev pub IsPlanFor : Option Origin → Plan → Type 0
IsPlanFor origin plan = IsSomeAnd origin (λ o. IsPlan o.platform plan)

-- it may close beside these groups and closed deployments
pub record IsAccepted (origin : Option Origin) (groups : List Group) (closed : List (List ℕ × Outcome)) (plan : Plan) : Type 0 where
  pub plan_is : IsPlanFor origin plan
  pub fresh : lookup (bytes_eq plan.id) closed ≡ None
  pub closes : length closed < most_closed
  pub joins : IsTrue (has_group plan.group groups) ⊎ (length groups < most_groups)
  pub young : IsNotOlder groups plan

-- of each of these items at most three failures
pub record AreCounts (items : List Item) (failures : List ℕ) : Type 0 where
  pub many : length failures ≡ most_elements
  pub each : (k : ℕ) → get_or failures k 0 ≤ 3
  pub past : (k : ℕ) → length items ≤ k → get_or failures k 0 ≡ 0

-- only a bootstrap that is there is begun, and only one that was begun failed
pub record IsBooting (q : Pending) : Type 0 where
  pub ended : q.ended ≤ length q.plan.boots
  pub begun : q.begun ≡ true → is_some (slice_get q.plan.boots q.ended) ≡ true
  pub failed : q.boot_failed ≡ true → q.begun ≡ true
  pub failures : q.failures ≡ no_failures

pub record IsActivating (q : Pending) : Type 0 where
  pub ended : q.ended ≡ length q.plan.boots
  pub begun : q.begun ≡ false
  pub failed : q.boot_failed ≡ false
  pub failures : AreCounts q.plan.items q.failures

-- one of the backs is left
pub record IsBacking (origin : Option Origin) (set : List Item) (q : Pending) : Type 0 where
  pub left : is_some (slice_get q.backs q.ended) ≡ true
  pub failed : q.boot_failed ≡ true → q.begun ≡ true
  pub reach : q.reach ≤ length q.plan.boots
  pub backs_are : q.backs ≡ backs origin set q.plan q.reach
  pub failures : q.failures ≡ no_failures

-- how far it is, and what is said of that, agree
abbrev pub IsInStage : Option Origin → List Item → Pending → Type 0
IsInStage origin set q = elim q.stage [
  | stages.Booting ↦ IsBooting q
  | stages.Activating ↦ IsActivating q
  | stages.Backing ↦ IsBacking origin set q
  | stages.Rolling ↦ AreCounts set q.failures
]

abbrev pub IsUnderWay : Device → Pending → Type 0
IsUnderWay d q = IsAccepted d.origin d.groups d.closed q.plan × IsInStage d.origin d.set q

-- ---- the whole

abbrev pub arns : List Group → List (List ℕ)
arns groups = map (λ g. g.arn) groups

abbrev pub ids : List (List ℕ × Outcome) → List (List ℕ)
ids closed = map (λ e. e.0) closed

pub record AreGroups (groups : List Group) : Type 0 where
  pub few : length groups ≤ most_groups
  pub differ : IsDistinct bytes_eq (arns groups)
  pub requirements : AllByRecursion (λ g. AreRequirements g.requirements) groups

pub record AreClosed (closed : List (List ℕ × Outcome)) : Type 0 where
  pub few : length closed ≤ most_closed
  pub differ : IsDistinct bytes_eq (ids closed)

-- a device without an origin has no items
abbrev pub AreItemsFor : Option Origin → List Item → Type 0
AreItemsFor None items = items ≡ []
AreItemsFor (Some o) items = AreItems o.platform items

pub record IsSound (d : Device) : Type 0 where
  pub root : IfSome d.origin (λ o. length o.root ≤ most_root)
  pub groups : AreGroups d.groups
  pub set : AreItemsFor d.origin d.set
  pub closed : AreClosed d.closed
  pub pending : IfSome d.pending (IsUnderWay d)

-- ---- laws

-- a lawful record leaves a sound device sound
abbrev pub StaysSound : Type 0
StaysSound = (d e : Device) (r : Record) → IsSound d → Lawful d r e → IsSound e

-- every device that records leave is sound
abbrev pub RunsAreSound : Type 0
RunsAreSound = (records : List Record) (d : Device) → Run no_device records d → IsSound d

-- where a deployment is pending in a sound device, some record is lawful
abbrev pub NoneIsStuck : Type 0
NoneIsStuck = (d : Device) → IsSound d → IsSome d.pending → (r : Record) × Allowed d r

-- along a run of a sound device no revision falls
abbrev pub RevisionsRise : Type 0
RevisionsRise = (records : List Record) (d e : Device) → IsSound d → Run d records e → (arn : List ℕ) → revision_of arn d.groups ≤ revision_of arn e.groups
