-- The bootstrap steps of a pending deployment, as they were made ready.
use Rattle.std.specs.Prelude.{◌≡◌, ℕ, List, [], Some, slice_get}
use Rattle.std.specs.Option.{IfSome, IsSomeAnd}
use Rattle.nuc_base.specs.declared.kinds.Step.TheVariants as step
use Rattle.records.specs.Stored.{Item}
use Rattle.records.specs.declared.record.Origin.{Origin}
use Rattle.device.specs.Devices.{Device, Pending}
use Rattle.device.specs.Lawful.{boots_of}
use Rattle.device.specs.declared.staged.Stage.TheVariants as stages
use Rattle.components.specs.Made.{IsStepAt}
use Rattle.components.specs.declared.kinds.Prepared.{Prepared}
use Rattle.histories.specs.Phases.{duty_of}

-- the bootstrap step of the item of this name among these, with its texts expanded
pub record IsBootOf (origin : Origin) (items : List Item) (name : List ℕ) (made : Prepared) : Type 0 where
  pub at : ℕ
  pub item : Item
  pub there : slice_get items at ≡ Some item
  pub named : item.name ≡ name
  pub prepared : IsStepAt origin items at step.Bootstrap (Some made)

-- each of these names has its bootstrap step at its own place
abbrev pub AreBootsOf : Origin → List Item → List (List ℕ) → List Prepared → Type 0
AreBootsOf origin items names made = (k : ℕ) (name : List ℕ) → slice_get names k ≡ Some name → IsSomeAnd (slice_get made k) (IsBootOf origin items name)

-- the bootstrap steps of the pending plan, by their places
abbrev pub AreMade : Device → List Prepared → Type 0
AreMade d made = IfSome d.pending (λ q. IsSomeAnd d.origin (λ o. AreBootsOf o q.plan.items q.plan.boots made))

-- the bootstrap steps of the set that run again, by their places among these
abbrev pub AreMadeAgain : Device → List Prepared → Type 0
AreMadeAgain d made = IfSome d.pending (λ q. IsSomeAnd d.origin (λ o. AreBootsOf o d.set q.backs made))

-- the items among which the bootstraps of the stage are
abbrev pub boot_items : Device → Pending → List Item
boot_items d q = elim q.stage [ stages.Booting ↦ q.plan.items | stages.Activating ↦ [] | stages.Backing ↦ d.set | stages.Rolling ↦ [] ]

abbrev pub AreMadeFor : Device → Pending → List Prepared → Type 0
AreMadeFor d q made = IsSomeAnd d.origin (λ o. AreBootsOf o (boot_items d q) (boots_of q) made)

-- the bootstrap steps of the stage, by their places
abbrev pub AreStageBoots : Device → List Prepared → Type 0
AreStageBoots d made = IfSome d.pending (λ q. AreMadeFor d q made)

-- this bootstrap step comes next, and no one before it failed
pub record IsNextBoot (d : Device) (made : Prepared) : Type 0 where
  pub origin : Origin
  pub of_device : d.origin ≡ Some origin
  pub name : List ℕ
  pub next : (duty_of d).next_bootstrap ≡ Some name
  pub of : IsBootOf origin (duty_of d).boots name made
