-- What holds between the device and the components while the items of a deployment come up: who fails may still be
-- counted, and no child stands twice.
use Rattle.std.specs.Prelude.{◌≡◌, ◌≢◌, ◌<◌, ◌+◌, ℕ, true, false, List, Option, Some, None, length, slice_get, option_and_then, get_or, IsSome, pos}
use Rattle.std.specs.List.{list_any}
use Rattle.std.specs.Option.{IfSome, IsSomeAnd}
use Rattle.nuc_base.specs.declared.kinds.Step.{Step}
use Rattle.nuc_base.specs.declared.kinds.Exit.{Exit}
use Rattle.nuc_base.specs.declared.kinds.Exit.TheVariants as exits
use Rattle.device.specs.Devices.{Device}
use Rattle.device.specs.Lawful.{failing_place, IsWork}
use Rattle.components.specs.Fitted.{Fitted, name_of}
use Rattle.components.specs.Components.{Components, ComponentState, component_name, is_spared, is_broken, owner}
use Rattle.components.specs.Turns.{owes}
use Rattle.components.specs.Answers.{living_numbers}
use Rattle.law_supervisor.specs.Sound.{AreSound, AreDistinct, HaveOwnNames}

-- how often the item of this name failed in the stage
abbrev pub count_of : Device → List ℕ → Option ℕ
count_of d n = elim d.pending [ None ↦ None | Some q ↦ option_and_then (slice_get q.failures) (failing_place d.set q n) ]

-- the count is that of the component, but for a failure that is not recorded yet
abbrev pub AgreesBy : Device → List ℕ → ℕ → Option (Step × Exit) → Type 0
AgreesBy d n failures None = count_of d n ≡ Some failures
AgreesBy d n failures (Some f) = IsSomeAnd (count_of d n) (λ c. (failures ≡ c + 1) × (c < 3)) × IsWork f.0 × (f.1 ≢ exits.Code (pos 0))

pub record IsCounted (d : Device) (p : ComponentState) : Type 0 where
  -- one that may fail is an item of the stage
  pub own : is_spared p ≡ false → p.life.gone ≡ false → AgreesBy d (component_name p) p.life.failures p.owed
  -- one that is BROKEN failed three times
  pub broken : is_spared p ≡ false → p.life.gone ≡ false → is_broken p.life.state ≡ true → p.life.failures ≡ 3
  -- one that is to be replaced or to go fails no more
  pub spared : is_spared p ≡ true → p.owed ≡ None
  pub gone : p.life.gone ≡ true → p.owed ≡ None
  -- and the item that takes its place is one of the stage
  pub next : IfSome p.next (λ (n : Fitted × ℕ). (name_of n.0 ≡ component_name p) × (count_of d (name_of n.0) ≡ Some n.1))

pub record IsSupervised (d : Device) (w : Components) : Type 0 where
  pub counted : (k : ℕ) (p : ComponentState) → slice_get w.parts k ≡ Some p → IsCounted d p
  pub sound : AreSound w.parts
  -- no number of a child stands twice
  pub differ : AreDistinct (living_numbers w.parts)
  -- no name stands twice
  pub names : HaveOwnNames w.parts
  pub driven : w.steady ≡ false
  pub counts : IfSome d.pending (λ q. length q.failures ≡ 128)

abbrev pub Owns : Components → ℕ → Type 0
Owns w n = IsSome (owner n w.parts)

-- no failure is still to be recorded
abbrev pub HasNoneOwed : Components → Type 0
HasNoneOwed w = list_any owes w.parts ≡ false

-- each item that is to come begins with the device's count of its name, and with fewer failures than break
abbrev pub AreCounted : Device → List Fitted → List ℕ → Type 0
AreCounted d items counts = (k : ℕ) (f : Fitted) → slice_get items k ≡ Some f → (count_of d (name_of f) ≡ Some (get_or counts k 0)) × (get_or counts k 0 < 3)

-- no two items have one name
abbrev pub ItemsDiffer : List Fitted → Type 0
ItemsDiffer items = (j k : ℕ) (f g : Fitted) → slice_get items j ≡ Some f → slice_get items k ≡ Some g → name_of f ≡ name_of g → j ≡ k
