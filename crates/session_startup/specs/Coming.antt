-- The two stages in which items come up.
use Rattle.std.specs.Prelude.{ℕ, Bool, true, false, List}
use Rattle.disk_model.specs.Disk.{Image}
use Rattle.device.specs.Devices.{Device}
use Rattle.deploy_state.specs.States.{OwnsActivating, OwnsRolling, activating_device, rolling_device}
use Rattle.session_startup.specs.declared.coming.Coming.{Coming}
use Rattle.session_startup.specs.declared.coming.Coming.TheVariants as coming

abbrev pub coming_device : {J : Type 0} → Coming J → Device
coming_device (coming.Plan s) = activating_device s
coming_device (coming.Set s) = rolling_device s

-- the plan's items, and not those of the set again
abbrev pub is_plan : {J : Type 0} → Coming J → Bool
is_plan (coming.Plan s) = true
is_plan (coming.Set s) = false

module _ {J D : Type 0} (is_modelled : Bool) (may_leave : D → Image → Type 0) (stands : J → Image → List (List ℕ) → Type 0) (end : J → ℕ) where
  abbrev pub OwnsComing : Coming J → D → Type 0
  OwnsComing (coming.Plan s) disk = OwnsActivating is_modelled may_leave stands end s disk
  OwnsComing (coming.Set s) disk = OwnsRolling is_modelled may_leave stands end s disk
