-- The states of a deployment in which bootstraps run, and the stages in which their devices are.
use Rattle.std.specs.Prelude.{ℕ, Bool, List, ⊤}
use Rattle.disk_model.specs.Disk.{Image}
use Rattle.device.specs.declared.staged.Stage.TheVariants as stages
use Rattle.deploy_state.specs.States.{IsHeld, IsIn, backing_device, booting_device, rolling_device}
use Rattle.deploy_state.specs.declared.state.Hand.{Hand}
use Rattle.deploy_state.specs.declared.state.Booting.{Booting}
use Rattle.deploy_state.specs.declared.state.Backed.{Backed}
use Rattle.deploy_state.specs.declared.state.Backed.TheVariants as backed

-- ---- the plan's bootstraps

abbrev pub booting_hand : {J : Type 0} → Booting J → Hand J
booting_hand s = s.hand

abbrev pub IsBooting : {J : Type 0} → Booting J → Type 0
IsBooting s = IsIn stages.Booting (booting_device s)

-- ---- those of the set, on the way back

abbrev pub backed_hand : {J : Type 0} → Backed J → Hand J
backed_hand (backed.Backing s) = s.hand
backed_hand (backed.Rolling s) = s.hand

-- the state is of the stage that its device is in
abbrev pub IsStaged : {J : Type 0} → Backed J → Type 0
IsStaged (backed.Backing s) = IsIn stages.Backing (backing_device s)
IsStaged (backed.Rolling s) = IsIn stages.Rolling (rolling_device s)

-- the stage is not over
abbrev pub IsStillBacking : {J : Type 0} → Backed J → Type 0
IsStillBacking (backed.Backing s) = ⊤
IsStillBacking (backed.Rolling s) = ⊥

-- ---- either

module _ {S J D : Type 0} (hand : S → Hand J) (is_staged : S → Type 0) (is_modelled : Bool) (may_leave : D → Image → Type 0)
    (stands : J → Image → List (List ℕ) → Type 0) (end : J → ℕ) where
  -- what is in hand is over the disk, and the state is that of the stage in which its device is
  abbrev pub OwnsStage : S → D → Type 0
  OwnsStage s disk = IsHeld is_modelled may_leave stands end (hand s) disk × is_staged s
