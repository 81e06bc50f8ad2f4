-- What the bootstraps that run again leave, and what is made ready for it.
use Rattle.std.specs.Prelude.{ℕ, Bool, true, false, List, Option, Some, None, is_some, slice_get, if◌then◌else◌}
use Rattle.std.specs.Option.{IfSome, IsSomeAnd, option_map_or}
use Rattle.std.proofs.Common.{◌≡◌, ◌⊎◌, ◌∙◌, inl, inr, refl, sym, ap, subst}
use Rattle.std.proofs.lemmas.Bool.{false≢true}
use Rattle.disk_model.specs.Disk.{Image}
use Rattle.records.specs.Stored.{Record}
use Rattle.device.specs.Devices.{Device, Pending}
use Rattle.device.specs.Sound.{IsInStage, IsSound, IsUnderWay}
use Rattle.device.specs.declared.staged.Stage.{Stage}
use Rattle.device.specs.declared.staged.Stage.TheVariants as stages
use Rattle.deploy_state.specs.Fields.{has_failed}
use Rattle.deploy_state.specs.States.{OwnsBacked, OwnsLoaded, IsIn, backed_device, backing_device, loaded_device, rolling_device}
use Rattle.deploy_state.specs.declared.state.Backed.{Backed}
use Rattle.deploy_state.specs.declared.state.Backed.TheVariants as backed
use Rattle.deploy_state.specs.declared.state.Loaded.{Loaded}
use Rattle.step_runner.specs.Entries.{Told}
use Rattle.components.specs.Fitted.{Fitted}
use Rattle.components.specs.Components.{Components}
use Rattle.components.specs.declared.kinds.Prepared.{Prepared}
use Rattle.histories.specs.Phases.{duty_in, duty_of}
use Rattle.histories.specs.States.{SessionState}
use Rattle.session_boots.specs.Booted.{BootsLeft}
use Rattle.session_boots.specs.Stands.{IsAtBootStage}
use Rattle.session_boots.specs.declared.ends.Booted.{Booted}
use Rattle.session_boots.specs.declared.ends.Booted.TheVariants as booted
use Rattle.session_boots.specs.Made.{AreMadeAgain}
use Rattle.session_boots.specs.Staged.{IsStillBacking}
use Rattle.session_transitions.specs.Enters.{AreReady}
use Rattle.session_admission.specs.Readied.{AreReadiedFor}
use Rattle.session_admission.proofs.Serving.{backs_made, earlier_ready}
use Rattle.session_rollout.specs.Backwards.{EndsBacks, HasWayBack, paused_of}

abbrev pends : Device → Option Pending → Device
pends d o = record d { pending = o }

-- ---- the state that is left

paused_device : {J : Type 0} (b : Backed J) → backed_device b ≡ loaded_device (paused_of b)
paused_device (backed.Backing s) = refl
paused_device (backed.Rolling s) = refl

module _ {J D : Type 0} (is_modelled : Bool) (may_leave : D → Image → Type 0) (stands : J → Image → List (List ℕ) → Type 0) (end : J → ℕ) where
  pub paused_held : (b : Backed J) (disk : D) → OwnsBacked is_modelled may_leave stands end b disk → OwnsLoaded is_modelled may_leave stands end
      (paused_of b) disk
  paused_held (backed.Backing s) disk h = h
  paused_held (backed.Rolling s) disk h = h

-- the call ends for a restart or a reboot in that state
pub paused_left : {J : Type 0} (k : Booted) (b : Backed J) (x : Loaded J) (records : List Record) (q : SessionState) (world : Components) (told : Told)
    (living : List ℕ) → x ≡ paused_of b
    → BootsLeft k records q (backed_device b) world told living → BootsLeft k records q (loaded_device x) world told living
paused_left k b x records q world told living is left =
    subst (λ (d : Device). BootsLeft k records q d world told living) (paused_device b ∙ sym (ap (λ (y : Loaded _). loaded_device y) is)) left

-- ---- one of them comes next, or one failed, as long as they are not through

none_comes : (b : Bool) (o : Option (List ℕ)) → b ≡ false → (if b then None else o) ≡ None → is_some o ≡ true → ⊥
none_comes true o well none some = false≢true (sym well)
none_comes false None well none some = false≢true some
none_comes false (Some n) well none some = absurd cc

never_through : (d : Device) → IsSound d → IsIn stages.Backing d → has_failed d ≡ false → (duty_of d).next_bootstrap ≡ None → ⊥
never_through d sound is well none = by d.pending sound.pending is well none
  where
    in_stage : (s : Stage) (q : Pending) → s ≡ stages.Backing → IsInStage d.origin d.set (record q { stage = s }) → q.boot_failed ≡ false →
        (duty_in d (record q { stage = s })).next_bootstrap ≡ None → ⊥
    in_stage s q is under well none =
        let at : IsInStage d.origin d.set (record q { stage = stages.Backing }) = subst (λ (x : Stage). IsInStage d.origin d.set (record q { stage = x })) is
        under in
        let is_next : (duty_in d (record q { stage = stages.Backing })).next_bootstrap ≡ None =
        subst (λ (x : Stage). (duty_in d (record q { stage = x })).next_bootstrap ≡ None) is
        none in
        none_comes q.boot_failed (slice_get q.backs q.ended) well is_next at.left

    by : (o : Option Pending) → IfSome o (IsUnderWay d) → IsSomeAnd o (λ q. q.stage ≡ stages.Backing) → option_map_or (λ q. q.boot_failed) o false ≡ false →
        (duty_of (pends d o)).next_bootstrap ≡ None → ⊥
    by None under is well none = is
    by (Some q) under is well none = in_stage q.stage q is under.1 well none

-- ---- how they ended

-- they are through or one failed, and the call goes on
abbrev pub GoesOn : Booted → Type 0
GoesOn k = (k ≡ booted.Through) ⊎ (k ≡ booted.Failed)

pub boots_as : (k t : Booted) (records : List Record) (q : SessionState) (d : Device) (world : Components) (told : Told) (living : List ℕ) → k ≡ t →
    BootsLeft k records q d world told living → BootsLeft t records q d world told living
boots_as k t records q d world told living is left = subst (λ (x : Booted). BootsLeft x records q d world told living) is left

pub boots_stage : (k : Booted) (records : List Record) (q : SessionState) (d : Device) (world : Components) (told : Told) (living : List ℕ) → GoesOn k →
    BootsLeft k records q d world told living → IsAtBootStage q d world told living
boots_stage k records q d world told living (inl is) left = (boots_as k booted.Through records q d world told living is left).0
boots_stage k records q d world told living (inr is) left = (boots_as k booted.Failed records q d world told living is left).0

backing_failed : (k : Booted) (records : List Record) (q : SessionState) (d : Device) (world : Components) (told : Told) (living : List ℕ) → GoesOn k →
    IsSound d → IsIn stages.Backing d → BootsLeft k records q d world told living → has_failed d ≡ true
backing_failed k records q d world told living (inl is) sound backs left =
    let through = boots_as k booted.Through records q d world told living is left in
    absurd (never_through d sound backs through.2 through.1)
backing_failed k records q d world told living (inr is) sound backs left = (boots_as k booted.Failed records q d world told living is left).1

module _ {J D : Type 0} (is_modelled : Bool) (may_leave : D → Image → Type 0) (stands : J → Image → List (List ℕ) → Type 0) (end : J → ℕ) where
  pub still_failed : (b : Backed J) (disk : D) (k : Booted) (records : List Record) (q : SessionState) (world : Components) (told : Told) (living : List ℕ) →
      OwnsBacked is_modelled may_leave stands end b disk → GoesOn k → BootsLeft k records q (backed_device b) world told living
      → IsStillBacking b → has_failed (backed_device b) ≡ true
  still_failed (backed.Backing s) disk k records q world told living held on left still = backing_failed k records q (backing_device s) world told living on
      held.0.0.sound held.1 left
  still_failed (backed.Rolling s) disk k records q world told living held on left still = absurd still

  -- ---- what is made ready

  pub ends_ready : (boots backs : List Prepared) (items earlier : List Fitted) (b : Backed J) (disk : D) → OwnsBacked is_modelled may_leave stands end b disk
      → AreReadiedFor (backed_device b) boots backs items earlier → EndsBacks b earlier
  ends_ready boots backs items earlier (backed.Backing s) disk held ready = tt
  ends_ready boots backs items earlier (backed.Rolling s) disk held ready = earlier_ready boots backs items earlier (rolling_device s) held.1 ready

-- the bootstraps that run again
pub backs_ready : (backs : List Prepared) (earlier : List Fitted) (d : Device) → IsSound d → IsIn stages.Backing d → HasWayBack d backs earlier → AreMadeAgain
    d backs
backs_ready backs earlier d sound is way = backs_made way.0 backs way.1 earlier d sound is way.2

-- the set's items
pub set_ready : (backs : List Prepared) (earlier : List Fitted) (d : Device) → IsIn stages.Rolling d → HasWayBack d backs earlier → AreReady d earlier
set_ready backs earlier d is way = earlier_ready way.0 backs way.1 earlier d is way.2
