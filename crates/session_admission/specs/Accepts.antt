-- A deployment begins: from where it may, and what its acceptance leaves.
use Rattle.std.specs.Prelude.{◌≡◌, ℕ, Bool, false, List, None, Result, Ok, Err, ⊤}
use Rattle.disk_model.specs.Disk.{Image}
use Rattle.gate_log.specs.Place.{place_behind}
use Rattle.records.specs.Stored.{Plan, Accepted}
use Rattle.device.specs.Devices.{Device}
use Rattle.device.specs.Lawful.{applied}
use Rattle.device.specs.Standing.{StandsFor}
use Rattle.deploy_state.specs.States.{OwnsBooting, OwnsIdle, booting_device, idle_device}
use Rattle.deploy_state.specs.declared.fault.AcceptRefusal.{AcceptRefusal}
use Rattle.deploy_state.specs.declared.fault.AcceptRefusal.TheVariants as refused
use Rattle.step_runner.specs.Entries.{Told}
use Rattle.components.specs.Components.{Components}
use Rattle.components.specs.Turns.{IsQuiet}
use Rattle.histories.specs.Phases.{is_shutting_down}
use Rattle.histories.specs.States.{SessionState}
use Rattle.histories.specs.Courses.{IsStateOf}
use Rattle.histories.specs.Follows.{MayTakeBy}
use Rattle.session_boots.specs.Stands.{IsOpened}
use Rattle.session_boots.specs.declared.ends.SessionFault.{SessionFault}
use Rattle.session_boots.specs.declared.ends.SessionFault.TheVariants as over
use Rattle.session_admission.specs.declared.accepting.Taken.{Taken}
use Rattle.session_admission.specs.declared.accepting.Taken.TheVariants as taken

-- ---- where a deployment may begin

-- Nothing is open, no component may act, and the call may take a document.
pub record IsOpen (p : SessionState) (d : Device) (world : Components) (told : Told) (living : List ℕ) : Type 0 where
  pub stands : IsStateOf p d world told living
  pub quiet : IsQuiet p.world
  pub going : is_shutting_down p.generation ≡ false
  pub boot : p.boot ≡ None
  pub boot_end : p.boot_end ≡ None
  pub takes : MayTakeBy p.serves p
  pub over : p.over ≡ false
  pub cut : p.cut ≡ false

-- ---- answers

abbrev pub AcceptAnswer : Type 0 → Type 0
AcceptAnswer J = Result (Taken J) SessionFault

-- what a refusal is answered with
abbrev pub answer_of : {J : Type 0} → AcceptRefusal J → AcceptAnswer J
answer_of (refused.Full s at) = Ok (taken.Full s at)
answer_of (refused.NoMemory s) = Ok (taken.NoMemory s)
answer_of (refused.NoRoom s) = Ok (taken.NoRoom s)
answer_of (refused.Stopped s) = Err over.Disk

-- the plan was not given back
abbrev pub HasTaken : {J : Type 0} → AcceptAnswer J → Type 0
HasTaken (Ok (taken.Accepted s)) = ⊤
HasTaken (Ok (taken.Full s at)) = ⊥
HasTaken (Ok (taken.NoMemory s)) = ⊥
HasTaken (Ok (taken.NoRoom s)) = ⊥
HasTaken (Err e) = ⊤

-- the disk failed: for the call, or where it was asked for room
abbrev pub HasDiskFailed : {J : Type 0} → AcceptAnswer J → Type 0
HasDiskFailed (Ok (taken.Accepted s)) = ⊥
HasDiskFailed (Ok (taken.Full s at)) = ⊥
HasDiskFailed (Ok (taken.NoMemory s)) = ⊥
HasDiskFailed (Ok (taken.NoRoom s)) = ⊤
HasDiskFailed (Err over.Disk) = ⊤
HasDiskFailed (Err over.Output) = ⊥

abbrev pub TakenLeft : {J : Type 0} → Taken J → SessionState → Components → Told → List ℕ → Type 0
TakenLeft (taken.Accepted s) q world told living = IsOpened q (booting_device s) world told living
TakenLeft (taken.Full s at) q world told living = ⊥
TakenLeft (taken.NoMemory s) q world told living = ⊥
TakenLeft (taken.NoRoom s) q world told living = ⊥

-- with the plan accepted the device has it pending, and else it is as it was
abbrev pub IsTakenOf : {J : Type 0} → Device → Plan → Taken J → Type 0
IsTakenOf d plan (taken.Accepted s) = booting_device s ≡ applied d (Accepted plan)
IsTakenOf d plan (taken.Full s at) = idle_device s ≡ d
IsTakenOf d plan (taken.NoMemory s) = idle_device s ≡ d
IsTakenOf d plan (taken.NoRoom s) = idle_device s ≡ d

module _ {J D : Type 0} (is_modelled : Bool) (may_leave : D → Image → Type 0) (stands : J → Image → List (List ℕ) → Type 0) (end : J → ℕ) where
  abbrev pub OwnsTaken : Taken J → D → Type 0
  OwnsTaken (taken.Accepted s) disk = OwnsBooting is_modelled may_leave stands end s disk
  OwnsTaken (taken.Full s at) disk = OwnsIdle is_modelled may_leave stands end s disk
  OwnsTaken (taken.NoMemory s) disk = OwnsIdle is_modelled may_leave stands end s disk
  OwnsTaken (taken.NoRoom s) disk = OwnsIdle is_modelled may_leave stands end s disk

-- it does not fit from this place on
abbrev pub IsFullAt : {J : Type 0} → AcceptAnswer J → ℕ → Type 0
IsFullAt (Ok (taken.Accepted s)) at = ⊥
IsFullAt (Ok (taken.Full s place)) at = place ≡ at
IsFullAt (Ok (taken.NoMemory s)) at = ⊥
IsFullAt (Ok (taken.NoRoom s)) at = ⊥
IsFullAt (Err e) at = ⊥

-- so it is, or there is no memory
abbrev pub IsFullOrShort : {J : Type 0} → AcceptAnswer J → ℕ → Type 0
IsFullOrShort (Ok (taken.Accepted s)) at = ⊥
IsFullOrShort (Ok (taken.Full s place)) at = place ≡ at
IsFullOrShort (Ok (taken.NoMemory s)) at = ⊤
IsFullOrShort (Ok (taken.NoRoom s)) at = ⊥
IsFullOrShort (Err e) at = ⊥

-- ---- where its entry stands

-- The image stands for the device with the plan accepted, and its live entries end here.
pub record IsAcceptedAt (entries : Image → List (List ℕ) → Type 0) (d : Device) (plan : Plan) (end : ℕ) (image : Image) : Type 0 where
  pub stands : StandsFor entries image (applied d (Accepted plan))
  pub ends : place_behind stands.payloads ≡ end
