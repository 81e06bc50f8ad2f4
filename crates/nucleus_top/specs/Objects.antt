-- What a call that drives a deployment promises, of its objects: each trait is passed whole, and each word computes to one over its members.
use Rattle.std.specs.Prelude.{ℕ, Bool, List, Result}
use Rattle.disk_model.specs.Disk.{Image}
use Rattle.disk_model.specs.declared.disk.Disk as a_disk
use Rattle.nuc_base.specs.declared.status.Status.{Status}
use Rattle.checkpoint_log.specs.Slots.{slots_stands}
use Rattle.checkpoint_log.specs.declared.slots.Slots.{Slots}
use Rattle.edges.specs.declared.sink.Sink as a_sink
use Rattle.device.specs.Devices.{Device}
use Rattle.step_runner.specs.declared.runner.Runner as a_runner
use Rattle.admission.specs.declared.ask.Ask.{Ask}
use Rattle.admission.specs.declared.fault.Declined.{Declined}
use Rattle.deployment_doc.specs.declared.document.Document.{Document}
use Rattle.nucleus_top.specs.Answers.{Input, Shelf, Store, printed_over, store_over}
use Rattle.nucleus_top.specs.Completeness.{DeploysComplete, ResumesGetOn}
use Rattle.nucleus_top.specs.Drives.{IsInputDeployed, IsDeployed, IsDeployedOn, IsRefusedBefore, IsResumed}
use Rattle.nucleus_top.specs.declared.answer.Answer.{Answer}

-- the state owns the live slot over the disk: which state, the definition says that is passed
abbrev pub HoldsSlots : {A D : Type 0} → a_disk.Ghosts D → (Bool → (D → Image → Type 0) → (Slots → Image → List (List ℕ) → Type 0) → (Slots → ℕ) → A → D →
    Type 0) → A → D → Type 0
HoldsSlots disk owns state d = owns disk.is_modelled disk.may_leave slots_stands (λ log. log.live.end) state d

module _ {D K : Type 0} (disk : a_disk.Ghosts D) (sink : a_sink.Ghosts K) (old new : D) (k l : K) (result : Status) where
  -- it is refused before anything begins, for a reason that the disk shows
  abbrev pub IsRefusedOver : (Store → Answer → Type 0) → Type 0
  IsRefusedOver why = IsRefusedBefore disk.seen disk.may_leave disk.moment disk.left_since (why (store_over disk old new)) old new (printed_over sink k l)
      result

module _ {D K R : Type 0} (disk : a_disk.Ghosts D) (sink : a_sink.Ghosts K) (runner : a_runner.Ghosts R) (old new : D) (k l : K) (r s : R)
    (result : Status) where
  abbrev pub IsDeployedOver : Device → (ℕ → ℕ) → Shelf → (Device → Result Document Declined → Type 0) → Type 0
  IsDeployedOver = IsDeployedOn disk.may_leave disk.moment disk.left_since disk.faults old new (runner.list r) (runner.list s) (printed_over sink k l) result

  abbrev pub IsInputDeployedOver : Ask → Device → (ℕ → ℕ) → Input → Shelf → Type 0
  IsInputDeployedOver = IsInputDeployed disk.may_leave disk.moment disk.left_since disk.faults old new (runner.list r) (runner.list s)
      (printed_over sink k l) result

  abbrev pub IsDeployedFrom : Ask → Input → Shelf → Type 0
  IsDeployedFrom what = IsDeployed disk.may_leave disk.moment disk.left_since disk.faults old new (runner.list r) (runner.list s) (printed_over sink k l)
      result what (store_over disk old new)

  abbrev pub IsResumedOver : Type 0
  IsResumedOver = IsResumed disk.may_leave disk.moment disk.left_since disk.faults old new (runner.list r) (runner.list s) (printed_over sink k l) result
      (store_over disk old new)

-- ---- laws

abbrev pub DeploysCompleteOver : {D : Type 0} → a_disk.Ghosts D → Type 0
DeploysCompleteOver disk = DeploysComplete disk.is_modelled disk.seen disk.may_leave disk.moment disk.left_since disk.faults

abbrev pub ResumesGetOnOver : {D : Type 0} → a_disk.Ghosts D → Type 0
ResumesGetOnOver disk = ResumesGetOn disk.is_modelled disk.seen disk.may_leave disk.moment disk.left_since disk.faults
