-- No acknowledged deployment is lost: what a call printed as accepted, in whatever calls leave behind it.
use Rattle.std.specs.Prelude.{◌≡◌, ℕ, List, ◌∷◌, ◌++◌, Option}
use Rattle.disk_model.specs.Disk.{Image}
use Rattle.disk_model.specs.declared.disk.Disk as a_disk
use Rattle.nuc_base.specs.declared.status.Status.{Status}
use Rattle.records.specs.Stored.{Accepted, Plan, Record}
use Rattle.device.specs.After.{course}
use Rattle.device.specs.Devices.{Device}
use Rattle.step_runner.specs.declared.entries.RunnerEntry.{RunnerEntry}
use Rattle.admission.specs.Requests.{AskOutcome}
use Rattle.admission.specs.declared.ask.Ask.{Ask}
use Rattle.session_serving.specs.Parts.{Outside}
use Rattle.nucleus_top.specs.Answers.{Printed, Shelf}
use Rattle.nucleus_top.specs.Drives.{IsDeployedOn}
use Rattle.nucleus_top.specs.Lasting.{IsTaken}
use Rattle.nucleus_top.specs.Opening.{IsImageOf}
use Rattle.nucleus_top.specs.Series.{IsSeries, LeftBy, MadeCall}
use Rattle.nucleus_top.specs.Serving.{IsServedOn}

-- Later calls begin with one of these images. Each image that they leave, stopped at any moment or at their end, stands for a device that has the
-- deployment of this id, pending or closed.
abbrev pub StaysTaken : (Image → Type 0) → List ℕ → Type 0
StaysTaken images id = (start : Image) → images start → (d : Device) → IsImageOf start d → (later : List MadeCall) → IsSeries d later → (image : Image) →
    LeftBy d later image → (e : Device) × IsImageOf image e × IsTaken id (course e)

-- So it is with each plan whose acceptance is among these records.
abbrev pub AllStayTaken : (Image → Type 0) → List Record → Type 0
AllStayTaken images records = (before after : List Record) (plan : Plan) → records ≡ before ++ Accepted plan ∷ after → StaysTaken images plan.id

-- `deploy`, `local` and `config-set`: `printed_records` are the records whose lines were printed.
abbrev pub DeployedStay : {D : Type 0} → (D → Image → Type 0) → (D → ℕ) → (D → ℕ → Image → Type 0) → (D → ℕ) → Type 0
DeployedStay {D} may_leave moment left_since faults = (old new : D) (old_list new_list : Option (List RunnerEntry)) (printed : Printed) (result : Status)
    (d : Device) (start : ℕ → ℕ) (library : Shelf) (what : Ask) (bytes : List ℕ)
    → (h : IsDeployedOn may_leave moment left_since faults old new old_list new_list printed result d start library (AskOutcome what bytes))
    → AllStayTaken (may_leave new) h.call.0.prints.printed_records

-- `serve`
abbrev pub ServedStay : {D : Type 0} → a_disk.Ghosts D → Type 0
ServedStay {D} disk = (old new : Outside D) (result : Status) (d : Device) (turns : ℕ)
    → (s : IsServedOn disk old new result d turns) → AllStayTaken (disk.may_leave new.disk) s.printed_records
