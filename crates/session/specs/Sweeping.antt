-- What is left of stray files of artifacts with the status of a close.
use Rattle.std.specs.Prelude.{◌≡◌, ℕ, Bool, IsTrue, List}
use Rattle.disk_model.specs.Disk.{Image}
use Rattle.nuc_base.specs.declared.kinds.Outcome.{Outcome}
use Rattle.nuc_base.specs.declared.status.Status.{Status}
use Rattle.device.specs.Devices.{Device}
use Rattle.device.specs.Standing.{StandsFor}
use Rattle.artifact_store.specs.Swept.{IsSwept, items_of}
use Rattle.refusal_lines.specs.Statuses.{status_of_outcome}

-- With the status of a close the image as it reads has no file of an artifact but those that are named by the items of the device
-- for which it stands.
abbrev pub LeavesNoStray : Bool → (Image → List (List ℕ) → Type 0) → Status → Image → Type 0
LeavesNoStray is_modelled entries status image = IsTrue is_modelled → (o : Outcome) → status ≡ status_of_outcome o → (d : Device) →
    StandsFor entries image d → IsSwept (items_of d) image
