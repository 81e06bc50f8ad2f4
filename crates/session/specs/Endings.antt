-- How a call ends that drives one deployment: why, with which status, and with which line.
use Rattle.std.specs.Prelude.{◌≡◌, ◌⊎◌, ℕ, Bool, true, false, List, [], ◌++◌, Option, Some, None, ⊤, codes, decimal}
use Rattle.nuc_base.specs.declared.kinds.Outcome.{Outcome}
use Rattle.nuc_base.specs.declared.status.Status.{Status}
use Rattle.nuc_base.specs.declared.status.Status.TheVariants as statuses
use Rattle.device.specs.Devices.{Device, Pending}
use Rattle.admission.specs.declared.fault.Declined.{Declined}
use Rattle.refusal_lines.specs.Statuses.{status_of_outcome}
use Rattle.session.specs.Declines.{disk_line, line_of_declined, status_of_declined}

pub data Ending : Type 0 where
  -- its deployment closed so
  ByClose : Outcome → Ending
  -- the deployment of this id asks for a restart
  ByRestart : List ℕ → Ending
  -- or for a reboot
  ByReboot : List ℕ → Ending
  -- the disk failed
  ByDiskFault : Ending
  -- the line of a record, or that of a deployment that is resumed, could not be written
  BySinkFault : Ending
  -- there is no memory behind a close, or a stage did not end
  WantAfter : Ending
  -- there was no memory to begin, or for the line of a refusal
  WantBefore : Ending
  -- the document is not taken
  ByDecline : Declined → Ending
  -- from this place on the journal has no room for the deployment
  Full : ℕ → Ending
  -- nothing is pending
  Idle : Ending

-- where the line of the ending is written
abbrev pub status_of_ending : Ending → Status
status_of_ending (ByClose o) = status_of_outcome o
status_of_ending (ByRestart id) = statuses.Restart
status_of_ending (ByReboot id) = statuses.Reboot
status_of_ending ByDiskFault = statuses.Disk
status_of_ending BySinkFault = statuses.Edge
status_of_ending WantAfter = statuses.Memory
status_of_ending WantBefore = statuses.Memory
status_of_ending (ByDecline d) = status_of_declined d
status_of_ending (Full at) = statuses.Limit
status_of_ending Idle = statuses.Done

abbrev pub restart_line : List ℕ → List ℕ
restart_line id = codes "restart " ++ id ++ codes "\n"

abbrev pub reboot_line : List ℕ → List ℕ
reboot_line id = codes "reboot " ++ id ++ codes "\n"

abbrev pub full_line : ℕ → List ℕ
full_line at = codes "refused 14 JournalFull " ++ decimal at ++ codes "\n"

-- the line behind those of the records; that of a close is its record's
abbrev pub line_of_ending : Ending → List ℕ
line_of_ending (ByClose o) = []
line_of_ending (ByRestart id) = restart_line id
line_of_ending (ByReboot id) = reboot_line id
line_of_ending ByDiskFault = disk_line
line_of_ending BySinkFault = []
line_of_ending WantAfter = []
line_of_ending WantBefore = []
line_of_ending (ByDecline d) = line_of_declined d
line_of_ending (Full at) = full_line at
line_of_ending Idle = codes "idle\n"

-- the disk failed in the call
abbrev pub is_failing : Ending → Bool
is_failing ByDiskFault = true
is_failing ending = false

-- a deployment was begun or driven on
abbrev pub IsBegun : Ending → Type 0
IsBegun WantBefore = ⊥
IsBegun (ByDecline d) = ⊥
IsBegun (Full at) = ⊥
IsBegun Idle = ⊥
IsBegun _ = ⊤

-- where none was pending there is nothing to resume, and else it is driven on, or there is no memory for that
abbrev pub PendingEnding : Option Pending → Ending → Type 0
PendingEnding None ending = ending ≡ Idle
PendingEnding (Some q) ending = IsBegun ending ⊎ (ending ≡ WantBefore)

abbrev pub ResumeEnding : Device → Ending → Type 0
ResumeEnding d ending = PendingEnding d.pending ending
