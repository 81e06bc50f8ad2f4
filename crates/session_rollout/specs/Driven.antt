-- The course of a deployment that is driven, and how it ends.
use Rattle.std.specs.Prelude.{ℕ, Bool, List, Option, Result, OnErr}
use Rattle.device.specs.Devices.{Device}
use Rattle.disk_model.specs.Disk.{Image}
use Rattle.disk_model.specs.declared.disk.Disk as a_disk
use Rattle.gate_log.specs.declared.journal.Journal as a_journal
use Rattle.edges.specs.declared.sink.Sink as a_sink
use Rattle.step_runner.specs.declared.runner.Runner as a_runner
use Rattle.deploy_state.specs.States.{OwnsIdle, OwnsLoaded, idle_device, loaded_device}
use Rattle.step_runner.specs.Entries.{Told}
use Rattle.step_runner.specs.declared.entries.RunnerEntry.{RunnerEntry}
use Rattle.components.specs.Components.{Components}
use Rattle.histories.specs.Courses.{IsBare}
use Rattle.histories.specs.Phases.{Generation, current, draining}
use Rattle.histories.specs.TraceEvents.{TraceEvent, records_of}
use Rattle.histories.specs.States.{SessionState, state_after}
use Rattle.session_boots.specs.Booted.{BootsLeft}
use Rattle.session_boots.specs.Ends.{ResultLeft, HasLines}
use Rattle.session_boots.specs.Traces.{IsTrace}
use Rattle.session_boots.specs.declared.ends.SessionFault.{SessionFault}
use Rattle.session_boots.specs.declared.ends.Booted.TheVariants as booted
use Rattle.session_startup.specs.Ended.{HasClosed}
use Rattle.session_rollout.specs.declared.driven.Driven.{Driven}
use Rattle.session_rollout.specs.declared.driven.Driven.TheVariants as driven
use Rattle.session_rollout.specs.declared.driven.Presence.{Presence}
use Rattle.session_rollout.specs.declared.driven.Presence.TheVariants as presences

-- who the components are behind a close: those of the set, or none stands
abbrev pub generation_left : Presence → Generation
generation_left presences.Present = current
generation_left presences.Absent = draining

-- It closed, and the components are as they were; or a bootstrap's end asks that the call ends.
abbrev pub DrivenLeft : {J : Type 0} → Driven J → List TraceEvent → SessionState → Components → Told → List ℕ → Type 0
DrivenLeft (driven.Closed s o c) h q world told living = HasClosed o (generation_left c) h q (idle_device s) world told living
DrivenLeft (driven.Restart s) h q world told living = BootsLeft booted.Restart (records_of h) q (loaded_device s) world told living
DrivenLeft (driven.Reboot s) h q world told living = BootsLeft booted.Reboot (records_of h) q (loaded_device s) world told living

abbrev pub driven_device : {J : Type 0} → Driven J → Device
driven_device (driven.Closed s o c) = idle_device s
driven_device (driven.Restart s) = loaded_device s
driven_device (driven.Reboot s) = loaded_device s

module _ {J D : Type 0} (is_modelled : Bool) (may_leave : D → Image → Type 0) (stands : J → Image → List (List ℕ) → Type 0) (end : J → ℕ) where
  abbrev pub OwnsDriven : Driven J → D → Type 0
  OwnsDriven (driven.Closed s o c) disk = OwnsIdle is_modelled may_leave stands end s disk
  OwnsDriven (driven.Restart s) disk = OwnsLoaded is_modelled may_leave stands end s disk
  OwnsDriven (driven.Reboot s) disk = OwnsLoaded is_modelled may_leave stands end s disk

-- From a state on this happened, its lines were printed, and it leaves what is said of the result. Where it gives up no
-- child lives.
module _ (entries : Image → List (List ℕ) → Type 0) (files : List ℕ → Type 0) {D : Type 0} (may_leave : D → Image → Type 0) (moment : D → ℕ)
    (left_since : D → ℕ → Image → Type 0) where
  pub record DrivenCourse {A : Type 0} (old new : D) (old_list new_list : Option (List RunnerEntry)) (old_held new_held : Option (List ℕ)) (p : SessionState)
      (result : Result A SessionFault) (is : A → List TraceEvent → SessionState → Type 0) : Type 0 where
    pub history : List TraceEvent
    pub trace : IsTrace entries files may_leave moment left_since old new old_list new_list p history
    pub lines : HasLines old_held new_held p.device (records_of history) result
    pub left : ResultLeft entries may_leave new p history (λ x q. is x history q) result
    pub bare : OnErr result (IsBare (state_after p history))

-- the same, each device passed with all that its trait tells
module _ {D J K R : Type 0} (disk : a_disk.Ghosts D) (journal : a_journal.Ghosts J) (sink : a_sink.Ghosts K) (runner : a_runner.Ghosts R) where
  abbrev pub IsCourse : {A : Type 0} → D → D → K → K → R → R → SessionState → Result A SessionFault → (A → List TraceEvent → SessionState → Type 0) → Type 0
  IsCourse d e k l r s p result is = DrivenCourse journal.entries journal.files disk.may_leave disk.moment disk.left_since d e
      (runner.list r) (runner.list s) (sink.held k) (sink.held l) p result is
