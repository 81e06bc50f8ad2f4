-- What each image at the end of a call that drives deployments has of what was recorded in it.
use Rattle.std.specs.Prelude.{◌≡◌, ℕ, true, List, Option}
use Rattle.nuc_base.specs.declared.kinds.Exit.{Exit}
use Rattle.nuc_base.specs.declared.kinds.Step.{Step}
use Rattle.nuc_base.specs.declared.status.Status.{Status}
use Rattle.disk_model.specs.Disk.{Image}
use Rattle.disk_model.specs.declared.disk.Disk as a_disk
use Rattle.device.specs.Devices.{Device}
use Rattle.checkpoint_log.specs.Slots.{slots_entries, slots_files}
use Rattle.records.specs.Stored.{StepFailed}
use Rattle.step_runner.specs.declared.entries.RunnerEntry.{RunnerEntry}
use Rattle.components.specs.declared.kinds.Prepared.{Prepared}
use Rattle.histories.specs.States.{SessionState}
use Rattle.histories.specs.TraceEvents.{Booted, TraceEvent, records_of}
use Rattle.law_histories.specs.Starts.{IsFirstLeft}
use Rattle.law_histories.specs.Stood.{IsHistory, HasHappened}
use Rattle.law_reopening.specs.Failed.{HasBehind, HasFailed, is_start, starts}
use Rattle.law_reopening.specs.Reopened.{AllKeep}
use Rattle.session_boots.specs.Traces.{StandsForPrefix}
use Rattle.session.specs.Calls.{Call}
use Rattle.session_serving.specs.Parts.{Outside}
use Rattle.nucleus_top.specs.Serving.{IsServedOn}

module _ {D : Type 0} (may_leave : D → Image → Type 0) where
  -- Where a bootstrap starts its beginning is in each image, or it had begun as the call began. Where anything starts behind the failure of a
  -- component, while a deployment is pending, the record of that failure is in each.
  pub record RecordsReopened (new : D) (p : SessionState) (h : List TraceEvent) : Type 0 where
    pub boots : (before : List TraceEvent) (e : RunnerEntry) (m : Prepared) → HasHappened h (Booted e m) before → is_start e.seen ≡ true →
        IsFirstLeft p before m × AllKeep slots_entries may_leave new p h (records_of before)
    pub failures : (before : List TraceEvent) (e : TraceEvent) (name : List ℕ) (s : Step) (x : Exit) → HasHappened h e before → starts e ≡ true →
        (f : HasFailed p before name s x) (c : Image) → may_leave new c →
        (g : StandsForPrefix slots_entries p.device (records_of h) c) × HasBehind (records_of f.before) g.prefix (StepFailed name s x)

  -- so it is with each call that drives one deployment
  abbrev pub CallsReopen : (D → ℕ) → (D → ℕ → Image → Type 0) → Type 0
  CallsReopen moment left_since = (old new : D) (old_list new_list : Option (List RunnerEntry)) (old_held new_held : Option (List ℕ)) (p : SessionState)
      (status : Status) (c : Call slots_entries slots_files may_leave moment left_since old new old_list new_list old_held new_held p status) →
      IsHistory p c.history → RecordsReopened new p c.history

-- and with each call that serves
abbrev pub ServesReopen : {D : Type 0} → a_disk.Ghosts D → Type 0
ServesReopen {D} disk = (old new : Outside D) (result : Status) (d : Device) (turns : ℕ)
    (s : IsServedOn disk old new result d turns) → RecordsReopened disk.may_leave new.disk s.state s.history
