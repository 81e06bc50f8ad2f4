-- What the images at the end of a call have of what was recorded in it.
use Rattle.std.specs.Prelude.{◌≡◌, ◌⊎◌, ℕ, true, List, ◌++◌}
use Rattle.nuc_base.specs.declared.kinds.Step.{Step}
use Rattle.nuc_base.specs.declared.kinds.Exit.{Exit}
use Rattle.records.specs.Stored.{Record, StepFailed}
use Rattle.disk_model.specs.Disk.{Image}
use Rattle.device.specs.Standing.{StandsFor}
use Rattle.step_runner.specs.declared.entries.RunnerEntry.{RunnerEntry}
use Rattle.components.specs.declared.kinds.Prepared.{Prepared}
use Rattle.histories.specs.TraceEvents.{TraceEvent, Booted, records_of}
use Rattle.histories.specs.States.{SessionState, state_after}
use Rattle.session_boots.specs.Ends.{StopsAt}
use Rattle.session_boots.specs.Traces.{StandsForPrefix, StandsForMost}
use Rattle.law_histories.specs.Starts.{IsFirstLeft}
use Rattle.law_histories.specs.Stood.{IsHistory, HasHappened}
use Rattle.law_reopening.specs.Failed.{HasBehind, HasFailed, is_start, starts}

module _ (entries : Image → List (List ℕ) → Type 0) {D : Type 0} (may_leave : D → Image → Type 0) where
  -- What a call says of the images that a crash may leave at its end: each stands for the device of all its records, or of all but
  -- the last; and where that is in doubt nothing was started behind the last.
  pub record IsLeft (disk : D) (p : SessionState) (h : List TraceEvent) : Type 0 where
    pub stands : (c : Image) → may_leave disk c → StandsForMost entries p.device (records_of h) c
    pub doubt : ((c : Image) → may_leave disk c → StandsFor entries c (state_after p h).device) ⊎ StopsAt h

  -- each image stands for the device of a prefix of the records that begins with these
  abbrev pub AllKeep : D → SessionState → List TraceEvent → List Record → Type 0
  AllKeep disk p h kept = (c : Image) → may_leave disk c → (f : StandsForPrefix entries p.device (records_of h) c) × (more : List Record) ×
      (f.prefix ≡ kept ++ more)

  -- Where something starts in a call, each image at its end has all that was recorded before.
  abbrev pub StartsStand : Type 0
  StartsStand = (disk : D) (p : SessionState) (h before : List TraceEvent) (e : TraceEvent) → IsHistory p h → IsLeft disk p h → HasHappened h e before →
      starts e ≡ true
      → AllKeep disk p h (records_of before)

  -- So it is where a bootstrap starts, whose beginning is the last of these; or none of these is there, and it had begun as the call began.
  abbrev pub BootStartsStand : Type 0
  BootStartsStand = (disk : D) (p : SessionState) (h before : List TraceEvent) (e : RunnerEntry) (m : Prepared) → IsHistory p h → IsLeft disk p h →
      HasHappened h (Booted e m) before → is_start e.seen ≡ true
      → IsFirstLeft p before m × AllKeep disk p h (records_of before)

  -- Where something starts behind the failure of a component, each image at the end of the call has the record of that failure.
  abbrev pub FailuresStand : Type 0
  FailuresStand = (disk : D) (p : SessionState) (h before : List TraceEvent) (e : TraceEvent) (name : List ℕ) (s : Step) (x : Exit) → IsHistory p h →
      IsLeft disk p h → HasHappened h e before → starts e ≡ true → (f : HasFailed p before name s x) (c : Image) → may_leave disk c
      → (g : StandsForPrefix entries p.device (records_of h) c) × HasBehind (records_of f.before) g.prefix (StepFailed name s x)
