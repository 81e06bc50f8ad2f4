-- One deployment in one call: what happens, what is printed, and how the call ends.
use Rattle.std.specs.Prelude.{◌≡◌, ◌≢◌, ◌⊎◌, ◌≤◌, ◌-◌, ◌^◌, min, ℕ, true, List, [], ◌++◌, length, Option, Some, None, Result, Ok, Err, ⊤, codes}
use Rattle.std.specs.Option.{IsSomeAnd}
use Rattle.std.specs.Io.KnownBytes.{Appends}
use Rattle.artifact_store.specs.Holding.{HoldsDevice, HoldsItems}
use Rattle.disk_model.specs.Disk.{Image, IsAfter, HasLeft}
use Rattle.disk_model.specs.Listing.{artifacts, IsBelow}
use Rattle.disk_model.specs.Spares.{IsSameBut}
use Rattle.edges.specs.Pieces.{AppendsPrefix}
use Rattle.nuc_base.specs.declared.kinds.Outcome.{Outcome}
use Rattle.nuc_base.specs.declared.status.Status.{Status}
use Rattle.nuc_base.specs.declared.status.Status.TheVariants as statuses
use Rattle.records.specs.Stored.{Item, Plan, Record}
use Rattle.records.specs.declared.record.Origin.{Origin}
use Rattle.device.specs.Devices.{Device}
use Rattle.device.specs.Standing.{StandsFor}
use Rattle.deploy_state.specs.States.{loaded_device}
use Rattle.step_runner.specs.declared.entries.RunnerEntry.{RunnerEntry}
use Rattle.histories.specs.Courses.{IsEnd, gives_up}
use Rattle.histories.specs.TraceEvents.{TraceEvent, records_of}
use Rattle.histories.specs.Once.{TakesOnce}
use Rattle.histories.specs.States.{SessionState, state_after}
use Rattle.session_boots.specs.Booted.{AsksFor}
use Rattle.session_boots.specs.Lines.{id_of, lines_of}
use Rattle.session_boots.specs.Ends.{StopsAt}
use Rattle.session_boots.specs.Traces.{StandsForPrefix, StandsForMost, IsTrace}
use Rattle.session_boots.specs.declared.ends.Booted.TheVariants as booted
use Rattle.session_boots.specs.declared.ends.SessionFault.{SessionFault}
use Rattle.session_boots.specs.declared.ends.SessionFault.TheVariants as over
use Rattle.components.specs.Fitted.{Fitted}
use Rattle.components.specs.declared.kinds.Prepared.{Prepared}
use Rattle.session_startup.specs.Ended.{ClosesAs}
use Rattle.session_admission.specs.Readied.{IsReadied}
use Rattle.session_rollout.specs.declared.driven.Driven.{Driven}
use Rattle.session_rollout.specs.declared.driven.Driven.TheVariants as driven
use Rattle.refusal_lines.specs.Statuses.{status_of_outcome}
use Rattle.session.specs.Endings.{Ending, ByClose, ByRestart, ByReboot, ByDiskFault, BySinkFault, WantAfter, WantBefore, ByDecline, Full, Idle}
use Rattle.session.specs.Endings.{is_failing, line_of_ending}
use Rattle.session.specs.Endings.{status_of_ending}

-- ---- lines

-- One more line at most; where the sink failed a prefix of it.
abbrev pub AtMostOneLine : Option (List ℕ) → Option (List ℕ) → Status → Type 0
AtMostOneLine old new status = (last : List ℕ) × AppendsPrefix old new last × (status ≢ statuses.Edge → Appends old new last)

-- This line; where the sink failed a prefix of it.
abbrev pub SaysLine : Option (List ℕ) → Option (List ℕ) → Status → List ℕ → Type 0
SaysLine old new status line = AppendsPrefix old new line × (status ≢ statuses.Edge → Appends old new line)

-- the status, or that of a line that could not be written
abbrev pub IsOrEdge : Status → Status → Type 0
IsOrEdge status given = (status ≡ given) ⊎ (status ≡ statuses.Edge)

-- The line of a refusal with its status; or there is no memory for it, and nothing is printed.
abbrev pub SaysRefusal : Option (List ℕ) → Option (List ℕ) → Status → Status → List ℕ → Type 0
SaysRefusal old new status given line = (SaysLine old new status line × IsOrEdge status given) ⊎ ((status ≡ statuses.Memory) × (new ≡ old))

-- that the pending deployment is resumed
abbrev pub resumed_line : List ℕ → List ℕ
resumed_line id = codes "resumed " ++ id ++ codes "\n"

-- the line before those of the records, where a deployment is pending as the call begins
abbrev pub opening_line : Device → List ℕ
opening_line d = elim d.pending [ None ↦ [] | Some q ↦ resumed_line q.plan.id ]

-- The lines of a call: that of a deployment that is resumed, those of the records, and that of the ending. Where there was no
-- memory to begin there is none.
abbrev pub call_lines : Device → List Record → Ending → List ℕ
call_lines d records WantBefore = []
call_lines d records ending = opening_line d ++ (lines_of d records ++ line_of_ending ending)

-- The lines of the call. Where the disk failed that of the last record may be missing, also where the line that says so was not
-- written. Where the sink failed there is a prefix of them. What is sure of all records holds where the line of none is missing.
pub record LinesPrinted (old new : Option (List ℕ)) (d : Device) (records : List Record) (ending : Ending) (status : Status) (sure : Type 0) : Type 0 where
  pub printed_records : List Record
  pub rest : List Record
  pub split : records ≡ printed_records ++ rest
  pub few : length rest ≤ 1
  pub all : ending ≢ ByDiskFault → rest ≡ []
  pub prefix : AppendsPrefix old new (call_lines d printed_records ending)
  pub whole : status ≢ statuses.Edge → Appends old new (call_lines d printed_records ending)
  pub stable : rest ≡ [] → sure

-- ---- the end

-- the deployment of this id is pending
abbrev pub IsPendingAs : List ℕ → Device → Type 0
IsPendingAs id d = IsSomeAnd d.pending (λ q. q.plan.id ≡ id)

-- The last record is that the deployment closed so, and nothing is pending; or it asks for the restart or the reboot of the
-- pending deployment. Want of memory leaves no deployment unfinished that this call began or drove on. Where none is begun or
-- driven on nothing happens.
abbrev pub IsEndingOf : Ending → List TraceEvent → SessionState → Type 0
IsEndingOf (ByClose o) h q = ClosesAs o (records_of h) × (q.device.pending ≡ None)
IsEndingOf (ByRestart id) h q = AsksFor booted.Restart (records_of h) q.device × IsPendingAs id q.device
IsEndingOf (ByReboot id) h q = AsksFor booted.Reboot (records_of h) q.device × IsPendingAs id q.device
IsEndingOf ByDiskFault h q = ⊤
IsEndingOf BySinkFault h q = ⊤
IsEndingOf WantAfter h q = (o : Outcome) × ClosesAs o (records_of h)
IsEndingOf WantBefore h q = h ≡ []
IsEndingOf (ByDecline d) h q = h ≡ []
IsEndingOf (Full at) h q = h ≡ []
IsEndingOf Idle h q = (h ≡ []) × (q.device.pending ≡ None)

module _ (entries : Image → List (List ℕ) → Type 0) {D : Type 0} (may_leave : D → Image → Type 0) where
  -- each image that a crash may leave now stands for the device that the history leaves
  abbrev pub StandsBehind : D → SessionState → List TraceEvent → Type 0
  StandsBehind disk p h = (c : Image) → may_leave disk c → StandsFor entries c (state_after p h).device

-- Nothing happened; or nothing was done behind the last record but that children were killed and a moment was asked for.
abbrev pub QuitsAt : List TraceEvent → Type 0
QuitsAt h = (h ≡ []) ⊎ StopsAt h

-- ---- files of artifacts

-- the image stands for the device that a prefix of the records leaves, and has each artifact of that device
abbrev pub StandsWhole : (Image → List (List ℕ) → Type 0) → Device → List Record → Image → Type 0
StandsWhole entries d records image = (f : StandsForPrefix entries d records image) × HoldsDevice image f.device

-- each of these images has the artifacts of the device and of these items
abbrev pub AllHoldBoth : (Image → Type 0) → Device → List Item → Type 0
AllHoldBoth images d items = (c : Image) → images c → HoldsDevice c d × HoldsItems c items

-- ---- the whole

-- a crash at any moment changes files of artifacts alone
abbrev pub ChangesArtifactsAlone : {D : Type 0} → (D → Image → Type 0) → (D → ℕ) → (D → ℕ → Image → Type 0) → D → D → Type 0
ChangesArtifactsAlone may_leave moment left_since old new = HasLeft moment left_since old new (IsAfter (may_leave old) (IsSameBut (IsBelow artifacts)))

module _ (entries : Image → List (List ℕ) → Type 0) (files : List ℕ → Type 0) {D : Type 0} (may_leave : D → Image → Type 0) (moment : D → ℕ)
    (left_since : D → ℕ → Image → Type 0) where
  -- Files of artifacts change, then the history goes on from its first record to its last, and then files of artifacts change
  -- again. It ends as that of a session that answers this status: no child lives, and all components are stopped unless the call gives
  -- up; with another status than 5 and 6 each failure is recorded, and each end of a bootstrap but where the disk failed. How the call
  -- ends gives its status, its lines, its last record, and what the disk holds: each image stands for the device of all records, or of
  -- all but the last, whose line is then not written, and behind which nothing is started. One plan is accepted at most, and none where
  -- one was pending. A call that gives up does nothing behind its last record but that it kills its children.
  pub record Call (old new : D) (old_list new_list : Option (List RunnerEntry)) (old_held new_held : Option (List ℕ)) (p : SessionState)
      (status : Status) : Type 0 where
    pub from : D
    pub to : D
    pub before : ChangesArtifactsAlone may_leave moment left_since old from
    pub history : List TraceEvent
    pub trace : IsTrace entries files may_leave moment left_since from to old_list new_list p history
    pub after : ChangesArtifactsAlone may_leave moment left_since to new
    pub ending : Ending
    pub answers : IsOrEdge status (status_of_ending ending)
    pub prints : LinesPrinted old_held new_held p.device (records_of history) ending status (StandsBehind entries may_leave new p history)
    pub ends : IsEndingOf ending history (state_after p history)
    pub end : IsEnd (state_after p history) status (is_failing ending)
    pub stands : (c : Image) → may_leave new c → StandsForMost entries p.device (records_of history) c
    pub doubt : StandsBehind entries may_leave new p history ⊎ StopsAt history
    pub once : TakesOnce p.taken (records_of history)
    pub quits : gives_up status ≡ true → QuitsAt history

-- ---- counts of faults

-- it does not fall below what it was, up to its type's end
abbrev pub HasNotFallen : ℕ → ℕ → Type 0
HasNotFallen before now = min before (2 ^ 64 - 1) ≤ now

-- ---- by name

-- every file but the journal's and those of artifacts is as before
abbrev pub AreOthersSame : (List ℕ → Type 0) → Image → Image → Type 0
AreOthersSame files old new = (name : List ℕ) → ¬ (files name) → ¬ (IsBelow artifacts name) → new name ≡ old name

-- how a call ends behind the close of its deployment
abbrev pub CloseEnding : Outcome → Ending → Type 0
CloseEnding o ending = (ending ≡ ByClose o) ⊎ (ending ≡ WantAfter) ⊎ (ending ≡ ByDiskFault)

-- how a call ends whose deployment was driven so
abbrev pub DrivenEnding : {J : Type 0} → Result (Driven J) SessionFault → Ending → Type 0
DrivenEnding (Ok (driven.Closed s o c)) ending = CloseEnding o ending
DrivenEnding (Ok (driven.Restart s)) ending = ending ≡ ByRestart (id_of (loaded_device s))
DrivenEnding (Ok (driven.Reboot s)) ending = ending ≡ ByReboot (id_of (loaded_device s))
DrivenEnding (Err over.Disk) ending = ending ≡ ByDiskFault
DrivenEnding (Err over.Output) ending = ending ≡ BySinkFault

-- by some ending its line is said with its status
abbrev pub SaysEnding : Option (List ℕ) → Option (List ℕ) → Status → (Ending → Type 0) → Type 0
SaysEnding old new status is = (ending : Ending) × is ending × SaysLine old new status (line_of_ending ending) × IsOrEdge status (status_of_ending ending)

-- with which status a call ends whose deployment was given up
abbrev pub GivenUpStatus : SessionFault → Status → Type 0
GivenUpStatus over.Disk status = (status ≡ statuses.Disk) ⊎ (status ≡ statuses.Edge)
GivenUpStatus over.Output status = status ≡ statuses.Edge

-- with which status a call ends whose deployment was driven so
abbrev pub DrivenStatus : {J : Type 0} → Result (Driven J) SessionFault → Status → Type 0
DrivenStatus (Ok (driven.Closed s o c)) status = (status ≡ status_of_outcome o) ⊎ (status ≡ statuses.Memory) ⊎ (status ≡ statuses.Disk) ⊎
    (status ≡ statuses.Edge)
DrivenStatus (Ok (driven.Restart s)) status = (status ≡ statuses.Restart) ⊎ (status ≡ statuses.Edge)
DrivenStatus (Ok (driven.Reboot s)) status = (status ≡ statuses.Reboot) ⊎ (status ≡ statuses.Edge)
DrivenStatus (Err e) status = GivenUpStatus e status

-- what a plan and its way back need is made ready for a device of some origin
abbrev pub IsReadiedOn : Device → Plan → List Prepared → List Prepared → List Fitted → List Fitted → Type 0
IsReadiedOn d plan boots backs items earlier = (o : Origin) × (d.origin ≡ Some o) × IsReadied o d.set plan boots backs items earlier
