-- What becomes of a document in a call: whether it is taken, and what then follows.
use Rattle.std.specs.Prelude.{◌≡◌, ◌⊎◌, ℕ, ◌+◌, true, List, [], ◌∷◌, Option, Result, Ok, Err, ⊤}
use Rattle.disk_model.specs.Disk.{Image, HasLeft}
use Rattle.nuc_base.specs.declared.status.Status.{Status}
use Rattle.library_core.specs.Library.{Content}
use Rattle.records.specs.Stored.{Plan, Record, Accepted, plan_view}
use Rattle.records.specs.declared.record.Plan as code
use Rattle.records.specs.declared.record.Origin.{Origin}
use Rattle.device.specs.Devices.{Device}
use Rattle.deployment_doc.specs.Reads.{IsFault, ReadsDocument}
use Rattle.deployment_doc.specs.declared.document.Document.{Document}
use Rattle.deployment_doc.specs.declared.fault.DocFault.{DocFault}
use Rattle.plan_core.specs.Checks.{document_refusal}
use Rattle.plan_core.specs.declared.fault.Refusal.TheVariants as refusal
use Rattle.deploy_state.specs.Turning.{IsTooFar, plan_bytes}
use Rattle.step_runner.specs.declared.entries.RunnerEntry.{RunnerEntry}
use Rattle.histories.specs.TraceEvents.{records_of}
use Rattle.histories.specs.Once.{TakesOnce}
use Rattle.histories.specs.States.{SessionState}
use Rattle.admission.specs.Takes.{TakesIn}
use Rattle.admission.specs.declared.fault.Declined.{Declined}
use Rattle.admission.specs.declared.fault.Declined.TheVariants.{Refused}
use Rattle.session.specs.Calls.{Call, StandsWhole}
use Rattle.session_admission.specs.Accepts.{IsAcceptedAt}
use Rattle.session.specs.Endings.{Ending, ByDecline, ByDiskFault, Full, WantBefore, IsBegun}

-- ---- what taking it in answers

-- The bytes are no document, or there is no memory to read them; or the document that they read as is taken in so.
abbrev pub TakesRead : Device → Origin → Content → ℕ → ℕ → List ℕ → Result code.Plan Declined → Type 0
TakesRead d o content before after bytes taken =
    (taken ≡ Err (Refused refusal.NoMemory))
    ⊎ ((fault : DocFault) × IsFault bytes fault × (taken ≡ Err (Refused (document_refusal fault))))
    ⊎ ((document : Document) × ReadsDocument bytes (Ok document) × TakesIn d o content before after document taken)

-- ---- what follows

-- The function gives the place from which an entry of so many bytes would be written: there the plan fits the journal, with what
-- may follow it.
abbrev pub FitsFrom : (ℕ → ℕ) → Plan → Type 0
FitsFrom start plan = ¬ (IsTooFar (start (plan_bytes plan)) (plan_bytes plan))

-- it is not begun: for want of memory, since the disk failed where room was asked for it, or since the journal has no place
abbrev pub IsPutOff : (ℕ → ℕ) → Plan → Ending → Type 0
IsPutOff start plan WantBefore = ⊤
IsPutOff start plan ByDiskFault = ⊤
IsPutOff start plan (Full at) = (at ≡ start (plan_bytes plan)) × IsTooFar at (plan_bytes plan)
IsPutOff start plan _ = ⊥

-- A plan that is taken in is the first record, and no other is accepted; or it is put off, and there is none.
abbrev pub PlanEnding : (ℕ → ℕ) → Plan → Ending → List Record → Type 0
PlanEnding start plan ending records =
    (IsPutOff start plan ending × (records ≡ []))
    ⊎ (IsBegun ending × FitsFrom start plan × ((rest : List Record) × (records ≡ Accepted plan ∷ rest) × TakesOnce true rest))

-- A document that is not taken ends the call so, or for want of memory, with no record.
abbrev pub TakenEnding : (ℕ → ℕ) → Result code.Plan Declined → Ending → List Record → Type 0
TakenEnding start (Err d) ending records = ((ending ≡ ByDecline d) ⊎ (ending ≡ WantBefore)) × (records ≡ [])
TakenEnding start (Ok plan) ending records = PlanEnding start (plan_view plan) ending records

-- ---- where its entry stands

module _ (entries : Image → List (List ℕ) → Type 0) {D : Type 0} (may_leave : D → Image → Type 0) (moment : D → ℕ) (left_since : D → ℕ → Image → Type 0)
    (old new : D) (d : Device) where
  -- At a moment of the call each image that a crash may leave stands for the device with the plan accepted, and its live entries end here.
  pub record HasAcceptedTo (plan : Plan) (end : ℕ) : Type 0 where
    pub at : D
    pub from : HasLeft moment left_since old at (λ c. ⊤)
    pub on : HasLeft moment left_since at new (λ c. ⊤)
    pub each : (c : Image) → may_leave at c → IsAcceptedAt entries d plan end c

  -- so it is with a plan that is accepted, behind its entry, unless the disk failed as that was added
  abbrev pub AcceptsFrom : (ℕ → ℕ) → Plan → Ending → List Record → Type 0
  AcceptsFrom start plan ending records =
      (records ≡ [])
      ⊎ ((ending ≡ ByDiskFault) × (records ≡ Accepted plan ∷ []))
      ⊎ HasAcceptedTo plan (start (plan_bytes plan) + 5 + plan_bytes plan)

  -- and with one that was taken in
  abbrev pub AcceptsTaken : (ℕ → ℕ) → Result code.Plan Declined → Ending → List Record → Type 0
  AcceptsTaken start (Err x) ending records = ⊤
  AcceptsTaken start (Ok plan) ending records = AcceptsFrom start (plan_view plan) ending records

-- ---- the whole

module _ (entries : Image → List (List ℕ) → Type 0) (files : List ℕ → Type 0) {D : Type 0} (may_leave : D → Image → Type 0) (moment : D → ℕ)
    (left_since : D → ℕ → Image → Type 0) (old new : D) (old_list new_list : Option (List RunnerEntry)) (old_held new_held : Option (List ℕ))
    (p : SessionState) (status : Status) where
  -- the plan is driven, or put off
  abbrev pub DrivesPlan : (ℕ → ℕ) → Plan → Type 0
  DrivesPlan start plan =
      (c : Call entries files may_leave moment left_since old new old_list new_list old_held new_held p status) ×
      PlanEnding start plan c.ending (records_of c.history)

  -- so is a plan that was taken in, and a document that was not taken is declined
  abbrev pub DrivesTaken : (ℕ → ℕ) → Result code.Plan Declined → Type 0
  DrivesTaken start taken =
      (c : Call entries files may_leave moment left_since old new old_list new_list old_held new_held p status) ×
      TakenEnding start taken c.ending (records_of c.history)

  -- At each moment each image stands for what a prefix of the call's records makes of the device, with all of its artifacts.
  abbrev pub KeepsArtifacts : Call entries files may_leave moment left_since old new old_list new_list old_held new_held p status → Type 0
  KeepsArtifacts c = HasLeft moment left_since old new (StandsWhole entries p.device (records_of c.history))
