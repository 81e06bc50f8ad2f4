-- What `workload` answers.
use Rattle.std.specs.Prelude.{◌≡◌, ◌≢◌, ◌⊎◌, ℕ, true, false, List, [], ◌∷◌, Some, None, Result, codes, ⊤}
use Rattle.std.specs.Option.{IsSome}
use Rattle.disk_model.specs.Disk.{Image}
use Rattle.nuc_base.specs.declared.status.Status.{Status}
use Rattle.nuc_base.specs.declared.status.Status.TheVariants as status
use Rattle.library_core.specs.Library.{Content}
use Rattle.library_core.specs.Nothing.{no_artifacts}
use Rattle.records.specs.declared.record.Origin.{Origin}
use Rattle.records.specs.declared.record.Plan as code
use Rattle.device.specs.Devices.{Device}
use Rattle.histories.specs.TraceEvents.{TraceEvent, records_of}
use Rattle.histories.specs.States.{SessionState, state_after}
use Rattle.law_histories.specs.Stood.{IsHistory}
use Rattle.admission.specs.Requests.{AskOutcome, TakesBy}
use Rattle.admission.specs.declared.ask.Ask.TheVariants as ask
use Rattle.admission.specs.declared.fault.Declined.{Declined}
use Rattle.session.specs.Calls.{IsEndingOf}
use Rattle.session.specs.Documents.{TakenEnding}
use Rattle.session.specs.Endings.{Ending, status_of_ending}
use Rattle.workload.specs.Answers.{is_want}
use Rattle.workload.specs.Inputs.{documents_from, recipes_from}
use Rattle.workload.specs.Tallies.{tally_line, tally_of}
use Rattle.nucleus_top.specs.Answers.{Store, Printed, IsUnchanged, HasPrinted}
use Rattle.nucleus_top.specs.Begun.{begun_device}
use Rattle.nucleus_top.specs.Opening.{IsImageOf}
use Rattle.nucleus_top.specs.declared.answer.Answer.{Answer}
use Rattle.nucleus_top.specs.declared.answer.Answer.TheVariants.{Drawn, NoMemory}

-- ---- what the deployments go through

-- what the store of a workload begins with
abbrev pub workload_origin : Origin
workload_origin = record {
  root = codes "/w";
  thing = codes "w";
  nucleus = codes "2.12.0";
  platform = record { os = codes "linux"; architecture = codes "amd64" };
}

-- its library: the drawn recipes, and no artifact
abbrev pub drawn_content : ℕ → Content
drawn_content seed = record { recipes = Some (recipes_from seed).value; artifacts = Some no_artifacts; tells = true }

-- the journal of the image stands for this device, which was begun
abbrev pub IsBegunAs : Image → Device → Type 0
IsBegunAs image d = IsImageOf image d × IsSome d.origin

-- Over a library of this content the document makes this device of one without a pending deployment. It comes to a plan or not by the
-- checks of `deploy` in their order, and what then happens is a history of a call. That ends for no want of memory, and leaves the device.
pub record IsDeployment (content : Content) (document : List ℕ) (d e : Device) : Type 0 where
  pub idle : d.pending ≡ None
  pub origin : Origin
  pub origin_is : d.origin ≡ Some origin
  pub taken : Result code.Plan Declined
  -- the library failed nothing: its count of faults is one before and after
  pub count : ℕ
  pub takes : TakesBy (AskOutcome ask.Document document) d origin content count count taken
  pub state : SessionState
  pub serves : state.serves ≡ false
  pub device_is : state.device ≡ d
  pub history : List TraceEvent
  pub is_history : IsHistory state history
  pub start : ℕ → ℕ
  pub ending : Ending
  pub follows : TakenEnding start taken ending (records_of history)
  pub ends : IsEndingOf ending history (state_after state history)
  pub no_want : is_want (status_of_ending ending) ≡ false
  pub leaves : e ≡ (state_after state history).device

-- it is deployed so; or one is pending, and the device stays
abbrev pub DeviceAfterOne : Content → List ℕ → Device → Device → Type 0
DeviceAfterOne content document d e = IsDeployment content document d e ⊎ ((d.pending ≢ None) × (e ≡ d))

-- so the documents go through, one after another, each on the device that the one before it left
abbrev pub DeviceAfterAll : Content → List (List ℕ) → Device → Device → Type 0
DeviceAfterAll content [] d e = e ≡ d
DeviceAfterAll content (document ∷ documents) d f = (e : Device) × DeviceAfterOne content document d e × DeviceAfterAll content documents e f

-- ---- the answer

-- the drawn documents went through from a new store on, and the line has the counts of the closed list in the end
abbrev pub IsTally : ℕ → List ℕ → Type 0
IsTally seed text =
    (d : Device) × DeviceAfterAll (drawn_content seed) (documents_from seed).value (begun_device workload_origin) d
    × (text ≡ tally_line seed (tally_of d.closed))

-- such a line, or want of memory
abbrev pub TellsTally : ℕ → Answer → Type 0
TellsTally seed (Drawn text) = IsTally seed text
TellsTally seed NoMemory = ⊤
TellsTally seed _ = ⊥

-- Why an answer comes. Every file reads as before.
abbrev pub WorkloadAnswer : ℕ → Store → Answer → Type 0
WorkloadAnswer seed store (Drawn text) = IsUnchanged store × IsTally seed text
WorkloadAnswer seed store NoMemory = IsUnchanged store
WorkloadAnswer seed store _ = IsUnchanged store × ⊥

pub record WorkloadParts (seed : ℕ) (store : Store) (printed : Printed) (result : Status) : Type 0 where
  -- 0, and the line was printed; or 6, or 15.
  pub which : (result ≡ status.Done) ⊎ (result ≡ status.Edge) ⊎ (result ≡ status.Memory)
  pub done : result ≡ status.Done → (text : List ℕ) × IsTally seed text × HasPrinted printed text
  -- Whatever it answers, every file reads as before.
  pub reads_only : IsUnchanged store
