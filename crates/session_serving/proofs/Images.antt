-- What a crash leaves of one deployment.
use Rattle.std.specs.Prelude.{ℕ, List, [], Option}
use Rattle.std.proofs.Common.{refl, subst}
use Rattle.disk_model.specs.Disk.{IsAfter, DiskLaws, Image, HasLeft}
use Rattle.disk_model.specs.Listing.{artifacts, IsBelow}
use Rattle.disk_model.specs.Moments.{joined, now, weaker}
use Rattle.disk_model.specs.Spares.{IsSameBut}
use Rattle.disk_model.specs.declared.disk.Disk as a_disk
use Rattle.gate_log.specs.Journal.{JournalLaws}
use Rattle.gate_log.specs.declared.journal.Journal as a_journal
use Rattle.nuc_base.specs.declared.status.Status.{Status}
use Rattle.records.specs.Stored.{Record}
use Rattle.device.specs.Devices.{Device}
use Rattle.device.specs.Standing.{StandsFor}
use Rattle.device.proofs.OneDevice.{same_device_for}
use Rattle.admission.specs.Takes.{LieElsewhere}
use Rattle.artifact_store.specs.Holding.{AllHoldDevice, HoldsDevice}
use Rattle.step_runner.specs.declared.entries.RunnerEntry.{RunnerEntry}
use Rattle.histories.specs.States.{SessionState}
use Rattle.histories.specs.TraceEvents.{records_of}
use Rattle.session_boots.specs.Traces.{StandsForPrefix}
use Rattle.session.specs.Calls.{ChangesArtifactsAlone, StandsWhole}
use Rattle.session.specs.Endings.{Ending}
use Rattle.session.specs.Parts.{Part}
use Rattle.session_serving.specs.Parts.{AllStandFor, AreOfFiles}

module _ {D J : Type 0} (disk : a_disk.Ghosts D) (journal : a_journal.Ghosts J)
    (laws : DiskLaws disk.is_modelled disk.seen disk.may_leave disk.moment disk.left_since) (apart : LieElsewhere journal.files)
    (own : AreOfFiles journal.files journal.entries) where
  stands_stays : (d : Device) (a b : Image) → IsSameBut (IsBelow artifacts) a b → StandsFor journal.entries a d → StandsFor journal.entries b d
  stands_stays d a b spares h = record {
    payloads = h.payloads;
    live = own a b h.payloads (λ name is. spares name (λ below. apart name is below)) h.live;
    means = h.means;
    room = h.room;
  }

  prefix_stays : (d : Device) (records : List Record) (a b : Image) → IsSameBut (IsBelow artifacts) a b → StandsForPrefix journal.entries d records a →
      StandsForPrefix journal.entries d records b
  prefix_stays d records a b spares h = record {
    prefix = h.prefix;
    rest = h.rest;
    split = h.split;
    device = h.device;
    run = h.run;
    stands = stands_stays h.device a b spares h.stands;
  }

  pub spared_images : (old new : D) (d : Device) (records : List Record) → ((c : Image) → disk.may_leave old c → StandsForPrefix journal.entries d records c) →
      ChangesArtifactsAlone disk.may_leave disk.moment disk.left_since old new →
      HasLeft disk.moment disk.left_since old new (StandsForPrefix journal.entries d records)
  spared_images old new d records stands changes =
      weaker laws old new (IsAfter (disk.may_leave old) (IsSameBut (IsBelow artifacts))) (StandsForPrefix journal.entries d records)
      (λ c was. prefix_stays d records was.0 c was.2 (stands was.0 was.1)) changes

  module _ (old new : D) (a b : Option (List RunnerEntry)) (u v : Option (List ℕ)) (p : SessionState) (status : Status)
      (leaves : Ending → SessionState → Type 0) where
    abbrev IsPart : Type 0
    IsPart = Part journal.entries journal.files disk.may_leave disk.moment disk.left_since old new a b u v p status leaves

    -- at each moment each image stands for what a prefix of the records makes of the device
    pub part_images : (part : IsPart) → AllStandFor disk journal old p.device →
        HasLeft disk.moment disk.left_since old new (StandsForPrefix journal.entries p.device (records_of part.history))
    part_images part stands =
        let records = records_of part.history in
        let prefix = StandsForPrefix journal.entries p.device records in
        let before : HasLeft disk.moment disk.left_since old part.from prefix = spared_images old part.from p.device records
        (λ c left. record { prefix = []; rest = records; split = refl; device = p.device; run = refl; stands = stands c left }) part.before in
        let trace : HasLeft disk.moment disk.left_since part.from part.to prefix = weaker laws part.from part.to _ prefix
        (λ c was. was.2.here) part.trace.course
        in
        let after : HasLeft disk.moment disk.left_since part.to new prefix =
        spared_images part.to new p.device records (now laws part.from part.to prefix trace) part.after in
        joined laws old part.to new prefix prefix prefix (joined laws old part.from part.to prefix prefix prefix before trace (λ c h. h) (λ c h. h)) after
        (λ c h. h) (λ c h. h)

  -- where each image now stands for one device, it has the artifacts of that
  pub whole_now : {holds_none : Image → Type 0} {is_damaged : Image → ℕ → Type 0} {stands : J → Image → List (List ℕ) → Type 0} {end : J → ℕ} →
      JournalLaws journal.files journal.entries holds_none is_damaged stands end → (old new : D) (d e : Device) (records : List Record) →
      HasLeft disk.moment disk.left_since old new (StandsWhole journal.entries d records) → AllStandFor disk journal new e →
      AllHoldDevice (disk.may_leave new) e
  whole_now journal_laws old new d e records leaves stands c left =
      let w = now laws old new (StandsWhole journal.entries d records) leaves c left in
      subst (λ (x : Device). HoldsDevice c x) (same_device_for journal_laws c w.0.device e w.0.stands (stands c left)) w.1
