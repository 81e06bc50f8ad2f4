-- What a call that serves promises, from what the call below it says of the disk behind the sweeping.
use Rattle.std.proofs.Common.{◌≡◌, ⊎_elim, inl, inr, ℕ, List, [], ◌∷◌, ◌++◌, refl, sym, subst}
use Rattle.std.specs.Prelude.{true, Ok, ⊤}
use Rattle.std.specs.Option.{IsSome}
use Rattle.nucleus_top.proofs.Proposals.{some_of}
use Rattle.nuc_base.specs.declared.status.Status.{Status}
use Rattle.disk_model.specs.Disk.{Image}
use Rattle.disk_model.specs.declared.disk.Disk as a_disk
use Rattle.checkpoint_log.specs.Slots.{slots_entries, slots_files}
use Rattle.device.specs.Devices.{Device}
use Rattle.device.specs.Sound.{IsSound}
use Rattle.device.specs.Lawful.{Run, applied}
use Rattle.device.specs.Met.{BringMet}
use Rattle.device.proofs.Sounding.{run_sound}
use Rattle.records.specs.Stored.{Record}
use Rattle.admission.specs.Taken.{TakenAreMet}
use Rattle.tree_core.specs.Laws.{TreesAreRegular}
use Rattle.deployment_doc.specs.Reads.{ReadsDocument}
use Rattle.deployment_doc.proofs.Soundness.{sound as roots_are_sound}
use Rattle.deployment_doc.specs.Lines.{text_limit}
use Rattle.deployment_doc.specs.Sound.{AreSound}
use Rattle.deployment_doc.specs.declared.document.Document.{Document}
use Rattle.law_whole.specs.Taking.{StayWhole, TakenAreWhole}
use Rattle.law_whole.specs.Whole.{BringWhole}
use Rattle.law_whole.proofs.Taken.{brought_stay_whole}
use Rattle.session_boots.proofs.Prefixes.{most_behind, run_on}
use Rattle.histories.proofs.Joined.{records-append}
use Rattle.histories.specs.Once.{TakesOnce}
use Rattle.histories.specs.States.{SessionState, state_after}
use Rattle.session_boots.specs.Traces.{StandsForMost}
use Rattle.session.specs.Endings.{Ending}
use Rattle.session_serving.specs.Rounds.{AreHandled, InboxFailed, Handled, LastRound, Round, Shut, Spent, SweepFailed, WantOfMemory, StoppedBy, Took, Waited}
use Rattle.session_serving.specs.Rounds.{records_of_last, records_of_rounds}
use Rattle.nucleus_top.proofs.Meeting.{brought_stay_met, once_brings, once_wholes, read_brings, read_wholes}
use Rattle.nucleus_top.proofs.Through.{run_begun}
use Rattle.step_runner.specs.Entries.{Told}
use Rattle.components.specs.Components.{Components}
use Rattle.histories.specs.TraceEvents.{TraceEvent, records_of}
use Rattle.session_serving.specs.Documents.{IsDeployedThere}
use Rattle.session_serving.specs.Libraries.{LibraryState}
use Rattle.session_serving.specs.Parts.{AreOfFiles, Outside}
use Rattle.session_serving.specs.States.{IsBegun}
use Rattle.session_serving.specs.Served.{EndsAs, IsResumedOrIdle, IsSetServed, IsWholeCall}
use Rattle.nucleus_top.specs.Meeting.{StayMet}
use Rattle.nucleus_top.specs.Serving.{slots_ghosts}
use Rattle.nucleus_top.proofs.Crashes.{entries_stay}
use Rattle.nucleus_top.proofs.Driven.{begun_as, begun_stage, no_world}

-- only the journal's two files matter to its entries
pub slots_own : AreOfFiles slots_files slots_entries
slots_own a b payloads same entries = entries_stay a b payloads same entries

-- a call that serves begins with no component and no child
pub serving_begins : (turns : ℕ) (d : Device) (world : Components) (told : Told) (living : List ℕ) → world ≡ no_world → living ≡ [] →
    IsBegun (begun_as true turns d told) turns d world told living
serving_begins turns d world told living is none =
    record { stage = begun_stage true turns d world told living is none; start = refl; serves = refl; turns_are = refl }

-- ---- what meets its groups and its items does at each record

-- records that bring what is met, one list behind the other
brings_on : (a b : List Record) (d e : Device) → Run d a e → BringMet d a → BringMet e b → BringMet d (a ++ b)
brings_on [] b d e run first second = subst (λ (x : Device). BringMet x b) run second
brings_on (r ∷ a) b d e run first second =
    (first.0, brings_on a b (applied d r) e (subst (λ (x : Device). Run x a e) run.1.leaves run.2) first.1 second)

-- those of a document, by what is promised of it
document_brings : TakenAreMet → (x : Handled) → IsSound x.device → IsSome x.device.origin → IsDeployedThere x →
    BringMet x.device x.records
document_brings law x sound some c =
    let o = some_of x.device.origin some in
    read_brings (λ d r. ⊤) x.device o.0 x.after.content x.before.faults x.after.faults sound x.start c.ending x.records law x.bytes c.taken (c.takes o.0 o.1) c.follows

-- so it is on the device of its round
there_brings : TakenAreMet → (x : Handled) (d : Device) → x.device ≡ d → IsSound d → IsSome d.origin →
    IsDeployedThere x → BringMet d x.records
there_brings law x d is sound some c =
    subst (λ (y : Device). BringMet y x.records) is
    (document_brings law x (subst IsSound (sym is) sound) (subst (λ (y : Device). IsSome y.origin) (sym is) some) c)

rounds_bring : TakenAreMet → (rounds : List Round) (d : Device) (n : LibraryState) (f : ℕ) (e : Device) (m : LibraryState) (g : ℕ) → IsSound d → IsSome d.origin
    → AreHandled IsDeployedThere d n f rounds e m g → BringMet d (records_of_rounds rounds) × Run d (records_of_rounds rounds) e
rounds_bring law [] d n f e m g sound some h = (tt, h.0)
rounds_bring law (Waited ∷ rounds) d n f e m g sound some h = rounds_bring law rounds d n f e m g sound some h
rounds_bring law (Took x ∷ rounds) d n f e m g sound some h =
    let more = rounds_bring law rounds x.behind x.after x.disk_after e m g (run_sound x.records d x.behind sound h.5)
    (run_begun x.records d x.behind h.5 some) h.6 in (
      brings_on x.records (records_of_rounds rounds) d x.behind h.5 (there_brings law x d h.0 sound some h.4) more.0,
      run_on d x.records x.behind (records_of_rounds rounds) e h.5 more.1,
    )

module _ {D : Type 0} (most : ℕ) (rounds : List Round) (result : Status) (old new : Outside D) (d : Device) where
  last_brings : TakenAreMet → (l : LastRound) → IsSound d → IsSome d.origin → EndsAs IsDeployedThere most rounds l result old new d →
      BringMet d (records_of_last l)
  last_brings law Spent sound some why = tt
  last_brings law Shut sound some why = tt
  last_brings law (StoppedBy x) sound some why = there_brings law x d why.device sound some why.clause
  last_brings law SweepFailed sound some why = tt
  last_brings law InboxFailed sound some why = tt
  last_brings law WantOfMemory sound some why = tt

module _ {D : Type 0} (disk : a_disk.Ghosts D) (most : ℕ) (old new : Outside D) (p : SessionState) (h : List TraceEvent)
    (result : Status) where
  served_brings : TakenAreMet → IsSound p.device → IsSome p.device.origin
      → IsSetServed disk slots_ghosts IsDeployedThere most old new p h result → BringMet p.device (records_of h)
  served_brings law sound some s =
      let r = rounds_bring law s.rounds p.device old.library old.faults s.behind s.to.library s.to.faults sound some s.handled in
      let run = r.1 in
      subst (BringMet p.device) (sym s.records)
      (brings_on (records_of_rounds s.rounds) (records_of_last s.last) p.device s.behind run r.0
      (last_brings most s.rounds result s.to new s.behind law s.last (run_sound (records_of_rounds s.rounds) p.device s.behind sound run)
      (run_begun (records_of_rounds s.rounds) p.device s.behind run some) s.ends))

-- ---- and what is whole is so

wholes_on : (a b : List Record) (d e : Device) → Run d a e → BringWhole d a → BringWhole e b → BringWhole d (a ++ b)
wholes_on [] b d e run first second = subst (λ (x : Device). BringWhole x b) run second
wholes_on (r ∷ a) b d e run first second =
    (first.0, wholes_on a b (applied d r) e (subst (λ (x : Device). Run x a e) run.1.leaves run.2) first.1 second)

-- the roots of a document that is read are sound
read_roots : TreesAreRegular → (bytes : List ℕ) (document : Document) → ReadsDocument bytes (Ok document) → AreSound document.roots
read_roots trees bytes document reads =
    roots_are_sound bytes reads.0 (Ok document) (trees bytes text_limit reads.0 reads.1) (reads.2, reads.3)

-- those of a document, by what is promised of it
document_wholes : TreesAreRegular → TakenAreWhole → (x : Handled) → IsSound x.device →
    IsSome x.device.origin → IsDeployedThere x →
    BringWhole x.device x.records
document_wholes trees law x sound some c =
    let o = some_of x.device.origin some in
    read_wholes (λ d r. ⊤) x.device o.0 x.after.content x.before.faults x.after.faults sound x.start c.ending x.records law c.regular o.1 x.bytes c.taken
    (read_roots trees x.bytes) (c.takes o.0 o.1) c.follows

-- so it is on the device of its round
there_wholes : TreesAreRegular → TakenAreWhole → (x : Handled) (d : Device) → x.device ≡ d → IsSound d → IsSome d.origin →
    IsDeployedThere x → BringWhole d x.records
there_wholes trees law x d is sound some c =
    subst (λ (y : Device). BringWhole y x.records) is
    (document_wholes trees law x (subst IsSound (sym is) sound) (subst (λ (y : Device). IsSome y.origin) (sym is) some) c)

rounds_whole : TreesAreRegular → TakenAreWhole → (rounds : List Round) (d : Device) (n : LibraryState) (f : ℕ) (e : Device) (m : LibraryState) (g : ℕ) →
    IsSound d → IsSome d.origin
    → AreHandled IsDeployedThere d n f rounds e m g → BringWhole d (records_of_rounds rounds) × Run d (records_of_rounds rounds) e
rounds_whole trees law [] d n f e m g sound some h = (tt, h.0)
rounds_whole trees law (Waited ∷ rounds) d n f e m g sound some h = rounds_whole trees law rounds d n f e m g sound some h
rounds_whole trees law (Took x ∷ rounds) d n f e m g sound some h =
    let more = rounds_whole trees law rounds x.behind x.after x.disk_after e m g (run_sound x.records d x.behind sound h.5)
    (run_begun x.records d x.behind h.5 some) h.6 in (
      wholes_on x.records (records_of_rounds rounds) d x.behind h.5 (there_wholes trees law x d h.0 sound some h.4) more.0,
      run_on d x.records x.behind (records_of_rounds rounds) e h.5 more.1,
    )

module _ {D : Type 0} (most : ℕ) (rounds : List Round) (result : Status) (old new : Outside D) (d : Device) where
  last_wholes : TreesAreRegular → TakenAreWhole → (l : LastRound) → IsSound d → IsSome d.origin →
      EndsAs IsDeployedThere most rounds l result old new d →
      BringWhole d (records_of_last l)
  last_wholes trees law Spent sound some why = tt
  last_wholes trees law Shut sound some why = tt
  last_wholes trees law (StoppedBy x) sound some why = there_wholes trees law x d why.device sound some why.clause
  last_wholes trees law SweepFailed sound some why = tt
  last_wholes trees law InboxFailed sound some why = tt
  last_wholes trees law WantOfMemory sound some why = tt

module _ {D : Type 0} (disk : a_disk.Ghosts D) (most : ℕ) (old new : Outside D) (p : SessionState) (h : List TraceEvent)
    (result : Status) where
  served_wholes : TreesAreRegular → TakenAreWhole → IsSound p.device → IsSome p.device.origin
      → IsSetServed disk slots_ghosts IsDeployedThere most old new p h result → BringWhole p.device (records_of h)
  served_wholes trees law sound some s =
      let r = rounds_whole trees law s.rounds p.device old.library old.faults s.behind s.to.library s.to.faults sound some s.handled in
      let run = r.1 in
      subst (BringWhole p.device) (sym s.records)
      (wholes_on (records_of_rounds s.rounds) (records_of_last s.last) p.device s.behind run r.0
      (last_wholes most s.rounds result s.to new s.behind trees law s.last (run_sound (records_of_rounds s.rounds) p.device s.behind sound run)
      (run_begun (records_of_rounds s.rounds) p.device s.behind run some) s.ends))

-- a pending deployment accepts no plan, and where none is pending there is no record
finished_once : (d : Device) (records : List Record) (behind : Device) (lines : List ℕ) (ending : Ending) → IsResumedOrIdle d records behind lines ending →
    TakesOnce true records
finished_once d records behind lines ending (inl r) = r.1.once
finished_once d records behind lines ending (inr none) = subst (TakesOnce true) (sym none.1) tt

module _ {D : Type 0} (disk : a_disk.Ghosts D) (old new : Outside D) (turns : ℕ) (d : Device) (told : Told) (h : List TraceEvent)
    (result : Status) (call : IsWholeCall disk slots_ghosts IsDeployedThere turns old new (begun_as true turns d told) h result)
    (sound : IsSound d) (some : IsSome d.origin) where
  whole_brings : TakenAreMet → BringMet d (records_of h)
  whole_brings law =
      let p = begun_as true turns d told in
      ⊎_elim (λ halted. once_brings d (records_of h) halted.0.first.once)
      (λ s.
      let before = s.0 in
      let g = s.1 in
      let to = s.2 in
      let f = s.7 in
      let q = state_after p before in
      subst (λ (l : List TraceEvent). BringMet d (records_of l)) (sym s.3) (subst (BringMet d) (sym (records-append g before))
      (brings_on (records_of before) (records_of g) d q.device f.goes.run
      (once_brings d (records_of before) (finished_once d (records_of before) q.device f.lines f.ending f.first))
      (served_brings disk turns to new q g result law (run_sound (records_of before) d q.device sound f.goes.run)
      (run_begun (records_of before) d q.device f.goes.run some) s.8)))) call.parts

  pub serving_meets : TakenAreMet → StayMet d (records_of h)
  serving_meets law = brought_stay_met d (records_of h) (whole_brings law)

  whole_wholes : TreesAreRegular → TakenAreWhole → BringWhole d (records_of h)
  whole_wholes trees law =
      let p = begun_as true turns d told in
      ⊎_elim (λ halted. once_wholes d (records_of h) halted.0.first.once)
      (λ s.
      let before = s.0 in
      let g = s.1 in
      let to = s.2 in
      let f = s.7 in
      let q = state_after p before in
      subst (λ (l : List TraceEvent). BringWhole d (records_of l)) (sym s.3) (subst (BringWhole d) (sym (records-append g before))
      (wholes_on (records_of before) (records_of g) d q.device f.goes.run
      (once_wholes d (records_of before) (finished_once d (records_of before) q.device f.lines f.ending f.first))
      (served_wholes disk turns to new q g result trees law (run_sound (records_of before) d q.device sound f.goes.run)
      (run_begun (records_of before) d q.device f.goes.run some) s.8)))) call.parts

  pub serving_wholes : TreesAreRegular → TakenAreWhole → StayWhole d (records_of h)
  serving_wholes trees law = brought_stay_whole d (records_of h) (whole_wholes trees law)

  -- at the end each image stands for the device of all records, or of all but the last
  pub serving_most : (c : Image) → disk.may_leave new.disk c → StandsForMost slots_entries d (records_of h) c
  serving_most c left =
      let p = begun_as true turns d told in
      ⊎_elim (λ halted. halted.0.sure.most c left)
      (λ s.
      let before = s.0 in
      let g = s.1 in
      let f = s.7 in
      let q = state_after p before in
      subst (λ (l : List TraceEvent). StandsForMost slots_entries d (records_of l) c) (sym s.3)
      (subst (λ (l : List Record). StandsForMost slots_entries d l c) (sym (records-append g before))
      (most_behind slots_entries d (records_of before) (records_of g) q.device c f.goes.run (s.8.sure.most c left)))) call.parts
