-- Parts of a session join.
use Rattle.std.specs.Prelude.{ℕ, Bool, List, [], ◌∷◌, ◌++◌, Option}
use Rattle.std.proofs.Common.{◌≡◌, ◌∙◌, refl, sym, ap, subst, append_assoc}
use Rattle.std.proofs.lemmas.List.{append-nil}
use Rattle.disk_model.specs.Disk.{Image, IsAfter, HasLeft, DiskLaws}
use Rattle.gate_log.specs.Journal.{IsChangeIn}
use Rattle.nuc_base.specs.declared.kinds.Exit.{Exit}
use Rattle.records.specs.Stored.{Record, BootEnded}
use Rattle.device.specs.Devices.{Device}
use Rattle.device.specs.Lawful.{Run, Allowed, applied}
use Rattle.device.specs.Standing.{StandsFor}
use Rattle.deploy_state.specs.Owned.{StandsForEither}
use Rattle.step_runner.specs.Entries.{HasGrownBy}
use Rattle.step_runner.specs.declared.entries.RunnerEntry.{RunnerEntry}
use Rattle.histories.specs.TraceEvents.{TraceEvent, Recorded, records_of, entries_of}
use Rattle.histories.specs.States.{SessionState, state_after}
use Rattle.histories.specs.Follows.{MayFollow}
use Rattle.histories.proofs.Joined.{left-append, proper-append, records-append, entries-append}
use Rattle.session_boots.specs.Booted.{LastBootEnded}
use Rattle.session_boots.specs.Traces.{ActTrace, HoldsPrefixes, IsTrace}
use Rattle.session_boots.proofs.Acting.{grows_none, grows_on}
use Rattle.session_boots.proofs.Prefixes.{run_on, no_record, one_record, prefixes_join}

-- ---- parts over a disk

module _ (entries : Image → List (List ℕ) → Type 0) (files : List ℕ → Type 0) {D : Type 0} {may_leave : D → Image → Type 0} {moment : D → ℕ} {left_since : D →
    ℕ → Image → Type 0} {is_modelled : Bool} {seen : D → Image}
    (laws : DiskLaws is_modelled seen may_leave moment left_since) where
  pub went_on : (old mid new : D) (a b c : Option (List RunnerEntry)) (p : SessionState) (h g : List TraceEvent)
      → IsTrace entries files may_leave moment left_since old mid a b p h → IsTrace entries files may_leave moment left_since mid new b c (state_after p h) g
      → IsTrace entries files may_leave moment left_since old new a c p (g ++ h)
  went_on old mid new a b c p h g one two =
      let left = ap (λ (q : SessionState). q.device) (left-append p g h) in
      let run = run_on p.device (records_of h) (state_after p h).device (records_of g) (state_after (state_after p h) g).device one.run two.run in
      let course = prefixes_join entries files laws old mid new p.device (records_of h) (state_after p h).device (records_of g) one.course one.run two.course in
      record {
        proper = proper-append p g h two.proper one.proper;
        run = subst (λ (l : List Record). Run p.device l (state_after p (g ++ h)).device) (sym (records-append g h))
            (subst (λ (x : Device). Run p.device (records_of h ++ records_of g) x) (sym left) run);
        course = subst (λ (l : List Record). HoldsPrefixes entries files may_leave moment left_since old new p.device l) (sym (records-append g h)) course;
        list = subst (λ (l : List RunnerEntry). HasGrownBy a c l) (sym (entries-append g h)) (grows_on a b c (entries_of h) (entries_of g) one.list two.list);
      }

  -- a part without a record, while the disk is as it was
  pub acted : (disk : D) (a b : Option (List RunnerEntry)) (p : SessionState) (h : List TraceEvent) →
      ((c : Image) → may_leave disk c → StandsFor entries c p.device)
      → ActTrace p h a b → IsTrace entries files may_leave moment left_since disk disk a b p h
  acted disk a b p h stands acts = record {
    proper = acts.proper;
    run = subst (λ (l : List Record). Run p.device l (state_after p h).device) (sym acts.none) acts.device;
    course = subst (λ (l : List Record). HoldsPrefixes entries files may_leave moment left_since disk disk p.device l) (sym acts.none)
        (no_record entries files laws disk p.device stands);
    list = acts.list;
  }

  -- one record
  pub kept_one : (old new : D) (a : Option (List RunnerEntry)) (p : SessionState) (r : Record) → MayFollow p (Recorded r) → Allowed p.device r
      → HasLeft moment left_since old new (IsAfter (may_leave old) (IsChangeIn files (StandsForEither entries p.device (applied p.device r))))
      → IsTrace entries files may_leave moment left_since old new a a p (Recorded r ∷ [])
  kept_one old new a p r may allowed leaves = record {
    proper = (may, tt);
    run = (applied p.device r, record { allowed = allowed; leaves = refl }, refl);
    course = one_record entries files laws old new p.device r allowed leaves;
    list = grows_none a a refl;
  }

  -- a part without lines, and then one without a record
  pub opened : (old mid : D) (a b : Option (List RunnerEntry)) (p : SessionState) (h g : List TraceEvent) →
      IsTrace entries files may_leave moment left_since old mid a a p h → ((c : Image) → may_leave mid c → StandsFor entries c (state_after p h).device)
      → ActTrace (state_after p h) g a b → IsTrace entries files may_leave moment left_since old mid a b p (g ++ h)
  opened old mid a b p h g one stands acts = went_on old mid mid a a b p h g one (acted mid a b (state_after p h) g stands acts)

pub records_opened : (h g : List TraceEvent) → records_of g ≡ [] → records_of (g ++ h) ≡ records_of h
records_opened h g none = records-append g h ∙ ap (λ (l : List Record). records_of h ++ l) none ∙ append-nil (records_of h)

-- the last record of the second part is that of both
pub ends_on : (exit : Exit) (h g : List TraceEvent) → LastBootEnded exit (records_of g) → LastBootEnded exit (records_of (g ++ h))
ends_on exit h g e = (
  records_of h ++ e.0,
  e.1,
  records-append g h ∙ ap (λ (l : List Record). records_of h ++ l) e.2 ∙ sym
      (append_assoc (records_of h) e.0 (BootEnded e.1 exit ∷ [])),
)
