-- A turn before which stray files are swept.
use Rattle.std.specs.Prelude.{◌⊎◌, ℕ, Bool, true, List, [], ◌∷◌, ◌++◌, Option}
use Rattle.std.specs.Io.KnownBytes.{Appends}
use Rattle.std.proofs.Common.{◌≡◌, ◌≢◌, ◌∙◌, inl, inr, refl, sym, ap, subst, arith}
use Rattle.std.proofs.KnownBytes.{Appends-nil}
use Rattle.std.proofs.lemmas.List.{append-nil}
use Rattle.nuc_base.specs.Faults.{Rose}
use Rattle.nuc_base.specs.declared.status.Status.{Status}
use Rattle.nuc_base.specs.declared.status.Status.TheVariants as statuses
use Rattle.disk_model.specs.Disk.{DiskLaws, HasLeft}
use Rattle.disk_model.specs.declared.disk.Disk as a_disk
use Rattle.gate_log.specs.Journal.{JournalLaws}
use Rattle.gate_log.specs.declared.journal.Journal as a_journal
use Rattle.admission.specs.Takes.{LieElsewhere}
use Rattle.admission.proofs.Staying.{hand_stays}
use Rattle.artifact_store.specs.Holding.{AllHoldDevice, HoldsDevice}
use Rattle.deploy_state.specs.Objects.{OwnsOver}
use Rattle.deploy_state.specs.States.{OwnsIdle, idle_device}
use Rattle.deploy_state.specs.declared.state.Idle.{Idle}
use Rattle.step_runner.specs.Entries.{Told}
use Rattle.step_runner.specs.declared.entries.RunnerEntry.{RunnerEntry}
use Rattle.components.specs.Components.{Components}
use Rattle.histories.specs.Courses.{IsEnd, gives_up}
use Rattle.histories.specs.States.{SessionState, state_after}
use Rattle.histories.specs.TraceEvents.{TraceEvent}
use Rattle.session_boots.specs.Traces.{ActTrace}
use Rattle.session_boots.proofs.Acting.{grows_none}
use Rattle.session.specs.Calls.{ChangesArtifactsAlone, IsOrEdge, SaysLine, StandsWhole}
use Rattle.session.specs.Declines.{disk_line}
use Rattle.session.proofs.Holding.{taken_whole}
use Rattle.session_serving.specs.Parts.{AreOfFiles, CallEnded, HistoryKept, HoldsOn, Outside, TurnsPassed}
use Rattle.session_serving.specs.Rounds.{Handled, SweepFailed}
use Rattle.session_serving.specs.Turns.{EndsBy, InboxFoundClosed, OverLeft, TurnLeft}
use Rattle.session_serving.specs.declared.turned.Turned.{Turned}
use Rattle.session_serving.specs.declared.turned.Turned.TheVariants as turned
use Rattle.session_serving.proofs.Held.{idle_stands}
use Rattle.session_serving.proofs.Images.{spared_images, whole_now}
use Rattle.session_serving.proofs.Joining.{Stood, goes_acts, goes_both, holds_both, stands_acts, sure_acts, turns_both, turns_none}
use Rattle.session_serving.proofs.Rounding.{gives_none}

-- with the disk's status, or that of a line that could not be written, a call gives up
pub disk_gives : (status : Status) → IsOrEdge status statuses.Disk → gives_up status ≡ true
disk_gives status (inl is) = ap gives_up is
disk_gives status (inr edge) = ap gives_up edge

disk_or_edge : (status : Status) → IsOrEdge status statuses.Disk → status ≢ statuses.Disk → status ≢ statuses.Edge → ⊥
disk_or_edge status (inl is) disk edge = disk is
disk_or_edge status (inr is) disk edge = edge is

module _ {D J : Type 0} (disk : a_disk.Ghosts D) (journal : a_journal.Ghosts J)
    (laws : DiskLaws disk.is_modelled disk.seen disk.may_leave disk.moment disk.left_since)
    (own : JournalLaws journal.files journal.entries journal.holds_none journal.is_damaged journal.stands journal.end) (apart : LieElsewhere journal.files)
    (files_own : AreOfFiles journal.files journal.entries) (Clause : Handled → Type 0) (idle : Idle J) (old : Outside D) (now : D) (faults : ℕ)
    (held : OwnsOver disk journal OwnsIdle idle old.disk)
    (spared : ChangesArtifactsAlone disk.may_leave disk.moment disk.left_since old.disk now)
    (safe : AllHoldDevice (disk.may_leave old.disk) (idle_device idle) → HasLeft disk.moment disk.left_since old.disk now
    (λ c. HoldsDevice c (idle_device idle))) where
  pub held_after : OwnsOver disk journal OwnsIdle idle now
  held_after = (hand_stays laws own apart idle.log (idle_device idle) old.disk now spared held.0, held.1)

  module _ (p : SessionState) (device : p.device ≡ idle_device idle) where
    -- what is seen behind it
    abbrev pub Swept : Outside D
    Swept = record old { disk = now; faults = faults }

    before : Stood disk journal laws old.disk p.device
    before = idle_stands disk journal laws own idle old.disk held p.device device

    after : Stood disk journal laws now p.device
    after = idle_stands disk journal laws own idle now held_after p.device device

    whole : AllHoldDevice (disk.may_leave old.disk) p.device → HasLeft disk.moment disk.left_since old.disk now (StandsWhole journal.entries p.device [])
    whole holds = taken_whole laws journal.files journal.entries apart own idle.log old.disk now (idle_device idle) p device held.0 spared safe holds []

    goes : HistoryKept disk journal old.disk now old.list old.list p []
    goes = record {
      proper = tt;
      run = refl;
      list = grows_none old.list old.list refl;
      images = spared_images disk journal laws apart files_own old.disk now p.device []
          (λ c left. record { prefix = []; rest = []; split = refl; device = p.device; run = refl; stands = before c left }) spared;
      whole = whole;
    }

    holds : HoldsOn disk journal old.disk now p []
    holds all = whole_now disk journal laws apart files_own own old.disk now p.device p.device [] (whole all) after

    -- no turn goes by
    passed : faults ≡ old.faults → TurnsPassed disk journal Clause old Swept p [] []
    passed same = record {
      goes = goes;
      stands = after;
      holds = holds;
      lines = Appends-nil old.held;
      records = refl;
      asked = refl;
      handled = (refl, refl, same);
      answered = refl;
      given = gives_none old.waiting;
      turns = omega arith;
      starts = tt;
    }

    pub turn_swept : (new : Outside D) (h : List TraceEvent) (r : Turned J) (world : Components) (told : Told) (living : List ℕ) → faults ≡ old.faults →
        TurnLeft disk journal Clause r Swept new p h world told living → TurnLeft disk journal Clause r old new p h world told living
    turn_swept new h (turned.On s) world told living same l = (
      l.0,
      subst (λ (k : List TraceEvent). TurnsPassed disk journal Clause old new p k (l.0 ∷ [])) (append-nil h)
          (turns_both disk journal laws Clause old Swept new p [] h [] (l.0 ∷ []) (passed same) l.1),
      l.2,
    )
    turn_swept new h (turned.Shut s) world told living same l =
        let i = l.0 in (
          record {
            goes = subst (λ (k : List TraceEvent). HistoryKept disk journal old.disk new.disk old.list new.list p k) (append-nil h)
                (goes_both disk journal laws old.disk now new.disk old.list old.list new.list p [] h goes holds i.goes);
            stands = i.stands;
            holds = subst (λ (k : List TraceEvent). HoldsOn disk journal old.disk new.disk p k) (append-nil h)
                (holds_both disk journal laws old.disk now new.disk p [] h holds i.holds);
            none = i.none;
            says = record {
              answered = i.says.answered;
              waiting = i.says.waiting;
              closed = i.says.closed;
              held = i.says.held;
              library = i.says.library;
              faults = i.says.faults ∙ same;
            };
          },
          l.1,
        )
    turn_swept new h (turned.Over status) world told living same l = (
      l.0,
      l.1,
      l.2,
      l.3,
      l.4,
      l.5,
      l.6,
      subst (λ (k : List TraceEvent). TurnsPassed disk journal Clause old l.2 p k l.3) (append-nil l.0)
          (turns_both disk journal laws Clause old Swept l.2 p [] l.0 [] l.3 (passed same) l.7),
      l.8,
      l.9,
    )

    -- the disk failed
    pub sweep_fails : (status : Status) (c : Option (List RunnerEntry)) (last : Option (List ℕ)) (k : List TraceEvent) → ActTrace p k old.list c →
        Rose old.faults faults → IsOrEdge status statuses.Disk → SaysLine old.held last status disk_line →
        ((rose : Bool) → IsEnd (state_after p k) status rose) → OverLeft disk journal Clause 1 status old (record Swept { list = c; held = last }) p k
    sweep_fails status c last k acts rose answers says end = (
      [],
      k,
      old,
      [],
      SweepFailed,
      true,
      sym (append-nil k),
      turns_none disk journal laws Clause old p before,
      record {
        goes = subst (λ (h : List TraceEvent). HistoryKept disk journal old.disk now old.list c p h) (append-nil k)
            (goes_both disk journal laws old.disk now now old.list old.list c p [] k goes holds (goes_acts disk journal laws now old.list c p k after acts));
        sure = sure_acts disk journal laws now old.list c p k after acts;
        stable = λ none. stands_acts disk journal laws now old.list c p k after acts;
        lines = disk_line;
        says = refl;
        writes = record { prefix = says.0; all = says.1 };
        records = acts.none;
        why = (answers, record { answered = refl; waiting = refl; library = refl });
        starts = tt;
        failed = λ is. rose;
        quiet = λ other edge. absurd (disk_or_edge status answers other edge);
        cause = λ on. rose;
        end = end true;
      },
      omega arith,
    )
