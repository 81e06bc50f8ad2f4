-- One deployment in a call that serves, from what is promised of one in a call of its own.
use Rattle.std.specs.Prelude.{◌⊎◌, ℕ, Bool, true, false, List, [], ◌∷◌, ◌++◌, Option, Some, None, IfSome, Result, Ok, Err, is_some}
use Rattle.std.specs.List.{AllByRecursion}
use Rattle.std.specs.Option.{IsSomeAnd}
use Rattle.std.specs.Io.KnownBytes.{Appends}
use Rattle.std.proofs.Common.{◌≡◌, ◌≢◌, ◌≤◌, ◌∙◌, inl, inr, refl, sym, ap, subst, append_assoc, arith}
use Rattle.std.proofs.KnownBytes.{Appends-trans}
use Rattle.std.proofs.lemmas.List.{append-nil}
use Rattle.std.proofs.lemmas.Bool.{false≢true}
use Rattle.disk_model.specs.Disk.{DiskLaws, HasLeft}
use Rattle.disk_model.specs.declared.disk.Disk as a_disk
use Rattle.gate_log.specs.Journal.{JournalLaws}
use Rattle.gate_log.specs.declared.journal.Journal as a_journal
use Rattle.edges.specs.Pieces.{AppendsPrefix}
use Rattle.nuc_base.specs.Faults.{Rose}
use Rattle.nuc_base.specs.declared.status.Status.{Status}
use Rattle.nuc_base.specs.declared.status.Status.TheVariants as statuses
use Rattle.library_core.specs.Library.{Content, Extends, IsRefreshed}
use Rattle.records.specs.Stored.{Record}
use Rattle.records.specs.declared.record.Origin.{Origin}
use Rattle.records.specs.declared.record.Plan as code
use Rattle.device.specs.Devices.{Device}
use Rattle.device.specs.Lawful.{Run}
use Rattle.deploy_state.specs.Accepting.{idle_log}
use Rattle.deploy_state.specs.States.{OwnsIdle, idle_device}
use Rattle.deploy_state.specs.Turning.{start_of}
use Rattle.deploy_state.specs.declared.state.Idle.{Idle}
use Rattle.deploy_state.proofs.Steps.{in_hand_stands}
use Rattle.admission.specs.Takes.{HasDiskFailed, HasLibraryFailed, LieElsewhere}
use Rattle.admission.specs.declared.fault.Declined.{Declined}
use Rattle.artifact_store.specs.Holding.{AllHoldDevice}
use Rattle.step_runner.specs.Entries.{Told}
use Rattle.step_runner.specs.declared.entries.RunnerEntry.{RunnerEntry}
use Rattle.components.specs.Components.{Components}
use Rattle.histories.specs.Courses.{IsEnd, IsStateOf, gives_up, is_restart}
use Rattle.histories.specs.Follows.{IsLast, MayChangeIn}
use Rattle.histories.specs.Phases.{Generation, current, draining, idle, is_current, is_shutting_down}
use Rattle.histories.specs.States.{SessionState, state_after}
use Rattle.histories.specs.TraceEvents.{Answer, TraceEvent, document, is_document, records_of}
use Rattle.histories.specs.TraceEvents.{ReadClock, Booted, Changed, Heard, InboxAsked, KilledOnAbort, Moved, Recorded, StopsAll, WaitElapsed, Ran as RanEvent}
use Rattle.law_serving.specs.Alike.{EndsOnCourse, MayDeploy, ServesAlike, StopsAtRecord, alone, beside}
use Rattle.law_serving.proofs.Records.{idle_is, pending_idle}
use Rattle.session_admission.specs.Accepts.{IsOpen}
use Rattle.session_boots.specs.Ends.{StopsAt}
use Rattle.session_boots.specs.Lines.{lines_of}
use Rattle.session_boots.specs.Traces.{ActTrace}
use Rattle.deploy_state.specs.Objects.{OwnsOver}
use Rattle.session_steady.specs.Serves.{IsServing}
use Rattle.session_acts.proofs.Entering.{comes_of}
use Rattle.session.specs.Calls.{IsOrEdge, StandsWhole, call_lines, opening_line}
use Rattle.session.proofs.Accepted.{accepted_at}
use Rattle.session.specs.Documents.{AcceptsTaken, TakenEnding, TakesRead}
use Rattle.session.specs.Endings.{Ending, IsBegun, WantBefore, is_failing, line_of_ending, status_of_ending}
use Rattle.session.specs.Endings.{BySinkFault, ByClose, ByDecline, ByDiskFault, WantAfter, Full, Idle as NothingPending, ByReboot, ByRestart}
use Rattle.session.specs.Parts.{CameBy, EndsCall, EndsRan, NoMemoryGoesOn, IsGeneration, IsReturned, Part, QuitsPart, RanLeft, must_end, status_of_ran}
use Rattle.session.specs.declared.ran.Ran.{Ran}
use Rattle.session.specs.declared.ran.Ran.TheVariants as ran
use Rattle.session.specs.declared.ran.Standing.{Standing}
use Rattle.session.specs.declared.ran.Standing.TheVariants as standings
use Rattle.session_serving.specs.Documents.{IsOwnOrEdge, IsDeployedThere, IsEnded, IsHandled, IsOf, RecordsEnd, served_line, no_memory_line, want_line}
use Rattle.session_serving.specs.Libraries.{IsRefreshedOnce, LibraryState}
use Rattle.session_serving.specs.Parts.{AllStandFor, AreOfFiles, HistoryKept, HoldsOn, IsStarted, Outside, IsStartShown}
use Rattle.session_serving.specs.States.{IsAsked, IsUnopened}
use Rattle.session_serving.specs.Rounds.{Handled}
use Rattle.session_serving.specs.Turns.{DocumentLeft, IsReady, StaysRan}
use Rattle.session_serving.proofs.Doing.{line_fails}
use Rattle.session_serving.proofs.Images.{part_images, whole_now}
use Rattle.session_serving.proofs.Joining.{prefix_behind}
use Rattle.session_serving.proofs.Settling.{Stays, back_edge, over_settled, over_unsaid, prefix_more, settled, settled_accepts, settled_ends, settled_failing}
use Rattle.session_serving.proofs.Settling.{settled_fails, settled_follows, settled_lines, settled_stays}

clash : (b : Bool) → b ≡ true → b ≡ false → ⊥
clash b on off = absurd (false≢true (sym off ∙ on))

-- ---- where it begins

none_pending : {A : Type 0} (o : Option A) → o ≡ None → is_some o ≡ false
none_pending o is = ap is_some is

-- the document may be taken
module _ (p : SessionState) (d : Device) (world : Components) (told : Told) (living : List ℕ) (a : IsAsked document p d world told living) where
  asked_none : p.device.pending ≡ None
  asked_none = pending_idle p.device a.steady.idle_is

  pub asked_deploys : MayDeploy p
  asked_deploys = record {
    serves = a.steady.serves;
    going = ap (λ (c : Generation). is_shutting_down c) a.steady.generation;
    takes = inr (
      none_pending p.device.pending asked_none,
      record {
        opened = a.steady.opened;
        current = ap (λ (c : Generation). is_current c) a.steady.generation;
        given = subst (λ (o : Option Answer). IsSomeAnd o (λ x. is_document x ≡ true)) (sym a.answer_is) refl;
      },
    );
  }

  asked_stands : IsStateOf p d world told living
  asked_stands = (comes_of p d world told living a.turn a.device_is).stands

  pub asked_open : IsOpen (alone p) d world told living
  asked_open =
      let s = asked_stands in
      record {
        stands = record {
          device_is = s.device_is;
          world_is = s.world_is;
          answered = s.answered;
          not_before = s.not_before;
          asked = s.asked;
          children = s.children;
        };
        quiet = a.quiet;
        going = ap (λ (c : Generation). is_shutting_down c) a.steady.generation;
        boot = a.steady.boot;
        boot_end = a.steady.boot_end;
        takes = none_pending p.device.pending asked_none;
        over = a.steady.over;
        cut = a.steady.cut;
      }

-- ---- how it ends

stops_as : (h : List TraceEvent) → StopsAt h → StopsAtRecord h
stops_as h s = record { cuts = s.cuts; last = s.last; before = s.before; split = s.split; kills = s.kills }

quits_course : (p : SessionState) (h : List TraceEvent) → QuitsPart p h → EndsOnCourse p h
quits_course p h (inl unbegun) = inr (inl unbegun.0)
quits_course p h (inr stops) = inr (inr (inl (stops_as h stops)))

over_course : (p : SessionState) (h : List TraceEvent) (status : Status) (rose : Bool) → EndsCall status → (gives_up status ≡ true → QuitsPart p h) →
    IsEnd (state_after p h) status rose → EndsOnCourse p h
over_course p h status rose (inl gives) quits end = quits_course p h (quits gives)
over_course p h status rose (inr restarts) quits end = inr (inr (inr (end.restarts restarts)))

pub ran_course : {J : Type 0} (r : Ran J) (p : SessionState) (h : List TraceEvent) (before : Generation) (rose : Bool) (world : Components) (told : Told)
    (living : List ℕ) → EndsRan r → (gives_up (status_of_ran r) ≡ true → QuitsPart p h) → RanLeft before r rose (state_after p h) world told living →
    EndsOnCourse p h
ran_course (ran.Back s status standing) p h before rose world told living ends quits left = inl left.0.going
ran_course (ran.Over status) p h before rose world told living ends quits left = over_course p h status rose ends quits left

-- it comes back with a status by which the call goes on
pub stays_ran : {J : Type 0} (r : Ran J) (before : Generation) (rose : Bool) (q : SessionState) (world : Components) (told : Told) (living : List ℕ) →
    RanLeft before r rose q world told living → StaysRan r
stays_ran (ran.Back s status standing) before rose q world told living left = (back_edge s status standing left.2 left.3, left.3)
stays_ran (ran.Over status) before rose q world told living left = tt

-- ---- the state behind it

pub device_same : (p : SessionState) (h : List TraceEvent) → (s : ServesAlike p h) → (state_after p h).device ≡ (state_after (alone p) h).device
device_same p h s = ap (λ (q : SessionState). q.device) s.state_is

pub turns_same : (p : SessionState) (h : List TraceEvent) → ServesAlike p h → (state_after p h).turns ≡ p.turns
turns_same p h s = ap (λ (q : SessionState). q.turns) s.state_is

module _ (p : SessionState) (a : Option Answer) (t : Bool) (q : SessionState) (d : Device) (world : Components) (told : Told) (living : List ℕ)
    (r : IsReturned q d world told living) where
  returned_beside : IsReturned (beside p a t q) d world told living
  returned_beside =
      let s = r.stands in
      record {
        stands = record {
          device_is = s.device_is;
          world_is = s.world_is;
          answered = s.answered;
          not_before = s.not_before;
          asked = s.asked;
          children = s.children;
        };
        quiet = r.quiet;
        orderly = r.orderly;
        idle_is = r.idle_is;
        going = r.going;
        boot = r.boot;
        boot_end = r.boot_end;
        over = r.over;
        cut = r.cut;
      }

  serving_beside : p.opened ≡ true → q.generation ≡ current → IfSome a (λ x. is_document x ≡ true) → IsServing (beside p a t q) d world told living
  serving_beside opened generation done =
      let b = returned_beside in
      record {
        stands = b.stands;
        steady = record {
          serves = refl;
          idle_is = idle_is q.device (ap (λ (x : Device). x.pending) r.stands.device_is ∙ r.idle_is);
          generation = generation;
          opened = opened;
          boot = r.boot;
          boot_end = r.boot_end;
          over = r.over;
          cut = r.cut;
        };
        done = done;
        orderly = r.orderly;
      }

  pub unopened_beside : MayChangeIn idle q.generation (beside p a t q) →
      IfSome a (λ x. is_document x ≡ true) → IsUnopened (beside p a t q) d world told living
  unopened_beside may done = record { returned = returned_beside; serves = refl; may = may; done = done }

done_of : (p : SessionState) (a : Option Answer) → (a ≡ p.answer) ⊎ (a ≡ None) → IfSome p.answer (λ x. is_document x ≡ true) →
    IfSome a (λ x. is_document x ≡ true)
done_of p a (inl same) done = subst (λ (o : Option Answer). IfSome o (λ x. is_document x ≡ true)) (sym same) done
done_of p a (inr none) done = subst (λ (o : Option Answer). IfSome o (λ x. is_document x ≡ true)) (sym none) tt

pub drained : (p q : SessionState) → q.generation ≡ draining → p.serves ≡ true → MayChangeIn idle q.generation p
drained p q is serves = subst (λ (c : Generation). MayChangeIn idle c p) (sym is) serves

-- behind a document
ready_beside : (standing : Standing) (p : SessionState) (a : Option Answer) (t : Bool) (q : SessionState) (d : Device) (world : Components) (told : Told)
    (living : List ℕ) → IsReturned q d world told living → IsGeneration standing p.generation q.generation → p.generation ≡ current → p.opened ≡ true →
    IfSome a (λ x. is_document x ≡ true) → IsReady standing (beside p a t q) d world told living
ready_beside standings.AsBefore p a t q d world told living r of before opened done =
    (serving_beside p a t q d world told living r opened (of ∙ before) done, returned_beside p a t q d world told living r)
ready_beside standings.OfSet p a t q d world told living r of before opened done =
    (serving_beside p a t q d world told living r opened of done, returned_beside p a t q d world told living r)
ready_beside standings.Nobody p a t q d world told living r of before opened done =
    unopened_beside p a t q d world told living r (drained (beside p a t q) q of refl) done

-- ---- what is printed

no_opening : (d : Device) → d.pending ≡ None → opening_line d ≡ []
no_opening d is = by d.pending is
  where
    by : (o : Option _) → o ≡ None → opening_line (record d { pending = o }) ≡ []
    by None none = refl
    by (Some q) none = absurd cc

-- of a document, where none was pending
lines_at : (d : Device) (told : List Record) (ending : Ending) → d.pending ≡ None → (ending ≡ WantBefore → told ≡ []) →
    call_lines d told ending ≡ lines_of d told ++ line_of_ending ending
lines_at d told WantBefore is none = sym (ap (λ (l : List Record). lines_of d l ++ []) (none refl))
lines_at d told (ByClose o) is none = ap (λ (l : List ℕ). l ++ (lines_of d told ++ line_of_ending (ByClose o))) (no_opening d is)
lines_at d told (ByRestart i) is none = ap (λ (l : List ℕ). l ++ (lines_of d told ++ line_of_ending (ByRestart i))) (no_opening d is)
lines_at d told (ByReboot i) is none = ap (λ (l : List ℕ). l ++ (lines_of d told ++ line_of_ending (ByReboot i))) (no_opening d is)
lines_at d told ByDiskFault is none = ap (λ (l : List ℕ). l ++ (lines_of d told ++ line_of_ending ByDiskFault)) (no_opening d is)
lines_at d told BySinkFault is none = ap (λ (l : List ℕ). l ++ (lines_of d told ++ line_of_ending BySinkFault)) (no_opening d is)
lines_at d told WantAfter is none = ap (λ (l : List ℕ). l ++ (lines_of d told ++ line_of_ending WantAfter)) (no_opening d is)
lines_at d told (ByDecline x) is none = ap (λ (l : List ℕ). l ++ (lines_of d told ++ line_of_ending (ByDecline x))) (no_opening d is)
lines_at d told (Full at) is none = ap (λ (l : List ℕ). l ++ (lines_of d told ++ line_of_ending (Full at))) (no_opening d is)
lines_at d told NothingPending is none = ap (λ (l : List ℕ). l ++ (lines_of d told ++ line_of_ending NothingPending)) (no_opening d is)

prefix_none : (prefix rest records : List Record) → records ≡ prefix ++ rest → records ≡ [] → prefix ≡ []
prefix_none [] rest records split none = refl
prefix_none (r ∷ prefix) rest records split none = absurd (never (sym split ∙ none))
  where
    never : r ∷ (prefix ++ rest) ≡ [] → ⊥
    never e = cc

starves_none : (start : ℕ → ℕ) (taken : Result code.Plan Declined) (ending : Ending) (records : List Record) → TakenEnding start taken ending records →
    ending ≡ WantBefore → records ≡ []
starves_none start (Err d) ending records follows is = follows.1
starves_none start (Ok plan) ending records (inl put) is = put.1
starves_none start (Ok plan) ending records (inr begun) is = absurd (subst (λ (e : Ending). IsBegun e) is begun.0)

-- ---- the end is the same

pub end_beside : (q r : SessionState) (a : Option Answer) (t : Bool) (p : SessionState) → r ≡ beside p a t q → (status : Status) (rose : Bool) →
    IsEnd q status rose → IsEnd r status rose
end_beside q r a t p is status rose e = subst (λ (s : SessionState). IsEnd s status rose) (sym is) (record {
  bare = record { parts = e.bare.parts; boot = e.bare.boot };
  stopped = e.stopped;
  cut = e.cut;
  owes_none = e.owes_none;
  recorded = e.recorded;
  restarts = e.restarts;
  over = e.over;
})

-- ---- whether the disk failed

failing_is : (ending : Ending) → is_failing ending ≡ true → ending ≡ ByDiskFault
failing_is ByDiskFault on = refl
failing_is (ByClose o) on = absurd (false≢true on)
failing_is (ByRestart i) on = absurd (false≢true on)
failing_is (ByReboot i) on = absurd (false≢true on)
failing_is BySinkFault on = absurd (false≢true on)
failing_is WantAfter on = absurd (false≢true on)
failing_is WantBefore on = absurd (false≢true on)
failing_is (ByDecline x) on = absurd (false≢true on)
failing_is (Full at) on = absurd (false≢true on)
failing_is NothingPending on = absurd (false≢true on)

-- ---- what the library holds

-- what is to come stays as it is until the next refresh
pub refreshed_stays : (old : LibraryState) (content : Content) (coming later : Option (List Content)) →
    IfSome old.coming (λ next. IsRefreshed next old.content content coming) → content.tells ≡ old.content.tells → later ≡ coming →
    IsRefreshedOnce old content later
refreshed_stays old content coming later holds tells same = record {
  holds = subst (λ (o : Option (List Content)). IfSome old.coming (λ next. IsRefreshed next old.content content o)) (sym same) holds;
  tells = tells;
}

-- ---- the whole of one document

module _ {D J : Type 0} (disk : a_disk.Ghosts D) (journal : a_journal.Ghosts J)
    (laws : DiskLaws disk.is_modelled disk.seen disk.may_leave disk.moment disk.left_since)
    (own : JournalLaws journal.files journal.entries journal.holds_none journal.is_damaged journal.stands journal.end) (apart : LieElsewhere journal.files)
    (files_own : AreOfFiles journal.files journal.entries) (content : Content) (count : ℕ) (idle : Idle J) (bytes : List ℕ) (old new : Outside D)
    (refreshed : IsRefreshedOnce old.library content new.library.coming) (extends : Extends content new.library.content)
    (uncounted : count ≡ old.library.faults) (held : OwnsOver disk journal OwnsIdle idle old.disk) (p : SessionState) (world : Components) (told : Told) (living : List ℕ)
    (asked : IsAsked document p (idle_device idle) world told living) where
  abbrev Start : ℕ → ℕ
  Start = start_of journal.end journal.number journal.turns (idle_log idle) (idle_device idle)

  begun_stands : AllStandFor disk journal old.disk p.device
  begun_stands = subst (λ (x : Device). AllStandFor disk journal old.disk x) (sym asked.device_is)
      (λ c left. in_hand_stands laws own idle.log old.disk (idle_device idle) held.0 c left)

  -- the journal that is in hand
  starts_here : IsStartShown disk journal old.disk old.disk (idle_device idle) Start
  starts_here told_is =
      let c = disk.seen old.disk in
      let left = laws.reads old.disk told_is in (
        c,
        laws.counts_now old.disk (disk.moment old.disk) c (omega arith) left,
        record { log = idle_log idle; payloads = held.0.payloads; stands = held.0.behind.each c left; start_is = refl },
      )

  module _ (status : Status) (leaves : Ending → SessionState → Type 0)
      (part : Part journal.entries journal.files disk.may_leave disk.moment disk.left_since old.disk new.disk old.list new.list old.held new.held (alone p)
      status leaves)
      (alike : ServesAlike p part.history) (taken : Result code.Plan Declined)
      (takes : (o : Origin) → (idle_device idle).origin ≡ Some o → TakesRead (idle_device idle) o new.library.content count new.library.faults bytes taken)
      (follows : TakenEnding Start taken part.ending (records_of part.history))
      (failed : part.ending ≡ ByDiskFault → Rose old.faults new.faults) (disk_cause : HasDiskFailed taken → Rose old.faults new.faults)
      (library_cause : HasLibraryFailed taken → Rose count new.library.faults) (library_later : count ≤ new.library.faults)
      (whole : AllHoldDevice (disk.may_leave old.disk) p.device → HasLeft disk.moment disk.left_since old.disk new.disk
      (StandsWhole journal.entries p.device (records_of part.history)))
      (accepts : AcceptsTaken journal.entries disk.may_leave disk.moment disk.left_since old.disk new.disk (idle_device idle) Start taken part.ending
      (records_of part.history)) where
    abbrev H : List TraceEvent
    H = part.history

    abbrev E : Ending
    E = settled (alone p) H part.ending part.ends

    abbrev X : Handled
    X = record {
      bytes = bytes;
      device = idle_device idle;
      records = records_of H;
      printed_records = part.prints.printed_records;
      unprinted_records = part.prints.rest;
      behind = (state_after p H).device;
      lines = lines_of (idle_device idle) part.prints.printed_records ++ served_line E;
      status = status_of_ending E;
      before = old.library;
      content = content;
      after = new.library;
      disk_before = old.faults;
      disk_after = new.faults;
      start = Start;
    }

    same : (state_after p H).device ≡ (state_after (alone p) H).device
    same = device_same p H alike

    goes : HistoryKept disk journal old.disk new.disk old.list new.list p H
    goes = record {
      proper = alike.proper;
      run = subst (λ (x : Device). Run p.device (records_of H) x) (sym same) part.trace.run;
      list = part.trace.list;
      images = part_images disk journal laws apart files_own old.disk new.disk old.list new.list old.held new.held (alone p) status leaves part begun_stands;
      whole = whole;
    }

    -- the same of what it is to a call that serves
    own_fails : E ≡ ByDiskFault → part.ending ≡ ByDiskFault
    own_fails is = settled_fails (alone p) H part.ending part.ends is

    own_follows : TakenEnding Start taken E (records_of H)
    own_follows = settled_follows (alone p) H Start taken part.ending part.ends follows

    own_accepts : AcceptsTaken journal.entries disk.may_leave disk.moment disk.left_since old.disk new.disk (idle_device idle) Start taken E (records_of H)
    own_accepts = settled_accepts (alone p) H journal.entries disk.may_leave disk.moment disk.left_since old.disk new.disk (idle_device idle) Start taken
        part.ending part.ends accepts

    clause : IsDeployedThere X
    clause = record {
      regular = held.0.regular;
      refreshed = refreshed;
      extends = extends;
      taken = taken;
      takes = λ o is. subst (λ (n : ℕ). TakesRead (idle_device idle) o new.library.content n new.library.faults bytes taken) uncounted (takes o is);
      library_cause = λ failed. subst (λ (n : ℕ). Rose n new.library.faults) uncounted (library_cause failed);
      library_later = subst (λ (n : ℕ). n ≤ new.library.faults) uncounted library_later;
      ending = E;
      follows = own_follows;
      ends = subst (λ (x : Device). RecordsEnd E (records_of H) x) (sym same) (settled_ends (alone p) H part.trace.run part.ending part.ends);
      failed = λ is. failed (own_fails is);
      disk_cause = disk_cause;
      status = refl;
      split = part.prints.split;
      few = part.prints.few;
      all = λ other. part.prints.all (λ is. other (settled_failing (alone p) H part.ending part.ends is));
      lines = refl;
    }

    -- its lines: those of a call of its own, and want of memory
    abbrev Said : List ℕ
    Said = call_lines p.device part.prints.printed_records part.ending

    lines_is : Said ++ want_line X.status ≡ X.lines
    lines_is =
        ap (λ (l : List ℕ). l ++ want_line X.status)
        (sym (settled_lines (alone p) H part.ending part.ends p.device part.prints.printed_records)
        ∙ ap (λ (x : Device). call_lines x part.prints.printed_records E) asked.device_is
        ∙ lines_at (idle_device idle) part.prints.printed_records E held.1
        (λ is. prefix_none part.prints.printed_records part.prints.rest (records_of H) part.prints.split
        (starves_none Start taken E (records_of H) own_follows is)))
        ∙ append_assoc (lines_of (idle_device idle) part.prints.printed_records) (line_of_ending E) (want_line X.status)

    starts : IsStarted disk journal old.disk new.disk X
    starts = (
      (λ told_is. let s = starts_here told_is in (s.0, goes.images.keeps (disk.moment old.disk) s.0 (omega arith) s.1, s.2)),
      (λ plan rest is. elim (accepted_at journal.entries disk.may_leave disk.moment disk.left_since old.disk new.disk (idle_device idle) Start E
          (records_of H) rest plan is taken own_follows own_accepts) [
            | inl fails ↦ inl (fails.1, failed (own_fails fails.0))
            | inr there ↦ inr there
          ]),
    )

    is_of : (last : Option (List ℕ)) → IsOf disk journal IsDeployedThere old (record new { held = last }) p H X
    is_of last = record {
      records = refl;
      device = sym asked.device_is;
      behind = refl;
      before = refl;
      after = refl;
      disk_before = refl;
      disk_after = refl;
      clause = clause;
      starts = starts;
    }

    holds_at : AllStandFor disk journal new.disk (state_after p H).device → HoldsOn disk journal old.disk new.disk p H
    holds_at stands all = whole_now disk journal laws apart files_own own old.disk new.disk p.device (state_after p H).device (records_of H) (whole all) stands

    -- where it comes back
    module _ (s : Idle J) (standing : Standing) (on : must_end status standing ≡ false) (other : is_restart status ≡ false)
        (came : CameBy {J = J} (ran.Back s status standing) (records_of H)) (rose : status ≡ statuses.Disk → Rose old.faults new.faults)
        (quiet : status ≢ statuses.Disk → status ≢ statuses.Edge → new.faults ≡ old.faults)
        (stands : AllStandFor disk journal new.disk (state_after p H).device) where
      stay : Stays (status_of_ending E) old.faults new.faults (records_of H) × (want_line (status_of_ending E) ≡ no_memory_line status standing)
      stay = settled_stays s status standing on other (alone p) H old.faults new.faults came rose quiet part.ending part.ends part.answers

      -- the call goes on, with this line
      handled_at : (last : Option (List ℕ)) → Appends new.held last (no_memory_line status standing) →
          IsHandled disk journal IsDeployedThere old (record new { held = last }) p H X
      handled_at last said =
          let t = stay in
          record {
            goes = goes;
            stands = stands;
            holds = holds_at stands;
            lines = subst (λ (l : List ℕ). Appends old.held last l) lines_is
                (Appends-trans old.held new.held last Said (want_line X.status) (part.prints.whole (back_edge s status standing on other))
                (subst (λ (l : List ℕ). Appends new.held last l) (sym t.1) said));
            is_of = is_of last;
            stays = record { edge = t.0.edge; restart = t.0.restart; disk = t.0.disk; quiet = t.0.quiet; unmoved = t.0.unmoved };
            turns = turns_same p H alike;
          }

      -- that line could not be written
      unsaid_at : (c : Option (List RunnerEntry)) (last : Option (List ℕ)) (g : List TraceEvent) → AppendsPrefix new.held last (no_memory_line status standing) →
          ActTrace (state_after p H) g new.list c → IsEnd (state_after (state_after p H) g) statuses.Edge false →
          IsEnded disk journal IsDeployedThere old (record new { list = c; held = last }) p (g ++ H) X statuses.Edge false
      unsaid_at c last g said acts end =
          line_fails disk journal laws IsDeployedThere old new p H X c last g goes stands (holds_at stands) (is_of new.held) acts
          (subst (λ (l : List ℕ). AppendsPrefix old.held last l) lines_is
          (prefix_behind old.held new.held last Said (want_line X.status) (part.prints.whole (back_edge s status standing on other))
          (subst (λ (l : List ℕ). AppendsPrefix new.held last l) (sym stay.1) said))) end

    -- it ends
    ended_at : EndsCall status → status ≢ statuses.Memory → (status ≡ statuses.Disk → Rose old.faults new.faults) →
        (status ≢ statuses.Disk → status ≢ statuses.Edge → new.faults ≡ old.faults) → IsEnd (state_after (alone p) H) status (is_failing part.ending) →
        IsEnded disk journal IsDeployedThere old new p H X status (is_failing part.ending)
    ended_at ends memory rose quiet end = record {
      goes = goes;
      sure = record {
        most = part.stands;
        doubt = elim part.doubt [
          | inl stands ↦ inl (subst (λ (x : Device). AllStandFor disk journal new.disk x) (sym same) stands)
          | inr stops ↦ inr stops.1
        ];
      };
      stable = λ none. subst (λ (x : Device). AllStandFor disk journal new.disk x) (sym same) (part.prints.stable none);
      lines = X.lines;
      says = inl refl;
      writes = record {
        prefix = subst (λ (l : List ℕ). AppendsPrefix old.held new.held l) lines_is
            (prefix_more old.held new.held Said (want_line X.status) part.prints.prefix);
        all = λ other. subst (λ (l : List ℕ). Appends old.held new.held l)
            (sym (append-nil Said) ∙ ap (λ (l : List ℕ). Said ++ l) (sym (over_unsaid status (alone p) H part.ending part.ends memory other part.answers))
            ∙ lines_is) (part.prints.whole other);
      };
      is_of = is_of new.held;
      with_status = over_settled status (alone p) H part.ending part.ends memory ends part.answers;
      memory = memory;
      failed = rose;
      quiet = quiet;
      cause = λ on. failed (failing_is part.ending on);
      end = end_beside (state_after (alone p) H) (state_after p H) alike.answer alike.taken p alike.state_is status (is_failing part.ending) end;
    }

  -- what the handling leaves
  module _ (r : Ran J) (later : Components) (now : Told) (lives : List ℕ)
      (part : Part journal.entries journal.files disk.may_leave disk.moment disk.left_since old.disk new.disk old.list new.list old.held new.held (alone p)
      (status_of_ran r) (λ ending q. RanLeft p.generation r (is_failing ending) q later now lives))
      (alike : ServesAlike p part.history) (taken : Result code.Plan Declined)
      (takes : (o : Origin) → (idle_device idle).origin ≡ Some o → TakesRead (idle_device idle) o new.library.content count new.library.faults bytes taken)
      (follows : TakenEnding Start taken part.ending (records_of part.history)) (came : CameBy r (records_of part.history))
      (failed : part.ending ≡ ByDiskFault → Rose old.faults new.faults) (disk_cause : HasDiskFailed taken → Rose old.faults new.faults)
      (library_cause : HasLibraryFailed taken → Rose count new.library.faults) (library_later : count ≤ new.library.faults)
      (whole : AllHoldDevice (disk.may_leave old.disk) p.device → HasLeft disk.moment disk.left_since old.disk new.disk
      (StandsWhole journal.entries p.device (records_of part.history)))
      (accepts : AcceptsTaken journal.entries disk.may_leave disk.moment disk.left_since old.disk new.disk (idle_device idle) Start taken part.ending
      (records_of part.history)) (rose : status_of_ran r ≡ statuses.Disk → Rose old.faults new.faults)
      (quiet : status_of_ran r ≢ statuses.Disk → status_of_ran r ≢ statuses.Edge → new.faults ≡ old.faults) where
    abbrev Leaves : Ending → SessionState → Type 0
    Leaves ending q = RanLeft p.generation r (is_failing ending) q later now lives

    abbrev pub Document : Handled
    Document = X (status_of_ran r) Leaves part alike taken takes follows failed disk_cause library_cause library_later whole accepts

    module _ (s : Idle J) (st : Status) (standing : Standing) (is : r ≡ ran.Back s st standing)
        (there : AllStandFor disk journal new.disk (idle_device s)) where
      left : RanLeft p.generation (ran.Back s st standing) (is_failing part.ending) (state_after (alone p) part.history) later now lives
      left = subst (λ (x : Ran J). RanLeft p.generation x (is_failing part.ending) (state_after (alone p) part.history) later now lives) is part.left

      on : must_end (status_of_ran r) standing ≡ false
      on = ap (λ (z : Status). must_end z standing) (ap status_of_ran is) ∙ left.2

      stays : is_restart (status_of_ran r) ≡ false
      stays = ap is_restart (ap status_of_ran is) ∙ left.3

      came_as : CameBy {J = J} (ran.Back s (status_of_ran r) standing) (records_of part.history)
      came_as = subst (λ (z : Status). CameBy {J = J} (ran.Back s z standing) (records_of part.history)) (sym (ap status_of_ran is))
          (subst (λ (x : Ran J). CameBy x (records_of part.history)) is came)

      stand : AllStandFor disk journal new.disk (state_after p part.history).device
      stand = subst (λ (x : Device). AllStandFor disk journal new.disk x) (sym (device_same p part.history alike ∙ left.0.stands.device_is)) there

      pub ready_left : IsReady standing (state_after p part.history) (idle_device s) later now lives
      ready_left = subst (λ (z : SessionState). IsReady standing z (idle_device s) later now lives) (sym alike.state_is)
          (ready_beside standing p alike.answer alike.taken (state_after (alone p) part.history) (idle_device s) later now lives left.0 left.1
          asked.steady.generation asked.steady.opened (done_of p alike.answer alike.answered
          (subst (λ (o : Option Answer). IfSome o (λ x. is_document x ≡ true)) (sym asked.answer_is) refl)))

      pub back_left : (last : Option (List ℕ)) → Appends new.held last (no_memory_line st standing) →
          DocumentLeft disk journal IsDeployedThere bytes (ran.Back s st standing) old (record new { held = last }) p part.history later now lives
      back_left last said = (
        Document,
        refl,
        handled_at (status_of_ran r) Leaves part alike taken takes follows failed disk_cause library_cause library_later whole accepts s standing on stays
            came_as rose quiet stand last
            (subst (λ (z : Status). Appends new.held last (no_memory_line z standing)) (sym (ap status_of_ran is)) said),
        ready_left,
      )

      pub unsaid_left : (c : Option (List RunnerEntry)) (last : Option (List ℕ)) (g : List TraceEvent) (told_last : Told) (lives_last : List ℕ) →
          AppendsPrefix new.held last (no_memory_line st standing) → ActTrace (state_after p part.history) g new.list c →
          IsEnd (state_after (state_after p part.history) g) statuses.Edge false →
          DocumentLeft {J = J} disk journal IsDeployedThere bytes (ran.Over statuses.Edge) old (record new { list = c; held = last }) p
          (g ++ part.history) later told_last lives_last
      unsaid_left c last g told_last lives_last said acts end = (
        Document,
        false,
        refl,
        unsaid_at (status_of_ran r) Leaves part alike taken takes follows failed disk_cause library_cause library_later whole accepts s standing on stays
            came_as rose quiet stand c last g
            (subst (λ (z : Status). AppendsPrefix new.held last (no_memory_line z standing)) (sym (ap status_of_ran is)) said) acts end,
      )

    pub over_left : (st : Status) → r ≡ ran.Over st → EndsRan r → NoMemoryGoesOn r →
        DocumentLeft {J = J} disk journal IsDeployedThere bytes (ran.Over st) old new p part.history later now lives
    over_left st is ends memory =
        let status_is : status_of_ran r ≡ st = ap status_of_ran is in
        let own_ends : EndsCall st = subst EndsRan is ends in
        let own_memory : st ≢ statuses.Memory = subst NoMemoryGoesOn is memory in
        let end : IsEnd (state_after (alone p) part.history) st (is_failing part.ending) =
        subst (λ (x : Ran J). RanLeft p.generation x (is_failing part.ending) (state_after (alone p) part.history) later now lives) is part.left in (
          Document,
          is_failing part.ending,
          refl,
          subst (λ (z : Status). IsEnded disk journal IsDeployedThere old new p part.history Document z (is_failing part.ending)) status_is
              (ended_at (status_of_ran r) Leaves part alike taken takes follows failed disk_cause library_cause library_later whole accepts
              (subst EndsCall (sym status_is) own_ends) (λ memory. own_memory (sym status_is ∙ memory)) rose quiet
              (subst (λ (z : Status). IsEnd (state_after (alone p) part.history) z (is_failing part.ending)) (sym status_is) end)),
        )
