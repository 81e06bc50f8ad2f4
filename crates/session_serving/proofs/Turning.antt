-- What a turn leaves, by what the inbox gave.
use Rattle.std.specs.Prelude.{ℕ, Bool, false, List, [], ◌∷◌, ◌++◌, Option, Some, None, IfSome, option_map, if◌then◌else◌}
use Rattle.std.specs.Io.KnownBytes.{Appends}
use Rattle.std.proofs.Common.{◌≡◌, ◌≢◌, ◌≤◌, ◌∙◌, ◌+◌, inl, inr, refl, sym, ap, subst, append_assoc, arith}
use Rattle.std.proofs.KnownBytes.{Appends-nil}
use Rattle.std.proofs.lemmas.Bool.{false≢true}
use Rattle.std.proofs.lemmas.List.{append-nil}
use Rattle.nuc_base.specs.declared.status.Status.{Status}
use Rattle.nuc_base.specs.declared.status.Status.TheVariants as statuses
use Rattle.disk_model.specs.Disk.{DiskLaws}
use Rattle.disk_model.specs.declared.disk.Disk as a_disk
use Rattle.gate_log.specs.declared.journal.Journal as a_journal
use Rattle.edges.specs.Inboxes.{after_answer, after_done}
use Rattle.edges.specs.Pieces.{AppendsPrefix}
use Rattle.edges.specs.Waiting.{Waiting, next_of, without_first}
use Rattle.edges.specs.declared.answered.Answered.{Answered}
use Rattle.edges.specs.declared.answered.Kind.TheVariants.{Closed, Document, Nothing}
use Rattle.edges.specs.declared.inbox.InboxFault.{InboxFault}
use Rattle.edges.specs.declared.inbox.InboxFault.TheVariants as faults
use Rattle.edges.specs.declared.inbox.Incoming.TheVariants.{Closed as IsClosed, Document as GivesDocument, Nothing as GivesNothing}
use Rattle.records.specs.Stored.{Record}
use Rattle.device.specs.Devices.{Device}
use Rattle.device.specs.Lawful.{Run}
use Rattle.deploy_state.specs.States.{idle_device}
use Rattle.step_runner.specs.Entries.{Told}
use Rattle.step_runner.specs.declared.entries.RunnerEntry.{RunnerEntry}
use Rattle.components.specs.Components.{Components}
use Rattle.histories.specs.Courses.{IsEnd, is_restart}
use Rattle.histories.specs.States.{SessionState, state_after}
use Rattle.histories.specs.TraceEvents.{Answer, TraceEvent, document, nothing, records_of}
use Rattle.histories.proofs.Joined.{left-append, records-append}
use Rattle.session_boots.specs.Traces.{ActTrace}
use Rattle.session_shutdown.specs.Stops.{MayStop}
use Rattle.session_steady.specs.Serves.{IsServing}
use Rattle.session_serving.specs.Documents.{IsDone, IsLastDone}
use Rattle.session_serving.specs.Parts.{CallEnded, HistoryKept, IsStarted, IsSure, Outside, TurnsPassed}
use Rattle.session_serving.specs.Rounds.{SaysLast, Shut, Spent, SweepFailed, asked_of_last}
use Rattle.session_serving.specs.Rounds.{AreStarted, InboxFailed, WaitingLeft, Handled, LastRound, Round, WantOfMemory, StoppedBy, Took, Waited}
use Rattle.session_serving.specs.Rounds.{questions_of, records_of_last}
use Rattle.session_serving.specs.Rounds.{round_of_last}
use Rattle.session_serving.specs.Turns.{AsksNone, EndsBy, GivesUpBy, HandleLeft, OverLeft, InboxFoundClosed, TurnLeft, line_of_fault}
use Rattle.session_serving.specs.declared.turned.Turned.{Turned}
use Rattle.session_serving.specs.declared.turned.Turned.TheVariants as turned
use Rattle.session_serving.proofs.Questions.{not_asked, questions-append}
use Rattle.session_serving.proofs.Joining.{Stood, goes_acts, goes_both, holds_acts, holds_both, stands_acts, sure_acts, sure_behind, turns_acts}
use Rattle.session_serving.proofs.Joining.{turns_both, turns_none}

-- ---- what waits

gives_waited : (old new : Option Waiting) → new ≡ old → IfSome old (λ w. GivesNothing ≡ next_of w.documents w.closed) → WaitingLeft old new (Waited ∷ [])
gives_waited None new same next = same
gives_waited (Some w) new same next = ((sym next, tt), same)

gives_took : (x : Handled) (bytes : List ℕ) (old mid new : Option Waiting) → mid ≡ old → IfSome old (λ w. GivesDocument bytes ≡ next_of w.documents w.closed) →
    x.bytes ≡ bytes → new ≡ option_map without_first mid → WaitingLeft old new (Took x ∷ [])
gives_took x bytes None mid new same next is done = done ∙ ap (λ (o : Option Waiting). option_map without_first o) same
gives_took x bytes (Some w) mid new same next is done =
    ((sym next ∙ ap (λ (l : List ℕ). GivesDocument l) (sym is), tt), done ∙ ap (λ (o : Option Waiting). option_map without_first o) same)

took_next : (x : Handled) (bytes : List ℕ) (old : Option Waiting) → IfSome old (λ w. GivesDocument bytes ≡ next_of w.documents w.closed) → x.bytes ≡ bytes →
    IfSome old (λ w. next_of w.documents w.closed ≡ GivesDocument x.bytes)
took_next x bytes None next is = tt
took_next x bytes (Some w) next is = sym next ∙ ap (λ (l : List ℕ). GivesDocument l) (sym is)

closed_next : (w : Option Waiting) → IfSome w (λ v. IsClosed ≡ next_of v.documents v.closed) → IfSome w (λ v. next_of v.documents v.closed ≡ IsClosed)
closed_next None next = tt
closed_next (Some v) next = sym next

one_asked : (last : LastRound) → asked_of_last last ≤ 1
one_asked Spent = omega arith
one_asked Shut = omega arith
one_asked (StoppedBy x) = omega arith
one_asked SweepFailed = omega arith
one_asked InboxFailed = omega arith
one_asked WantOfMemory = omega arith

-- a fault of an edge, and want of memory, are none of the disk
pub never_edge : statuses.Edge ≡ statuses.Disk → ⊥
never_edge is = cc

pub never_memory : statuses.Memory ≡ statuses.Disk → ⊥
never_memory is = cc

-- what is seen when the inbox has answered so
abbrev pub answered_as : {D : Type 0} → Outside D → Option (List RunnerEntry) → Answered → Option Waiting → Outside D
answered_as old b answered waiting = record old { list = b; answered = answered; waiting = waiting }

module _ {D J : Type 0} (disk : a_disk.Ghosts D) (journal : a_journal.Ghosts J)
    (laws : DiskLaws disk.is_modelled disk.seen disk.may_leave disk.moment disk.left_since) (Clause : Handled → Type 0) where
  module _ (old : Outside D) (p : SessionState) (stands : Stood disk journal laws old.disk p.device) where
    -- it had nothing
    pub waited : (b : Option (List RunnerEntry)) (new : Answered) (after : Option Waiting) (h : List TraceEvent) → ActTrace p h old.list b →
        (state_after p h).turns + 1 ≡ p.turns → questions_of h ≡ nothing ∷ [] → new ≡ after_answer Nothing old.answered → after ≡ old.waiting →
        IfSome old.waiting (λ w. GivesNothing ≡ next_of w.documents w.closed) →
        TurnsPassed disk journal Clause old (answered_as old b new after) p h (Waited ∷ [])
    waited b new after h acts turns asked answered same next = record {
      goes = goes_acts disk journal laws old.disk old.list b p h stands acts;
      stands = stands_acts disk journal laws old.disk old.list b p h stands acts;
      holds = holds_acts disk journal laws old.disk old.list b p h acts;
      lines = Appends-nil old.held;
      records = acts.none;
      asked = asked;
      handled = (acts.device, refl, refl);
      answered = answered;
      given = gives_waited old.waiting after same next;
      turns = turns;
      starts = tt;
    }

    -- it was closed
    pub shut : (b : Option (List RunnerEntry)) (new : Answered) (after : Option Waiting) (h : List TraceEvent) → ActTrace p h old.list b →
        new ≡ after_answer Closed old.answered → after ≡ old.waiting → IfSome old.waiting (λ w. IsClosed ≡ next_of w.documents w.closed) →
        InboxFoundClosed disk journal Clause old (answered_as old b new after) p h
    shut b new after h acts answered same next = record {
      goes = goes_acts disk journal laws old.disk old.list b p h stands acts;
      stands = stands_acts disk journal laws old.disk old.list b p h stands acts;
      holds = holds_acts disk journal laws old.disk old.list b p h acts;
      none = acts.none;
      says = record { answered = answered; waiting = same; closed = closed_next old.waiting next; held = refl; library = refl; faults = refl };
    }

    -- the records of its document lead from the device to that behind them
    run_of : {b : Option (List RunnerEntry)} (h g : List TraceEvent) (x : Handled) → ActTrace p h old.list b → records_of g ≡ x.records →
        x.behind ≡ (state_after (state_after p h) g).device → Run (state_after p h).device (records_of g) (state_after (state_after p h) g).device →
        Run p.device x.records x.behind
    run_of h g x acts records behind run =
        subst (λ (e : Device). Run e x.records x.behind) acts.device
        (subst (λ (l : List Record). Run (state_after p h).device l x.behind) records
        (subst (λ (e : Device). Run (state_after p h).device (records_of g) e) (sym behind) run))

    -- its document was handled
    pub took : (b : Option (List RunnerEntry)) (mid : Answered) (between : Option Waiting) (new : Outside D) (bytes : List ℕ) (h g : List TraceEvent)
        (x : Handled) → ActTrace p h old.list b → (state_after p h).turns + 1 ≡ p.turns → questions_of h ≡ document ∷ [] →
        mid ≡ after_answer Document old.answered → between ≡ old.waiting →
        IfSome old.waiting (λ w. GivesDocument bytes ≡ next_of w.documents w.closed) → x.bytes ≡ bytes →
        IsDone disk journal Clause (answered_as old b mid between) new (state_after p h) g x → TurnsPassed disk journal Clause old new p (g ++ h) (Took x ∷ [])
    took b mid between new bytes h g x acts turns asked answered same next is done =
        let left = left-append p g h in
        let i = done.handled in
        let o = i.is_of in
        record {
          goes = goes_both disk journal laws old.disk old.disk new.disk old.list b new.list p h g
              (goes_acts disk journal laws old.disk old.list b p h stands acts) (holds_acts disk journal laws old.disk old.list b p h acts) i.goes;
          stands = subst (λ (q : SessionState). Stood disk journal laws new.disk q.device) (sym left) i.stands;
          holds = holds_both disk journal laws old.disk old.disk new.disk p h g (holds_acts disk journal laws old.disk old.list b p h acts) i.holds;
          lines = subst (λ (l : List ℕ). Appends old.held new.held l) (sym (append-nil x.lines)) i.lines;
          records = records-append g h ∙ ap (λ (l : List Record). l ++ records_of g) acts.none ∙ o.records ∙ sym (append-nil x.records);
          asked = questions-append g h ∙ ap (λ (l : List Answer). l ++ questions_of g) asked
              ∙ ap (λ (l : List Answer). document ∷ l) (not_asked (state_after p h) g i.goes.proper i.turns);
          handled = (
            o.device ∙ acts.device,
            o.before,
            o.disk_before,
            i.stays,
            o.clause,
            run_of h g x acts o.records o.behind i.goes.run,
            (ap (λ (q : SessionState). q.device) left ∙ sym o.behind, sym o.after, sym o.disk_after),
          );
          answered = done.answered ∙ ap (λ (z : Answered). after_done z) answered;
          given = gives_took x bytes old.waiting between new.waiting same next is done.given;
          turns =
              let l : (state_after p (g ++ h)).turns ≡ (state_after (state_after p h) g).turns = ap (λ (q : SessionState). q.turns) left in
              let t = i.turns in
              omega (arith, l, t, turns);
          starts = (o.starts, tt);
        }

    -- its document ends the call
    pub stopped : (b : Option (List RunnerEntry)) (mid : Answered) (between : Option Waiting) (new : Outside D) (bytes : List ℕ) (h g : List TraceEvent)
        (x : Handled) (status : Status) (rose : Bool) → ActTrace p h old.list b → mid ≡ after_answer Document old.answered → between ≡ old.waiting →
        IfSome old.waiting (λ w. GivesDocument bytes ≡ next_of w.documents w.closed) → x.bytes ≡ bytes →
        IsLastDone disk journal Clause (answered_as old b mid between) new (state_after p h) g x status rose →
        CallEnded disk journal (EndsBy Clause) old new p (g ++ h) (StoppedBy x) status rose
    stopped b mid between new bytes h g x status rose acts answered same next is last =
        let left = left-append p g h in
        let i = last.ended in
        let o = i.is_of in
        let tail = goes_acts disk journal laws old.disk old.list b p h stands acts in
        record {
          goes = goes_both disk journal laws old.disk old.disk new.disk old.list b new.list p h g tail
              (holds_acts disk journal laws old.disk old.list b p h acts) i.goes;
          sure = sure_behind disk journal laws new.disk p h g tail.run i.sure;
          stable = λ none. subst (λ (q : SessionState). Stood disk journal laws new.disk q.device) (sym left) (i.stable none);
          lines = i.lines;
          says = i.says;
          writes = record { prefix = i.writes.prefix; all = i.writes.all };
          records = records-append g h ∙ ap (λ (l : List Record). l ++ records_of g) acts.none ∙ o.records;
          why = record {
            device = o.device ∙ acts.device;
            before = o.before;
            after = o.after;
            disk_before = o.disk_before;
            disk_after = o.disk_after;
            next = took_next x bytes old.waiting next is;
            run = run_of h g x acts o.records o.behind i.goes.run;
            clause = o.clause;
            with_status = i.with_status;
            memory = i.memory;
            answered = subst (λ (z : Answered). new.answered ≡ (if is_restart status then after_done z else z)) answered last.answered;
            given = subst (λ (z : Option Waiting). new.waiting ≡ (if is_restart status then option_map without_first z else z)) same last.given;
          };
          starts = (o.starts, tt);
          failed = i.failed;
          quiet = i.quiet;
          cause = i.cause;
          end = subst (λ (q : SessionState). IsEnd q status rose) (sym left) i.end;
        }

    -- it gave no answer, or the call gives up at the clock's end
    pub given_up : (last : LastRound) (status : Status) (lines : List ℕ) (new : Outside D) (h : List TraceEvent) → new.disk ≡ old.disk →
        new.faults ≡ old.faults → (status ≡ statuses.Disk → ⊥) → ActTrace p h old.list new.list → records_of_last last ≡ [] → round_of_last last ≡ [] → SaysLast last status lines →
        EndsBy Clause last status old new p.device →
        AppendsPrefix old.held new.held lines →
        (status ≢ statuses.Edge → Appends old.held new.held lines) → IsEnd (state_after p h) status false →
        CallEnded disk journal (EndsBy Clause) old new p h last status false
    given_up last status lines new h same still other acts none no_round says why prefix whole end = record {
      goes = subst (λ (d : D). HistoryKept disk journal old.disk d old.list new.list p h) (sym same)
          (goes_acts disk journal laws old.disk old.list new.list p h stands acts);
      sure = subst (λ (d : D). IsSure disk journal d p h) (sym same)
          (sure_acts disk journal laws old.disk old.list new.list p h stands acts);
      stable = λ none. subst (λ (d : D). Stood disk journal laws d (state_after p h).device) (sym same)
          (stands_acts disk journal laws old.disk old.list new.list p h stands acts);
      lines = lines;
      says = says;
      writes = record { prefix = prefix; all = whole };
      records = acts.none ∙ sym none;
      why = why;
      starts = subst (λ (l : List Round). AreStarted (IsStarted disk journal old.disk new.disk) l) (sym no_round) tt;
      failed = λ is. absurd (other is);
      quiet = λ disk edge. still;
      cause = λ on. absurd (false≢true on);
      end = end;
    }

    -- so ends a turn
    pub over_at : (last : LastRound) (status : Status) (rose : Bool) (new : Outside D) (h : List TraceEvent) →
        CallEnded disk journal (EndsBy Clause) old new p h last status rose → OverLeft disk journal Clause 1 status old new p h
    over_at last status rose new h ends =
        let few = one_asked last in
        ([], h, old, [], last, rose, sym (append-nil h), turns_none disk journal laws Clause old p stands, ends, omega (arith, few))

    -- behind the handling of a document
    pub handled : (b : Option (List RunnerEntry)) (mid : Answered) (between : Option Waiting) (new : Outside D) (bytes : List ℕ) (h g : List TraceEvent)
        (r : Turned J) (world : Components) (told : Told) (living : List ℕ) → ActTrace p h old.list b → (state_after p h).turns + 1 ≡ p.turns →
        questions_of h ≡ document ∷ [] → mid ≡ after_answer Document old.answered → between ≡ old.waiting →
        IfSome old.waiting (λ w. GivesDocument bytes ≡ next_of w.documents w.closed) →
        HandleLeft disk journal Clause bytes r (answered_as old b mid between) new (state_after p h) g world told living →
        TurnLeft disk journal Clause r old new p (g ++ h) world told living
    handled b mid between new bytes h g (turned.On s) world told living acts turns asked answered same next l = (
      Took l.0,
      took b mid between new bytes h g l.0 acts turns asked answered same next l.1 l.2,
      subst (λ (q : SessionState). IsServing q (idle_device s) world told living) (sym (left-append p g h)) l.3,
    )
    handled b mid between new bytes h g (turned.Shut s) world told living acts turns asked answered same next l = absurd l
    handled b mid between new bytes h g (turned.Over status) world told living acts turns asked answered same next (inl l) =
        over_at (StoppedBy l.0) status l.1 new (g ++ h) (stopped b mid between new bytes h g l.0 status l.1 acts answered same next l.2 l.3)
    handled b mid between new bytes h g (turned.Over status) world told living acts turns asked answered same next (inr l) = (
      l.2 ++ h,
      l.3,
      l.4,
      Took l.0 ∷ [],
      WantOfMemory,
      false,
      ap (λ (k : List TraceEvent). k ++ h) l.5 ∙ append_assoc l.3 l.2 h,
      took b mid between l.4 bytes h l.2 l.0 acts turns asked answered same next l.1 l.6,
      subst (λ (q : SessionState). CallEnded disk journal (EndsBy Clause) l.4 new q l.3 WantOfMemory status false) (sym (left-append p l.2 h)) l.7,
      omega arith,
    )

    -- behind what was settled
    pub turn_behind : (b : Option (List RunnerEntry)) (new : Outside D) (k h : List TraceEvent) (r : Turned J) (world : Components) (told : Told)
        (living : List ℕ) → ActTrace p k old.list b → (state_after p k).turns ≡ p.turns →
        TurnLeft disk journal Clause r (record old { list = b }) new (state_after p k) h world told living →
        TurnLeft disk journal Clause r old new p (h ++ k) world told living
    turn_behind b new k h (turned.On s) world told living acts turns l = (
      l.0,
      turns_both disk journal laws Clause old (record old { list = b }) new p k h [] (l.0 ∷ [])
          (turns_acts disk journal laws Clause old b p k stands acts turns) l.1,
      subst (λ (q : SessionState). IsServing q (idle_device s) world told living) (sym (left-append p h k)) l.2,
    )
    turn_behind b new k h (turned.Shut s) world told living acts turns l =
        let i = l.0 in
        let tail = goes_acts disk journal laws old.disk old.list b p k stands acts in
        let keeps = holds_acts disk journal laws old.disk old.list b p k acts in (
          record {
            goes = goes_both disk journal laws old.disk old.disk new.disk old.list b new.list p k h tail keeps i.goes;
            stands = subst (λ (q : SessionState). Stood disk journal laws new.disk q.device) (sym (left-append p h k)) i.stands;
            holds = holds_both disk journal laws old.disk old.disk new.disk p k h keeps i.holds;
            none = records-append h k ∙ ap (λ (m : List Record). m ++ records_of h) acts.none ∙ i.none;
            says = record {
              answered = i.says.answered;
              waiting = i.says.waiting;
              closed = i.says.closed;
              held = i.says.held;
              library = i.says.library;
              faults = i.says.faults;
            };
          },
          subst (λ (q : SessionState). MayStop q (idle_device s) world told living) (sym (left-append p h k)) l.1,
        )
    turn_behind b new k h (turned.Over status) world told living acts turns l = (
      l.0 ++ k,
      l.1,
      l.2,
      l.3,
      l.4,
      l.5,
      ap (λ (m : List TraceEvent). m ++ k) l.6 ∙ append_assoc l.1 l.0 k,
      turns_both disk journal laws Clause old (record old { list = b }) l.2 p k l.0 [] l.3 (turns_acts disk journal laws Clause old b p k stands acts turns)
          l.7,
      subst (λ (q : SessionState). CallEnded disk journal (EndsBy Clause) l.2 new q l.1 l.4 status l.5) (sym (left-append p l.0 k)) l.8,
      l.9,
    )

    -- since the inbox gave no answer
    pub fault_over : (fault : InboxFault) (status : Status) (new : Outside D) (h : List TraceEvent) → new.disk ≡ old.disk → new.faults ≡ old.faults →
        ActTrace p h old.list new.list →
        AsksNone old new → GivesUpBy fault status → AppendsPrefix old.held new.held (line_of_fault fault) →
        (status ≢ statuses.Edge → Appends old.held new.held (line_of_fault fault)) → IsEnd (state_after p h) status false →
        OverLeft disk journal Clause 1 status old new p h
    fault_over faults.Failed status new h same still acts none why prefix whole end =
        over_at InboxFailed status false new h
        (given_up InboxFailed status (line_of_fault faults.Failed) new h same still (λ is. never_edge (sym why ∙ is)) acts refl refl refl (why, none) prefix whole end)
    fault_over faults.NoMemory status new h same still acts none why prefix whole end =
        over_at WantOfMemory status false new h
        (given_up WantOfMemory status (line_of_fault faults.NoMemory) new h same still (λ is. never_memory (sym why ∙ is)) acts refl refl refl (why, none) prefix whole end)
