-- The turns, and what comes before and behind them, join to the whole.
use Rattle.std.specs.Prelude.{ℕ, Bool, true, false, List, [], ◌++◌, length, Option, None}
use Rattle.std.specs.Io.KnownBytes.{Appends}
use Rattle.std.proofs.Common.{◌≡◌, ◌≢◌, ◌≤◌, ◌∙◌, ◌+◌, inl, inr, refl, sym, ap, subst, arith}
use Rattle.std.proofs.KnownBytes.{Appends-trans}
use Rattle.std.proofs.lemmas.Bool.{false≢true}
use Rattle.nuc_base.specs.Faults.{Rose}
use Rattle.nuc_base.specs.declared.status.Status.{Status}
use Rattle.nuc_base.specs.declared.status.Status.TheVariants as statuses
use Rattle.disk_model.specs.Disk.{DiskLaws}
use Rattle.disk_model.specs.declared.disk.Disk as a_disk
use Rattle.gate_log.specs.declared.journal.Journal as a_journal
use Rattle.edges.specs.Pieces.{AppendsPrefix}
use Rattle.records.specs.Stored.{Record}
use Rattle.device.specs.Devices.{Device}
use Rattle.device.specs.Lawful.{Run}
use Rattle.step_runner.specs.declared.entries.RunnerEntry.{RunnerEntry}
use Rattle.histories.specs.Courses.{IsEnd, is_restart}
use Rattle.histories.specs.States.{SessionState, state_after}
use Rattle.histories.specs.TraceEvents.{Answer, TraceEvent, records_of}
use Rattle.histories.proofs.Joined.{left-append, records-append}
use Rattle.session_boots.specs.Traces.{ActTrace, StandsForPrefix}
use Rattle.session.specs.Calls.{IsOrEdge}
use Rattle.session_serving.specs.Parts.{CallEnded, HistoryKept, IsStarted, IsSure, Outside, TurnsPassed}
use Rattle.session_serving.specs.Rounds.{AreHandled, AreStarted, InboxFailed, Handled, LastRound, Round, Shut, Spent, SweepFailed, WantOfMemory, StoppedBy}
use Rattle.session_serving.specs.Rounds.{lines_of_rounds, records_of_last}
use Rattle.session_serving.specs.Rounds.{SaysLast, asked_of_last, questions_of, records_of_rounds, round_of_last, unprinted_of_last}
use Rattle.session_serving.specs.Served.{EndsAs, IsSetServed, ended_line}
use Rattle.session_serving.specs.Turns.{EndsBy, InboxFoundClosed}
use Rattle.session_serving.proofs.Questions.{not_asked, questions-append}
use Rattle.session_serving.proofs.Joining.{Stood, goes_acts, goes_both, holds_acts, kept_held, prefix_behind, stands_acts, started_on, sure_behind, sure_run}

pub ended_as : (Clause : Handled → Type 0) (most : ℕ) {D : Type 0} (rounds : List Round) (last : LastRound)
    (status : Status) (old new : Outside D) (d : Device) →
    EndsBy Clause last status old new d → EndsAs Clause most rounds last status old new d
ended_as Clause most rounds Spent status old new d by = absurd by
ended_as Clause most rounds Shut status old new d by = absurd by
ended_as Clause most rounds (StoppedBy x) status old new d by = by
ended_as Clause most rounds SweepFailed status old new d by = by
ended_as Clause most rounds InboxFailed status old new d by = by
ended_as Clause most rounds WantOfMemory status old new d by = by

-- only a call that was asked often enough prints that
pub not_spent : (Clause : Handled → Type 0) {D : Type 0} (last : LastRound) (status : Status) (old new : Outside D) (d : Device) →
    EndsBy Clause last status old new d →
    last ≡ Spent → ⊥
not_spent Clause Spent status old new d by is = by
not_spent Clause Shut status old new d by is = by
not_spent Clause (StoppedBy x) status old new d by is = cc
not_spent Clause SweepFailed status old new d by is = cc
not_spent Clause InboxFailed status old new d by is = cc
not_spent Clause WantOfMemory status old new d by is = cc

pub over_none : (status : Status) → IsOrEdge status statuses.TurnsOver → is_restart status ≡ false
over_none status (inl is) = ap is_restart is
over_none status (inr is) = ap is_restart is

module _ {D J : Type 0} (disk : a_disk.Ghosts D) (journal : a_journal.Ghosts J)
    (laws : DiskLaws disk.is_modelled disk.seen disk.may_leave disk.moment disk.left_since) (Clause : Handled → Type 0) where
  pub ended : (most : ℕ) (old to new : Outside D) (p : SessionState) (h g : List TraceEvent) (rounds : List Round) (last : LastRound)
      (status : Status) (rose : Bool)
      (lines : List ℕ) → TurnsPassed disk journal Clause old to p h rounds → length rounds + asked_of_last last ≤ most →
      HistoryKept disk journal to.disk new.disk to.list new.list (state_after p h) g → IsSure disk journal new.disk (state_after p h) g →
      records_of g ≡ records_of_last last → EndsAs Clause most rounds last status to new (state_after p h).device → AppendsPrefix to.held new.held lines →
      (status ≢ statuses.Edge → Appends to.held new.held lines) → (last ≡ Spent → lines ≡ ended_line most) →
      SaysLast last status lines →
      (unprinted_of_last last ≡ [] → Stood disk journal laws new.disk (state_after (state_after p h) g).device) →
      AreStarted (IsStarted disk journal to.disk new.disk) (round_of_last last) → (status ≡ statuses.Disk → Rose to.faults new.faults) →
      (status ≢ statuses.Disk → status ≢ statuses.Edge → new.faults ≡ to.faults) → (rose ≡ true → Rose to.faults new.faults) →
      IsEnd (state_after (state_after p h) g) status rose →
      IsSetServed disk journal Clause most old new p (g ++ h) status
  ended most old to new p h g rounds last status rose lines turns few tail sure records ends prefix whole spent says stable shown failed quiet cause end =
      let left = left-append p g h in
      record {
        goes = goes_both disk journal laws old.disk to.disk new.disk old.list to.list new.list p h g turns.goes turns.holds tail;
        sure = sure_behind disk journal laws new.disk p h g turns.goes.run sure;
        rounds = rounds;
        last = last;
        stable = λ none. subst (λ (q : SessionState). Stood disk journal laws new.disk q.device) (sym left) (stable none);
        to = to;
        behind = (state_after p h).device;
        asked = few;
        questions = (questions_of g, questions-append g h ∙ ap (λ (l : List Answer). l ++ questions_of g) turns.asked);
        handled = turns.handled;
        answered = turns.answered;
        given = turns.given;
        starts = started_on disk journal laws old.disk to.disk new.disk (StandsForPrefix journal.entries p.device (records_of h))
            (StandsForPrefix journal.entries (state_after p h).device (records_of g)) turns.goes.images tail.images rounds (round_of_last last)
            turns.starts shown;
        records = records-append g h ∙ ap (λ (l : List Record). l ++ records_of g) turns.records ∙
            ap (λ (l : List Record). records_of_rounds rounds ++ l) records;
        ends = ends;
        lines = lines;
        says = says;
        writes = record {
          prefix = prefix_behind old.held to.held new.held (lines_of_rounds rounds) lines turns.lines prefix;
          all = λ other. Appends-trans old.held to.held new.held (lines_of_rounds rounds) lines turns.lines (whole other);
        };
        spent = spent;
        failed = failed;
        quiet = quiet;
        rose = rose;
        cause = cause;
        end = subst (λ (q : SessionState). IsEnd q status rose) (sym left) end;
      }

  -- behind what brought the set up
  pub served_behind : (most : ℕ) (old new : Outside D) (p : SessionState) (k h : List TraceEvent) (status : Status) →
      Stood disk journal laws old.disk p.device → ActTrace p k old.list old.list → (state_after p k).turns ≡ p.turns →
      IsSetServed disk journal Clause most old new (state_after p k) h status → IsSetServed disk journal Clause most old new p (h ++ k) status
  served_behind most old new p k h status stands acts turns s =
      let tail = goes_acts disk journal laws old.disk old.list old.list p k stands acts in
      record {
        goes = goes_both disk journal laws old.disk old.disk new.disk old.list old.list new.list p k h tail
            (holds_acts disk journal laws old.disk old.list old.list p k acts) s.goes;
        sure = sure_behind disk journal laws new.disk p k h tail.run s.sure;
        rounds = s.rounds;
        last = s.last;
        stable = λ none. subst (λ (q : SessionState). Stood disk journal laws new.disk q.device) (sym (left-append p h k)) (s.stable none);
        to = s.to;
        behind = s.behind;
        asked = s.asked;
        questions = (
          s.questions.0,
          questions-append h k ∙ ap (λ (l : List Answer). l ++ questions_of h) (not_asked p k acts.proper turns) ∙ s.questions.1,
        );
        handled = subst (λ (d : Device). AreHandled Clause d old.library old.faults s.rounds s.behind s.to.library s.to.faults) acts.device s.handled;
        answered = s.answered;
        given = s.given;
        starts = s.starts;
        records = records-append h k ∙ ap (λ (l : List Record). l ++ records_of h) acts.none ∙ s.records;
        ends = s.ends;
        lines = s.lines;
        says = s.says;
        writes = record { prefix = s.writes.prefix; all = s.writes.all };
        spent = s.spent;
        failed = s.failed;
        quiet = s.quiet;
        rose = s.rose;
        cause = s.cause;
        end = subst (λ (q : SessionState). IsEnd q status s.rose) (sym (left-append p h k)) s.end;
      }

  -- the inbox was closed, and all were stopped
  pub served_shut : (most : ℕ) (old to mid : Outside D) (p : SessionState) (h before g k : List TraceEvent) (rounds : List Round)
      (list : Option (List RunnerEntry)) →
      h ≡ g ++ before → TurnsPassed disk journal Clause old to p before rounds → InboxFoundClosed disk journal Clause to mid (state_after p before) g →
      length rounds + 1 ≤ most →
      ActTrace (state_after p h) k mid.list list → (state_after p h).device.pending ≡ None → IsEnd (state_after (state_after p h) k) statuses.Done false →
      (j : List TraceEvent) × IsSetServed disk journal Clause most old (record mid { list = list }) p j statuses.Done
  served_shut most old to mid p h before g k rounds list split turns shuts few acts idle end =
      let q = state_after p before in
      let same : state_after p h ≡ state_after q g = ap (λ (l : List TraceEvent). state_after p l) split ∙ left-append p g before in
      let stays : (state_after q g).device ≡ q.device = subst (λ (l : List Record). Run q.device l (state_after q g).device) shuts.none shuts.goes.run in
      let none = sym (ap (λ (x : Device). x.pending) stays) ∙ ap (λ (x : SessionState). x.device.pending) (sym same) ∙ idle in
      let own : ActTrace (state_after q g) k mid.list list = subst (λ (x : SessionState). ActTrace x k mid.list list) same acts in
      let tail = goes_both disk journal laws to.disk mid.disk mid.disk to.list mid.list list q g k shuts.goes shuts.holds
      (goes_acts disk journal laws mid.disk mid.list list (state_after q g) k shuts.stands own) in
      let stands : Stood disk journal laws mid.disk (state_after q (k ++ g)).device = subst (λ (x : SessionState). Stood disk journal laws mid.disk x.device)
      (sym (left-append q k g)) (stands_acts disk journal laws mid.disk mid.list list (state_after q g) k shuts.stands own) in (
        (k ++ g) ++ before,
        ended most old to (record mid { list = list }) p before (k ++ g) rounds Shut statuses.Done false [] turns (omega (arith, few)) tail
            (sure_run disk journal laws mid.disk q (k ++ g) tail.run stands)
            (records-append k g ∙ ap (λ (l : List Record). l ++ records_of k) shuts.none ∙ own.none) (
              refl,
              record {
                answered = shuts.says.answered;
                waiting = shuts.says.waiting;
                closed = shuts.says.closed;
                held = shuts.says.held;
                library = shuts.says.library;
                faults = shuts.says.faults;
              },
              none,
            )
            ([], [], refl, kept_held to.held mid.held shuts.says.held) (λ other. kept_held to.held mid.held shuts.says.held) (λ is. cc)
            refl (λ untold. stands) tt (λ is. absurd cc) (λ disk edge. shuts.says.faults) (λ on. absurd (false≢true on))
            (subst (λ (x : SessionState). IsEnd x statuses.Done false) (sym (left-append q k g))
            (subst (λ (x : SessionState). IsEnd (state_after x k) statuses.Done false) same end)),
      )

  -- the call ended before
  pub served_over : (most : ℕ) (old to new : Outside D) (p : SessionState) (h before g : List TraceEvent) (rounds : List Round) (last : LastRound)
      (status : Status)
      (rose : Bool) → h ≡ g ++ before → TurnsPassed disk journal Clause old to p before rounds →
      CallEnded disk journal (EndsBy Clause) to new (state_after p before) g last status rose →
      length rounds + asked_of_last last ≤ most → (j : List TraceEvent) × IsSetServed disk journal Clause most old new p j status
  served_over most old to new p h before g rounds last status rose split turns e few = (
    g ++ before,
    ended most old to new p before g rounds last status rose e.lines turns few e.goes e.sure e.records
        (ended_as Clause most rounds last status to new (state_after p before).device e.why) e.writes.prefix e.writes.all
        (λ is. absurd (not_spent Clause last status to new (state_after p before).device e.why is)) e.says e.stable e.starts e.failed e.quiet e.cause e.end,
  )
