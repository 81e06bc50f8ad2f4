-- The handling of a document, its `done`, and what follows.
use Rattle.std.specs.Prelude.{ℕ, Bool, true, false, List, [], ◌++◌, Option, option_map, if◌then◌else◌}
use Rattle.std.proofs.Common.{◌≡◌, ◌∙◌, inl, inr, refl, sym, ap, subst}
use Rattle.std.proofs.KnownBytes.{Appends-nil}
use Rattle.std.proofs.lemmas.Bool.{false≢true}
use Rattle.std.proofs.lemmas.List.{append-nil}
use Rattle.nuc_base.specs.declared.status.Status.{Status}
use Rattle.nuc_base.specs.declared.status.Status.TheVariants as statuses
use Rattle.disk_model.specs.Disk.{DiskLaws}
use Rattle.disk_model.specs.declared.disk.Disk as a_disk
use Rattle.gate_log.specs.declared.journal.Journal as a_journal
use Rattle.edges.specs.Inboxes.{after_done}
use Rattle.edges.specs.Pieces.{AppendsPrefix}
use Rattle.edges.specs.Waiting.{Waiting, without_first}
use Rattle.edges.specs.declared.answered.Answered.{Answered}
use Rattle.records.specs.Stored.{Record}
use Rattle.step_runner.specs.declared.entries.RunnerEntry.{RunnerEntry}
use Rattle.histories.specs.Courses.{IsEnd, is_restart}
use Rattle.histories.specs.States.{SessionState, state_after}
use Rattle.histories.specs.TraceEvents.{TraceEvent, records_of}
use Rattle.histories.proofs.Joined.{left-append, records-append}
use Rattle.session_boots.specs.Traces.{ActTrace}
use Rattle.session_serving.specs.Documents.{IsDone, IsEnded, IsHandled, IsLastDone, IsOf}
use Rattle.session_serving.specs.Parts.{CallEnded, HistoryKept, HoldsOn, Outside}
use Rattle.session_serving.specs.Rounds.{Handled, SaysStopped, WantOfMemory, inbox_fault_line}
use Rattle.session_serving.specs.Turns.{EndsBy}
use Rattle.session_serving.proofs.Joining.{Stood, goes_acts, goes_both, holds_acts, holds_both, prefix_behind, stands_acts, sure_acts, sure_run}

-- what is seen when the inbox was told that a document is done
abbrev pub done_as : {D : Type 0} → Outside D → Answered → Option Waiting → Outside D
done_as o answered waiting = record o { answered = answered; waiting = waiting }

-- a call that ends for a restart has said all
said_all : (x : Handled) (status : Status) (lines : List ℕ) → is_restart status ≡ true → SaysStopped x status lines → lines ≡ x.lines
said_all x status lines restarts (inl is) = is
said_all x status lines restarts (inr both) = absurd (false≢true (sym (ap is_restart both.1) ∙ restarts))

-- a fault of an edge is no want of memory, and none of the disk
pub edge_memory : statuses.Edge ≡ statuses.Memory → ⊥
edge_memory is = cc

pub edge_disk : statuses.Edge ≡ statuses.Disk → ⊥
edge_disk is = cc

-- with 6 a call ends from wherever no child lives, and it has none before: no matter what stands
pub at_edge : (p : SessionState) (status : Status) (rose : Bool) → status ≡ statuses.Edge → IsEnd p statuses.Edge rose → IsEnd p status rose
at_edge p status rose is end = subst (λ (s : Status). IsEnd p s rose) (sym is) end

module _ {D J : Type 0} (disk : a_disk.Ghosts D) (journal : a_journal.Ghosts J)
    (laws : DiskLaws disk.is_modelled disk.seen disk.may_leave disk.moment disk.left_since) (Clause : Handled → Type 0)
    (old new : Outside D) (p : SessionState) (h : List TraceEvent) (x : Handled) where
  -- whatever is seen of the inbox, of the sink and of the runner
  of_as : (list : Option (List RunnerEntry)) (held : Option (List ℕ)) (answered : Answered) (waiting : Option Waiting) →
      IsOf disk journal Clause old new p h x →
      IsOf disk journal Clause old (record new { list = list; held = held; answered = answered; waiting = waiting }) p h x
  of_as list held answered waiting o = record {
    records = o.records;
    device = o.device;
    behind = o.behind;
    before = o.before;
    after = o.after;
    disk_before = o.disk_before;
    disk_after = o.disk_after;
    clause = o.clause;
    starts = o.starts;
  }

  -- and what happens behind it without a record
  of_then : (list : Option (List RunnerEntry)) (held : Option (List ℕ)) (answered : Answered) (waiting : Option Waiting) (c : Option (List RunnerEntry))
      (g : List TraceEvent) → IsOf disk journal Clause old new p h x → ActTrace (state_after p h) g new.list c →
      IsOf disk journal Clause old (record new { list = list; held = held; answered = answered; waiting = waiting }) p (g ++ h) x
  of_then list held answered waiting c g o acts = record {
    records = records-append g h ∙ ap (λ (l : List Record). records_of h ++ l) acts.none ∙ append-nil (records_of h) ∙ o.records;
    device = o.device;
    behind = o.behind ∙ sym (ap (λ (q : SessionState). q.device) (left-append p g h) ∙ acts.device);
    before = o.before;
    after = o.after;
    disk_before = o.disk_before;
    disk_after = o.disk_after;
    clause = o.clause;
    starts = o.starts;
  }

  -- done at once
  pub done_now : (answered : Answered) (waiting : Option Waiting) → IsHandled disk journal Clause old new p h x → answered ≡ after_done old.answered →
      waiting ≡ option_map without_first old.waiting → IsDone disk journal Clause old (done_as new answered waiting) p h x
  done_now answered waiting i counted told = record {
    handled = record {
      goes = i.goes;
      stands = i.stands;
      holds = i.holds;
      lines = i.lines;
      is_of = of_as new.list new.held answered waiting i.is_of;
      stays = i.stays;
      turns = i.turns;
    };
    answered = counted;
    given = told;
  }

  -- and then something without a record
  pub done_then : (c : Option (List RunnerEntry)) (g : List TraceEvent) → IsDone disk journal Clause old new p h x → ActTrace (state_after p h) g new.list c →
      (state_after (state_after p h) g).turns ≡ (state_after p h).turns → IsDone disk journal Clause old (record new { list = c }) p (g ++ h) x
  done_then c g d acts turns =
      let i = d.handled in
      let left = left-append p g h in
      let tail = goes_acts disk journal laws new.disk new.list c (state_after p h) g i.stands acts in
      record {
        handled = record {
          goes = goes_both disk journal laws old.disk new.disk new.disk old.list new.list c p h g i.goes i.holds tail;
          stands = subst (λ (q : SessionState). Stood disk journal laws new.disk q.device) (sym left)
              (stands_acts disk journal laws new.disk new.list c (state_after p h) g i.stands acts);
          holds = holds_both disk journal laws old.disk new.disk new.disk p h g i.holds (holds_acts disk journal laws new.disk new.list c (state_after p h) g
              acts);
          lines = i.lines;
          is_of = of_then c new.held new.answered new.waiting c g i.is_of acts;
          stays = i.stays;
          turns = ap (λ (q : SessionState). q.turns) left ∙ turns ∙ i.turns;
        };
        answered = d.answered;
        given = d.given;
      }

  -- its line could not be written
  pub line_fails : (c : Option (List RunnerEntry)) (told : Option (List ℕ)) (g : List TraceEvent) →
      HistoryKept disk journal old.disk new.disk old.list new.list p h → Stood disk journal laws new.disk (state_after p h).device →
      HoldsOn disk journal old.disk new.disk p h → IsOf disk journal Clause old new p h x → ActTrace (state_after p h) g new.list c →
      AppendsPrefix old.held told x.lines → IsEnd (state_after (state_after p h) g) statuses.Edge false →
      IsEnded disk journal Clause old (record new { list = c; held = told }) p (g ++ h) x statuses.Edge false
  line_fails c told g kept stands holds o acts line end =
      let left = left-append p g h in
      let tail = goes_acts disk journal laws new.disk new.list c (state_after p h) g stands acts in
      let goes = goes_both disk journal laws old.disk new.disk new.disk old.list new.list c p h g kept holds tail in
      let there = subst (λ (q : SessionState). Stood disk journal laws new.disk q.device) (sym left)
      (stands_acts disk journal laws new.disk new.list c (state_after p h) g stands acts) in
      record {
        goes = goes;
        sure = sure_run disk journal laws new.disk p (g ++ h) goes.run there;
        stable = λ told_all. there;
        lines = x.lines;
        says = inl refl;
        writes = record { prefix = line; all = λ other. absurd (other refl) };
        is_of = of_then c told new.answered new.waiting c g o acts;
        with_status = inr refl;
        memory = edge_memory;
        failed = λ failed. absurd (edge_disk failed);
        quiet = λ disk edge. absurd (edge refl);
        cause = λ on. absurd (false≢true on);
        end = subst (λ (q : SessionState). IsEnd q statuses.Edge false) (sym left) end;
      }

  -- it could not be done
  pub done_fails : (c : Option (List RunnerEntry)) (told : Option (List ℕ)) (answered : Answered) (waiting : Option Waiting) (g : List TraceEvent)
      (status : Status) (l : List ℕ) → l ≡ inbox_fault_line → IsHandled disk journal Clause old new p h x → ActTrace (state_after p h) g new.list c →
      AppendsPrefix new.held told l →
      status ≡ statuses.Edge → answered ≡ old.answered → waiting ≡ old.waiting → IsEnd (state_after (state_after p h) g) statuses.Edge false →
      IsLastDone disk journal Clause old (record new { list = c; held = told; answered = answered; waiting = waiting }) p (g ++ h) x status false
  done_fails c told answered waiting g status l l_is i acts line is same left_there end =
      let left = left-append p g h in
      let tail = goes_acts disk journal laws new.disk new.list c (state_after p h) g i.stands acts in
      let goes = goes_both disk journal laws old.disk new.disk new.disk old.list new.list c p h g i.goes i.holds tail in
      record {
        ended = record {
          goes = goes;
          sure = sure_run disk journal laws new.disk p (g ++ h) goes.run
              (subst (λ (q : SessionState). Stood disk journal laws new.disk q.device) (sym left)
              (stands_acts disk journal laws new.disk new.list c (state_after p h) g i.stands acts));
          stable = λ told_all. subst (λ (q : SessionState). Stood disk journal laws new.disk q.device) (sym left)
              (stands_acts disk journal laws new.disk new.list c (state_after p h) g i.stands acts);
          lines = x.lines ++ l;
          says = inr (ap (λ (m : List ℕ). x.lines ++ m) l_is, is);
          writes = record { prefix = prefix_behind old.held new.held told x.lines l i.lines line; all = λ other. absurd (other is) };
          is_of = of_then c told answered waiting c g i.is_of acts;
          with_status = inr is;
          memory = λ none. edge_memory (sym is ∙ none);
          failed = λ failed. absurd (edge_disk (sym is ∙ failed));
          quiet = λ disk edge. absurd (edge is);
          cause = λ on. absurd (false≢true on);
          end = subst (λ (q : SessionState). IsEnd q status false) (sym left) (at_edge (state_after (state_after p h) g) status false is end);
        };
        answered = same ∙ ap (λ (s : Status). if is_restart s then after_done old.answered else old.answered) (sym is);
        given = left_there ∙ ap (λ (s : Status). if is_restart s then option_map without_first old.waiting else old.waiting) (sym is);
      }

  -- its handling ended the call
  pub done_over : (answered : Answered) (waiting : Option Waiting) (status : Status) (rose : Bool) → IsEnded disk journal Clause old new p h x status rose →
      answered ≡ (if is_restart status then after_done old.answered else old.answered) →
      waiting ≡ (if is_restart status then option_map without_first old.waiting else old.waiting) →
      IsLastDone disk journal Clause old (done_as new answered waiting) p h x status rose
  done_over answered waiting status rose i counted told = record {
    ended = record {
      goes = i.goes;
      sure = i.sure;
      stable = i.stable;
      lines = i.lines;
      says = i.says;
      writes = record { prefix = i.writes.prefix; all = i.writes.all };
      is_of = of_as new.list new.held answered waiting i.is_of;
      with_status = i.with_status;
      memory = i.memory;
      failed = i.failed;
      quiet = i.quiet;
      cause = i.cause;
      end = i.end;
    };
    answered = counted;
    given = told;
  }

  -- for a restart, and it could not be done
  pub restart_fails : (told : Option (List ℕ)) (answered : Answered) (waiting : Option Waiting) (status again : Status) (rose : Bool) (l : List ℕ) →
      l ≡ inbox_fault_line →
      IsEnded disk journal Clause old new p h x again rose → is_restart again ≡ true → AppendsPrefix new.held told l → status ≡ statuses.Edge →
      answered ≡ old.answered → waiting ≡ old.waiting → IsEnd (state_after p h) statuses.Edge rose →
      IsLastDone disk journal Clause old (record new { held = told; answered = answered; waiting = waiting }) p h x status rose
  restart_fails told answered waiting status again rose l l_is i restarts line is same left_there end = record {
    ended = record {
      goes = i.goes;
      sure = i.sure;
      stable = i.stable;
      lines = i.lines ++ l;
      says = inr (ap (λ (k : List ℕ). k ++ l) (said_all x again i.lines restarts i.says) ∙ ap (λ (m : List ℕ). x.lines ++ m) l_is, is);
      writes = record {
        prefix = prefix_behind old.held new.held told i.lines l
            (i.writes.all (λ edge. absurd (false≢true (sym (ap is_restart edge) ∙ restarts)))) line;
        all = λ other. absurd (other is);
      };
      is_of = of_as new.list told answered waiting i.is_of;
      with_status = inr is;
      memory = λ none. edge_memory (sym is ∙ none);
      failed = λ failed. absurd (edge_disk (sym is ∙ failed));
      quiet = λ disk edge. absurd (edge is);
      cause = i.cause;
      end = at_edge (state_after p h) status rose is end;
    };
    answered = same ∙ ap (λ (s : Status). if is_restart s then after_done old.answered else old.answered) (sym is);
    given = left_there ∙ ap (λ (s : Status). if is_restart s then option_map without_first old.waiting else old.waiting) (sym is);
  }

-- there is no memory to bring the set up again
module _ {D J : Type 0} (disk : a_disk.Ghosts D) (journal : a_journal.Ghosts J)
    (laws : DiskLaws disk.is_modelled disk.seen disk.may_leave disk.moment disk.left_since) (Clause : Handled → Type 0) where
  pub starved : (old : Outside D) (b : Option (List RunnerEntry)) (p : SessionState) (h : List TraceEvent) → Stood disk journal laws old.disk p.device →
      ActTrace p h old.list b → IsEnd (state_after p h) statuses.Memory false →
      CallEnded disk journal (EndsBy Clause) old (record old { list = b }) p h WantOfMemory statuses.Memory false
  starved old b p h stands acts end = record {
    goes = goes_acts disk journal laws old.disk old.list b p h stands acts;
    sure = sure_acts disk journal laws old.disk old.list b p h stands acts;
    stable = λ none. stands_acts disk journal laws old.disk old.list b p h stands acts;
    lines = [];
    says = refl;
    writes = record { prefix = ([], [], refl, Appends-nil old.held); all = λ other. Appends-nil old.held };
    records = acts.none;
    why = (refl, record { answered = refl; waiting = refl; library = refl });
    starts = tt;
    failed = λ is. absurd cc;
    quiet = λ disk edge. refl;
    cause = λ on. absurd (false≢true on);
    end = end;
  }
