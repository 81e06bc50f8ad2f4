-- Parts of a call that serves join.
use Rattle.std.specs.Prelude.{ℕ, ◌+◌, List, [], ◌++◌, Option, ⊤}
use Rattle.std.specs.Io.KnownBytes.{Appends}
use Rattle.std.proofs.Common.{◌≡◌, ◌≤◌, ◌∙◌, inl, inr, refl, sym, ap, subst, append_assoc, arith}
use Rattle.std.proofs.KnownBytes.{Appends-nil, Appends-trans}
use Rattle.std.proofs.lemmas.List.{append-nil}
use Rattle.disk_model.specs.Disk.{Image, DiskLaws, HasLeft}
use Rattle.disk_model.specs.Moments.{at_start, joined, weaker}
use Rattle.disk_model.specs.declared.disk.Disk as a_disk
use Rattle.gate_log.specs.declared.journal.Journal as a_journal
use Rattle.edges.specs.Pieces.{AppendsPrefix}
use Rattle.edges.specs.declared.answered.Answered.{Answered}
use Rattle.records.specs.Stored.{Record}
use Rattle.device.specs.Devices.{Device}
use Rattle.device.specs.Lawful.{Run}
use Rattle.deploy_state.specs.Turning.{plan_bytes}
use Rattle.artifact_store.specs.Holding.{AllHoldDevice}
use Rattle.step_runner.specs.Entries.{HasGrownBy}
use Rattle.step_runner.specs.declared.entries.RunnerEntry.{RunnerEntry}
use Rattle.histories.specs.States.{SessionState, state_after}
use Rattle.histories.specs.TraceEvents.{Answer, TraceEvent, entries_of, records_of}
use Rattle.histories.proofs.Joined.{entries-append, left-append, proper-append, records-append}
use Rattle.session_boots.specs.Traces.{ActTrace, StandsForMost, StandsForPrefix}
use Rattle.session_boots.proofs.Acting.{grows_none, grows_on}
use Rattle.session_boots.proofs.Prefixes.{prefix_after, prefix_more, most_behind, run_on}
use Rattle.session_boots.proofs.Told.{stops_behind}
use Rattle.session.specs.Calls.{StandsWhole}
use Rattle.session.proofs.Accepted.{any_on, has_behind}
use Rattle.session_serving.specs.Parts.{AllStandFor, HistoryKept, HoldsOn, IsStarted, IsSure, Outside, TurnsPassed}
use Rattle.session_serving.specs.Rounds.{AreHandled, AreStarted, Handled, Round, answered_by, lines_of_rounds, questions_of, questions_of_rounds}
use Rattle.session_serving.specs.Rounds.{records_of_rounds}
use Rattle.session_serving.proofs.Questions.{not_asked, questions-append}
use Rattle.session_serving.proofs.Rounding.{answered_both, asked_both, gives_both, gives_none, handled_both, length_both, lines_both, records_both}
use Rattle.session_serving.proofs.Rounding.{started_both, started_more}

-- ---- images with their artifacts

whole_more : (entries : Image → List (List ℕ) → Type 0) (d : Device) (first second : List Record) (image : Image) → StandsWhole entries d first image →
    StandsWhole entries d (first ++ second) image
whole_more entries d first second image h = (
  record {
    prefix = h.0.prefix;
    rest = h.0.rest ++ second;
    split = ap (λ (l : List Record). l ++ second) h.0.split ∙ append_assoc h.0.prefix h.0.rest second;
    device = h.0.device;
    run = h.0.run;
    stands = h.0.stands;
  },
  h.1,
)

whole_behind : (entries : Image → List (List ℕ) → Type 0) (d : Device) (first second : List Record) (c : Device) (image : Image) → Run d first c →
    StandsWhole entries c second image → StandsWhole entries d (first ++ second) image
whole_behind entries d first second c image run h = (
  record {
    prefix = first ++ h.0.prefix;
    rest = h.0.rest;
    split = ap (λ (l : List Record). first ++ l) h.0.split ∙ sym (append_assoc first h.0.prefix h.0.rest);
    device = h.0.device;
    run = run_on d first c h.0.prefix h.0.device run h.0.run;
    stands = h.0.stands;
  },
  h.1,
)

-- a prefix of bytes behind other bytes
pub prefix_behind : (a b c : Option (List ℕ)) (l m : List ℕ) → Appends a b l → AppendsPrefix b c m → AppendsPrefix a c (l ++ m)
prefix_behind a b c l m one two =
    (l ++ two.0, two.1, ap (λ (x : List ℕ). l ++ x) two.2 ∙ sym (append_assoc l two.0 two.1), Appends-trans a b c l two.0 one two.3)

pub kept_held : (a b : Option (List ℕ)) → b ≡ a → Appends a b []
kept_held a b same = subst (λ (o : Option (List ℕ)). Appends a o []) (sym same) (Appends-nil a)

module _ {D J : Type 0} (disk : a_disk.Ghosts D) (journal : a_journal.Ghosts J)
    (laws : DiskLaws disk.is_modelled disk.seen disk.may_leave disk.moment disk.left_since) where
  abbrev pub Stood : D → Device → Type 0
  Stood now d = AllStandFor disk journal now d

  -- ---- parts

  pub goes_both : (old mid new : D) (a b c : Option (List RunnerEntry)) (p : SessionState) (h g : List TraceEvent) →
      HistoryKept disk journal old mid a b p h → HoldsOn disk journal old mid p h → HistoryKept disk journal mid new b c (state_after p h) g →
      HistoryKept disk journal old new a c p (g ++ h)
  goes_both old mid new a b c p h g one holds two =
      let d = p.device in
      let m = (state_after p h).device in
      let first = records_of h in
      let second = records_of g in
      let entries = journal.entries in
      let left = ap (λ (q : SessionState). q.device) (left-append p g h) in
      let run = run_on d first m second (state_after (state_after p h) g).device one.run two.run in
      let images = joined laws old mid new (StandsForPrefix entries d first) (StandsForPrefix entries m second) (StandsForPrefix entries d (first ++ second))
      one.images two.images (λ i f. prefix_more entries d first second i f) (λ i f. prefix_after entries d first second m i one.run f) in
      record {
        proper = proper-append p g h two.proper one.proper;
        run = subst (λ (l : List Record). Run d l (state_after p (g ++ h)).device) (sym (records-append g h))
            (subst (λ (x : Device). Run d (first ++ second) x) (sym left) run);
        list = subst (λ (l : List RunnerEntry). HasGrownBy a c l) (sym (entries-append g h)) (grows_on a b c (entries_of h) (entries_of g) one.list two.list);
        images = subst (λ (l : List Record). HasLeft disk.moment disk.left_since old new (StandsForPrefix entries d l)) (sym (records-append g h)) images;
        whole = λ all. subst (λ (l : List Record). HasLeft disk.moment disk.left_since old new (StandsWhole entries d l)) (sym (records-append g h))
            (joined laws old mid new (StandsWhole entries d first) (StandsWhole entries m second) (StandsWhole entries d (first ++ second)) (one.whole all)
            (two.whole (holds all)) (λ i f. whole_more entries d first second i f) (λ i f. whole_behind entries d first second m i one.run f));
      }

  -- a part that no disk sees
  pub goes_acts : (now : D) (a b : Option (List RunnerEntry)) (p : SessionState) (h : List TraceEvent) → Stood now p.device → ActTrace p h a b →
      HistoryKept disk journal now now a b p h
  goes_acts now a b p h stands acts =
      let d = p.device in
      let entries = journal.entries in
      record {
        proper = acts.proper;
        run = subst (λ (l : List Record). Run d l (state_after p h).device) (sym acts.none) acts.device;
        list = acts.list;
        images = subst (λ (l : List Record). HasLeft disk.moment disk.left_since now now (StandsForPrefix entries d l)) (sym acts.none)
            (weaker laws now now (disk.may_leave now) (StandsForPrefix entries d [])
            (λ c left. record { prefix = []; rest = []; split = refl; device = d; run = refl; stands = stands c left }) (at_start laws now));
        whole = λ all. subst (λ (l : List Record). HasLeft disk.moment disk.left_since now now (StandsWhole entries d l)) (sym acts.none)
            (weaker laws now now (disk.may_leave now) (StandsWhole entries d [])
            (λ c left. (record { prefix = []; rest = []; split = refl; device = d; run = refl; stands = stands c left }, all c left)) (at_start laws now));
      }

  pub stands_acts : (now : D) (a b : Option (List RunnerEntry)) (p : SessionState) (h : List TraceEvent) → Stood now p.device → ActTrace p h a b →
      Stood now (state_after p h).device
  stands_acts now a b p h stands acts = subst (λ (x : Device). Stood now x) (sym acts.device) stands

  pub holds_acts : (now : D) (a b : Option (List RunnerEntry)) (p : SessionState) (h : List TraceEvent) → ActTrace p h a b → HoldsOn disk journal now now p h
  holds_acts now a b p h acts all = subst (λ (x : Device). AllHoldDevice (disk.may_leave now) x) (sym acts.device) all

  pub holds_both : (old mid new : D) (p : SessionState) (h g : List TraceEvent) → HoldsOn disk journal old mid p h →
      HoldsOn disk journal mid new (state_after p h) g → HoldsOn disk journal old new p (g ++ h)
  holds_both old mid new p h g one two all =
      subst (λ (q : SessionState). AllHoldDevice (disk.may_leave new) q.device) (sym (left-append p g h)) (two (one all))

  -- ---- what is sure at the end

  pub sure_run : (now : D) (p : SessionState) (h : List TraceEvent) → Run p.device (records_of h) (state_after p h).device →
      Stood now (state_after p h).device →
      IsSure disk journal now p h
  sure_run now p h run stands = record {
    most = λ c may. record {
      prefix = records_of h;
      rest = [];
      split = sym (append-nil (records_of h));
      few = omega arith;
      device = (state_after p h).device;
      run = run;
      stands = stands c may;
    };
    doubt = inl stands;
  }

  pub sure_acts : (now : D) (a b : Option (List RunnerEntry)) (p : SessionState) (h : List TraceEvent) → Stood now p.device → ActTrace p h a b →
      IsSure disk journal now p h
  sure_acts now a b p h stands acts = sure_run now p h
      (subst (λ (l : List Record). Run p.device l (state_after p h).device) (sym acts.none) acts.device)
      (stands_acts now a b p h stands acts)

  -- behind a part that is done
  pub sure_behind : (now : D) (p : SessionState) (h g : List TraceEvent) → Run p.device (records_of h) (state_after p h).device →
      IsSure disk journal now (state_after p h) g → IsSure disk journal now p (g ++ h)
  sure_behind now p h g run s = record {
    most = λ c may. subst (λ (l : List Record). StandsForMost journal.entries p.device l c) (sym (records-append g h))
        (most_behind journal.entries p.device (records_of h) (records_of g) (state_after p h).device c run (s.most c may));
    doubt = elim s.doubt [
      | inl stands ↦ inl (subst (λ (q : SessionState). Stood now q.device) (sym (left-append p g h)) stands)
      | inr stops ↦ inr (stops_behind h g stops)
    ];
  }

  -- ---- turns

  -- how documents began in the first part, or in the second, they began in both
  module _ (old mid new : D) (P Q : Image → Type 0) (first : HasLeft disk.moment disk.left_since old mid P)
      (second : HasLeft disk.moment disk.left_since mid new Q) where
    started_first : (x : Handled) → IsStarted disk journal old mid x → IsStarted disk journal old new x
    started_first x s = (
      (λ told. let c = s.0 told in (c.0, second.keeps (disk.moment old) c.0 first.later c.1, c.2)),
      (λ plan rest is. elim (s.1 plan rest is) [
        | inl failed ↦ inl failed
        | inr h ↦ inr (record { at = h.at; from = h.from; on = any_on journal.entries laws h.at mid new (λ c. ⊤) Q h.on second; each = h.each })
      ]),
    )

    started_second : (x : Handled) → IsStarted disk journal mid new x → IsStarted disk journal old new x
    started_second x s = (
      (λ told. let c = s.0 told in (c.0, laws.earlier new (disk.moment old) (disk.moment mid) c.0 first.later c.1, c.2)),
      (λ plan rest is. elim (s.1 plan rest is) [
        | inl failed ↦ inl failed
        | inr h ↦ inr (has_behind journal.entries laws old mid new P first x.device plan (x.start (plan_bytes plan) + 5 + plan_bytes plan) h)
      ]),
    )

    pub started_on : (a b : List Round) → AreStarted (IsStarted disk journal old mid) a → AreStarted (IsStarted disk journal mid new) b →
        AreStarted (IsStarted disk journal old new) (a ++ b)
    started_on a b one two =
        let W = IsStarted disk journal old new in
        started_both W a b (started_more (IsStarted disk journal old mid) W started_first a one)
        (started_more (IsStarted disk journal mid new) W started_second b two)

  pub turns_both : (Clause : Handled → Type 0) (old mid new : Outside D) (p : SessionState) (h g : List TraceEvent) (a b : List Round) →
      TurnsPassed disk journal Clause old mid p h a → TurnsPassed disk journal Clause mid new (state_after p h) g b →
      TurnsPassed disk journal Clause old new p (g ++ h) (a ++ b)
  turns_both Clause old mid new p h g a b one two =
      let left = left-append p g h in
      record {
        goes = goes_both old.disk mid.disk new.disk old.list mid.list new.list p h g one.goes one.holds two.goes;
        stands = subst (λ (q : SessionState). Stood new.disk q.device) (sym left) two.stands;
        holds = holds_both old.disk mid.disk new.disk p h g one.holds two.holds;
        lines = subst (λ (l : List ℕ). Appends old.held new.held l) (sym (lines_both a b))
            (Appends-trans old.held mid.held new.held (lines_of_rounds a) (lines_of_rounds b) one.lines two.lines);
        records = records-append g h ∙ ap (λ (l : List Record). l ++ records_of g) one.records
            ∙ ap (λ (l : List Record). records_of_rounds a ++ l) two.records ∙ sym (records_both a b);
        asked = questions-append g h ∙ ap (λ (l : List Answer). l ++ questions_of g) one.asked
            ∙ ap (λ (l : List Answer). questions_of_rounds a ++ l) two.asked ∙ sym (asked_both a b);
        handled = subst (λ (q : SessionState). AreHandled Clause p.device old.library old.faults (a ++ b) q.device new.library new.faults) (sym left)
            (handled_both Clause a b p.device (state_after p h).device (state_after (state_after p h) g).device old.library mid.library new.library
            old.faults mid.faults new.faults one.handled two.handled);
        answered = two.answered ∙ ap (λ (x : Answered). answered_by b x) one.answered ∙ sym (answered_both a b old.answered);
        given = gives_both old.waiting mid.waiting new.waiting a b one.given two.given;
        turns =
            let t : (state_after p (g ++ h)).turns ≡ (state_after (state_after p h) g).turns = ap (λ (q : SessionState). q.turns) left in
            let l = length_both a b in
            let x = one.turns in
            let y = two.turns in
            omega (arith, t, l, x, y);
        starts = started_on old.disk mid.disk new.disk (StandsForPrefix journal.entries p.device (records_of h))
            (StandsForPrefix journal.entries (state_after p h).device (records_of g)) one.goes.images two.goes.images a b one.starts two.starts;
      }

  -- a part without a record is one without a round
  pub turns_acts : (Clause : Handled → Type 0) (old : Outside D) (b : Option (List RunnerEntry)) (p : SessionState) (h : List TraceEvent) →
      Stood old.disk p.device → ActTrace p h old.list b → (state_after p h).turns ≡ p.turns →
      TurnsPassed disk journal Clause old (record old { list = b }) p h []
  turns_acts Clause old b p h stands acts turns = record {
    goes = goes_acts old.disk old.list b p h stands acts;
    stands = stands_acts old.disk old.list b p h stands acts;
    holds = holds_acts old.disk old.list b p h acts;
    lines = Appends-nil old.held;
    records = acts.none;
    asked = not_asked p h acts.proper turns;
    handled = (acts.device, refl, refl);
    answered = refl;
    given = gives_none old.waiting;
    turns = omega (arith, turns);
    starts = tt;
  }

  pub turns_none : (Clause : Handled → Type 0) (old : Outside D) (p : SessionState) → Stood old.disk p.device → TurnsPassed disk journal Clause old old p [] []
  turns_none Clause old p stands = turns_acts Clause old old.list p [] stands
      (record { proper = tt; none = refl; list = grows_none old.list old.list refl; device = refl }) refl
