-- How the handling of one document ended, for a call that serves: a close behind which there was no memory to sweep stray files is a close.
use Rattle.std.specs.Prelude.{◌⊎◌, ℕ, Bool, true, false, List, [], ◌∷◌, ◌++◌, Option, None, Result, Ok, Err}
use Rattle.std.specs.List.{AllByRecursion}
use Rattle.std.proofs.Common.{◌≡◌, ◌≢◌, ◌∙◌, inl, inr, refl, sym, ap, subst}
use Rattle.std.proofs.lemmas.Bool.{false≢true}
use Rattle.disk_model.specs.Disk.{Image}
use Rattle.nuc_base.specs.Faults.{Rose}
use Rattle.nuc_base.specs.declared.kinds.Outcome.{Outcome}
use Rattle.nuc_base.specs.declared.kinds.Outcome.TheVariants as outcomes
use Rattle.nuc_base.specs.declared.status.Status.{Status}
use Rattle.nuc_base.specs.declared.status.Status.TheVariants as statuses
use Rattle.records.specs.Stored.{Closed, Record}
use Rattle.records.specs.declared.record.Plan as code
use Rattle.device.specs.Devices.{Device}
use Rattle.device.specs.Lawful.{Run}
use Rattle.admission.specs.declared.fault.Declined.{Declined}
use Rattle.histories.specs.Courses.{gives_up, is_restart}
use Rattle.histories.specs.Follows.{IsLast}
use Rattle.histories.specs.States.{SessionState, state_after}
use Rattle.histories.specs.TraceEvents.{TraceEvent, records_of}
use Rattle.histories.specs.TraceEvents.{ReadClock, Booted, Changed, Heard, InboxAsked, KilledOnAbort, Moved, Recorded, StopsAll, WaitElapsed, Ran as RanEvent}
use Rattle.refusal_lines.specs.Statuses.{status_of_outcome}
use Rattle.session_startup.specs.Ended.{ClosesAs}
use Rattle.session.specs.Calls.{IsOrEdge, call_lines}
use Rattle.session.specs.Documents.{AcceptsTaken, TakenEnding}
use Rattle.session.specs.Endings.{Ending, line_of_ending, status_of_ending}
use Rattle.session.specs.Endings.{BySinkFault, ByClose, ByDecline, ByDiskFault, WantAfter, WantBefore, Full, Idle as NothingPending, ByReboot, ByRestart}
use Rattle.session.specs.Declines.{status_of_declined}
use Rattle.session.specs.Parts.{CameBy, EndsCall, EndsPart, must_end}
use Rattle.session.specs.declared.ran.Ran.{Ran}
use Rattle.session.specs.declared.ran.Ran.TheVariants as ran
use Rattle.session.specs.declared.ran.Standing.{Standing}
use Rattle.session.specs.declared.ran.Standing.TheVariants as standings
use Rattle.deploy_state.specs.declared.state.Idle.{Idle}
use Rattle.session.proofs.Distinct.{memory_disk}
use Rattle.session.proofs.Ending.{closed_none}
use Rattle.session.proofs.Statuses.{no_outcome, outcome_no_restart}
use Rattle.session_serving.specs.Documents.{IsOwnOrEdge, RecordsEnd, no_memory_line, want_line}
use Rattle.edges.specs.Pieces.{AppendsPrefix}
use Rattle.edges.proofs.Sent.{prefix_longer}

-- ---- how the records end

pub no_records : (h : List TraceEvent) → AllByRecursion IsLast h → records_of h ≡ []
no_records [] all = refl
no_records (KilledOnAbort e ∷ h) all = no_records h all.1
no_records (ReadClock m ∷ h) all = no_records h all.1
no_records (RanEvent e k of ∷ h) all = absurd all.0
no_records (Booted e m ∷ h) all = absurd all.0
no_records (WaitElapsed e ∷ h) all = absurd all.0
no_records (Recorded r ∷ h) all = absurd all.0
no_records (Moved k e ∷ h) all = absurd all.0
no_records (Heard k ∷ h) all = absurd all.0
no_records (InboxAsked a ∷ h) all = absurd all.0
no_records (Changed f c b ∷ h) all = absurd all.0
no_records (StopsAll ∷ h) all = absurd all.0

pub records_end : (p : SessionState) (ending : Ending) (h : List TraceEvent) → EndsPart p ending h → RecordsEnd ending (records_of h) (state_after p h).device
records_end p (ByClose o) h ends = ends
records_end p (ByRestart id) h ends = ends
records_end p (ByReboot id) h ends = ends
records_end p ByDiskFault h ends = tt
records_end p BySinkFault h ends = tt
records_end p WantAfter h ends = ends
records_end p WantBefore h ends = no_records h ends.0
records_end p (ByDecline x) h ends = no_records h ends.0
records_end p (Full at) h ends = no_records h ends.0
records_end p NothingPending h ends = no_records h ends.0.0

-- a close is a record
pub none_closes : (o : Outcome) (records : List Record) → records ≡ [] → ClosesAs o records → ⊥
none_closes o records none closes = by closes.0 (sym none ∙ closes.1)
  where
    by : (prefix : List Record) → [] ≡ prefix ++ Closed o ∷ [] → ⊥
    by [] is = cc
    by (r ∷ prefix) is = cc

-- ---- the ending

module _ (p : SessionState) (h : List TraceEvent) where
  abbrev pub settled : (ending : Ending) → EndsPart p ending h → Ending
  settled (ByClose o) ends = ByClose o
  settled (ByRestart i) ends = ByRestart i
  settled (ByReboot i) ends = ByReboot i
  settled ByDiskFault ends = ByDiskFault
  settled BySinkFault ends = BySinkFault
  settled WantAfter ends = ByClose ends.0
  settled WantBefore ends = WantBefore
  settled (ByDecline x) ends = ByDecline x
  settled (Full at) ends = Full at
  settled NothingPending ends = NothingPending

  pub settled_lines : (ending : Ending) (ends : EndsPart p ending h) (d : Device) (told : List Record) →
      call_lines d told (settled ending ends) ≡ call_lines d told ending
  settled_lines (ByClose o) ends d told = refl
  settled_lines (ByRestart i) ends d told = refl
  settled_lines (ByReboot i) ends d told = refl
  settled_lines ByDiskFault ends d told = refl
  settled_lines BySinkFault ends d told = refl
  settled_lines WantAfter ends d told = refl
  settled_lines WantBefore ends d told = refl
  settled_lines (ByDecline x) ends d told = refl
  settled_lines (Full at) ends d told = refl
  settled_lines NothingPending ends d told = refl

  pub settled_fails : (ending : Ending) (ends : EndsPart p ending h) → settled ending ends ≡ ByDiskFault → ending ≡ ByDiskFault
  settled_fails (ByClose o) ends is = is
  settled_fails (ByRestart i) ends is = is
  settled_fails (ByReboot i) ends is = is
  settled_fails ByDiskFault ends is = is
  settled_fails BySinkFault ends is = is
  settled_fails WantAfter ends is = absurd cc
  settled_fails WantBefore ends is = is
  settled_fails (ByDecline x) ends is = is
  settled_fails (Full at) ends is = is
  settled_fails NothingPending ends is = is

  pub settled_failing : (ending : Ending) (ends : EndsPart p ending h) → ending ≡ ByDiskFault → settled ending ends ≡ ByDiskFault
  settled_failing (ByClose o) ends is = is
  settled_failing (ByRestart i) ends is = is
  settled_failing (ByReboot i) ends is = is
  settled_failing ByDiskFault ends is = is
  settled_failing BySinkFault ends is = is
  settled_failing WantAfter ends is = absurd cc
  settled_failing WantBefore ends is = is
  settled_failing (ByDecline x) ends is = is
  settled_failing (Full at) ends is = is
  settled_failing NothingPending ends is = is

  pub settled_ends : Run p.device (records_of h) (state_after p h).device → (ending : Ending) (ends : EndsPart p ending h) →
      RecordsEnd (settled ending ends) (records_of h) (state_after p h).device
  settled_ends run (ByClose o) ends = records_end p (ByClose o) h ends
  settled_ends run (ByRestart i) ends = records_end p (ByRestart i) h ends
  settled_ends run (ByReboot i) ends = records_end p (ByReboot i) h ends
  settled_ends run ByDiskFault ends = records_end p ByDiskFault h ends
  settled_ends run BySinkFault ends = records_end p BySinkFault h ends
  settled_ends run WantAfter ends = (ends.1, closed_none p.device (state_after p h).device ends.0 (records_of h) ends.1 run)
  settled_ends run WantBefore ends = records_end p WantBefore h ends
  settled_ends run (ByDecline x) ends = records_end p (ByDecline x) h ends
  settled_ends run (Full at) ends = records_end p (Full at) h ends
  settled_ends run NothingPending ends = records_end p NothingPending h ends

  closed_follows : (start : ℕ → ℕ) (taken : Result code.Plan Declined) (o : Outcome) (records : List Record) → ClosesAs o records →
      TakenEnding start taken WantAfter records → TakenEnding start taken (ByClose o) records
  closed_follows start (Err d) o records closes follows = absurd (none_closes o records follows.1 closes)
  closed_follows start (Ok plan) o records closes (inl put) = absurd put.0
  closed_follows start (Ok plan) o records closes (inr begun) = inr (tt, begun.1, begun.2)

  pub settled_follows : (start : ℕ → ℕ) (taken : Result code.Plan Declined) (ending : Ending) (ends : EndsPart p ending h) →
      TakenEnding start taken ending (records_of h) → TakenEnding start taken (settled ending ends) (records_of h)
  settled_follows start taken (ByClose o) ends follows = follows
  settled_follows start taken (ByRestart i) ends follows = follows
  settled_follows start taken (ByReboot i) ends follows = follows
  settled_follows start taken ByDiskFault ends follows = follows
  settled_follows start taken BySinkFault ends follows = follows
  settled_follows start taken WantAfter ends follows = closed_follows start taken ends.0 (records_of h) ends.1 follows
  settled_follows start taken WantBefore ends follows = follows
  settled_follows start taken (ByDecline x) ends follows = follows
  settled_follows start taken (Full at) ends follows = follows
  settled_follows start taken NothingPending ends follows = follows

  module _ (entries : Image → List (List ℕ) → Type 0) {D : Type 0} (may_leave : D → Image → Type 0) (moment : D → ℕ) (left_since : D → ℕ → Image → Type 0)
      (old new : D) (d : Device) (start : ℕ → ℕ) where
    closed_accepts : (taken : Result code.Plan Declined) (o : Outcome) (records : List Record) →
        AcceptsTaken entries may_leave moment left_since old new d start taken WantAfter records →
        AcceptsTaken entries may_leave moment left_since old new d start taken (ByClose o) records
    closed_accepts (Err x) o records accepts = tt
    closed_accepts (Ok plan) o records (inl none) = inl none
    closed_accepts (Ok plan) o records (inr (inl fails)) = absurd (never fails.0)
      where
        never : WantAfter ≡ ByDiskFault → ⊥
        never is = cc
    closed_accepts (Ok plan) o records (inr (inr there)) = inr (inr there)

    pub settled_accepts : (taken : Result code.Plan Declined) (ending : Ending) (ends : EndsPart p ending h) →
        AcceptsTaken entries may_leave moment left_since old new d start taken ending (records_of h) →
        AcceptsTaken entries may_leave moment left_since old new d start taken (settled ending ends) (records_of h)
    settled_accepts taken (ByClose o) ends accepts = accepts
    settled_accepts taken (ByRestart i) ends accepts = accepts
    settled_accepts taken (ByReboot i) ends accepts = accepts
    settled_accepts taken ByDiskFault ends accepts = accepts
    settled_accepts taken BySinkFault ends accepts = accepts
    settled_accepts taken WantAfter ends accepts = closed_accepts taken ends.0 (records_of h) accepts
    settled_accepts taken WantBefore ends accepts = accepts
    settled_accepts taken (ByDecline x) ends accepts = accepts
    settled_accepts taken (Full at) ends accepts = accepts
    settled_accepts taken NothingPending ends accepts = accepts

-- ---- its status, where it comes back

outcome_stays : (o : Outcome) → gives_up (status_of_outcome o) ≡ false
outcome_stays outcomes.Successful = refl
outcome_stays outcomes.RollbackComplete = refl
outcome_stays outcomes.RollbackNotRequested = refl
outcome_stays outcomes.UnableToRollback = refl

outcome_unsaid : (o : Outcome) → want_line (status_of_outcome o) ≡ []
outcome_unsaid outcomes.Successful = refl
outcome_unsaid outcomes.RollbackComplete = refl
outcome_unsaid outcomes.RollbackNotRequested = refl
outcome_unsaid outcomes.UnableToRollback = refl

-- another status than that is not said by itself
unsaid : (status : Status) (standing : Standing) → (status ≡ statuses.Memory → standing ≡ standings.AsBefore) → want_line status ≡ no_memory_line status standing
unsaid statuses.Memory standings.AsBefore only = refl
unsaid statuses.Memory standings.OfSet only = absurd (never (only refl))
  where
    never : standings.OfSet ≡ standings.AsBefore → ⊥
    never is = cc
unsaid statuses.Memory standings.Nobody only = absurd (never (only refl))
  where
    never : standings.Nobody ≡ standings.AsBefore → ⊥
    never is = cc
unsaid status standing only = refl

-- a call goes on with this status, as it does behind a document
pub record Stays (status : Status) (before now : ℕ) (records : List Record) : Type 0 where
  pub edge : status ≢ statuses.Edge
  pub restart : is_restart status ≡ false
  pub disk : status ≡ statuses.Disk → Rose before now
  pub quiet : status ≢ statuses.Disk → now ≡ before
  pub unmoved : gives_up status ≡ true → records ≡ []

module _ {J : Type 0} (s : Idle J) (status : Status) (standing : Standing) (on : must_end status standing ≡ false) (stays : is_restart status ≡ false) where
  pub back_edge : status ≢ statuses.Edge
  back_edge is = false≢true (sym on ∙ ap (λ (z : Status). must_end z standing) is)

  own_status : (own : Status) → IsOrEdge status own → status ≡ own
  own_status own (inl is) = is
  own_status own (inr edge) = absurd (back_edge edge)

  -- the disk failed as a document's files were taken in
  disk_none : (standing : Standing) (records : List Record) → must_end status standing ≡ false → status ≡ statuses.Disk →
      CameBy {J = J} (ran.Back s status standing) records → records ≡ []
  disk_none standings.AsBefore records on disk came = came
  disk_none standings.OfSet records on disk came = absurd (false≢true (sym on ∙ ap (λ (z : Status). must_end z standings.OfSet) disk))
  disk_none standings.Nobody records on disk came = absurd (false≢true (sym on ∙ ap (λ (z : Status). must_end z standings.Nobody) disk))

  module _ (p : SessionState) (h : List TraceEvent) (before now : ℕ) (came : CameBy {J = J} (ran.Back s status standing) (records_of h))
      (disk : status ≡ statuses.Disk → Rose before now) (quiet : status ≢ statuses.Disk → status ≢ statuses.Edge → now ≡ before) where
    unmoved_by : (ending : Ending) (ends : EndsPart p ending h) → ending ≢ WantAfter → status ≡ status_of_ending ending → gives_up status ≡ true →
        records_of h ≡ []
    unmoved_by (ByClose o) ends other is gives = absurd (false≢true (sym (ap gives_up is ∙ outcome_stays o) ∙ gives))
    unmoved_by (ByRestart i) ends other is gives = absurd (false≢true (sym (ap gives_up is) ∙ gives))
    unmoved_by (ByReboot i) ends other is gives = absurd (false≢true (sym (ap gives_up is) ∙ gives))
    unmoved_by ByDiskFault ends other is gives = disk_none standing (records_of h) on is came
    unmoved_by BySinkFault ends other is gives = absurd (back_edge is)
    unmoved_by WantAfter ends other is gives = absurd (other refl)
    unmoved_by WantBefore ends other is gives = no_records h ends.0
    unmoved_by (ByDecline x) ends other is gives = no_records h ends.0
    unmoved_by (Full at) ends other is gives = no_records h ends.0
    unmoved_by NothingPending ends other is gives = no_records h ends.0.0

    -- with want of memory the components are those that stood before
    only_before : (standing : Standing) → CameBy {J = J} (ran.Back s status standing) (records_of h) → records_of h ≡ [] → standing ≡ standings.AsBefore
    only_before standings.AsBefore came none = refl
    only_before standings.OfSet came none = absurd (none_closes came.0 (records_of h) none came.1)
    only_before standings.Nobody came none = absurd (none_closes came.0 (records_of h) none came.1)

    -- and the line of that is said
    plain_stays : (ending : Ending) (ends : EndsPart p ending h) → ending ≢ WantAfter → IsOrEdge status (status_of_ending ending) →
        Stays (status_of_ending ending) before now (records_of h) × (want_line (status_of_ending ending) ≡ no_memory_line status standing)
    plain_stays ending ends other answers =
        let is = own_status (status_of_ending ending) answers in
        let unmoved = unmoved_by ending ends other is in (
          subst (λ (z : Status). Stays z before now (records_of h)) is
              (record { edge = back_edge; restart = stays; disk = disk; quiet = λ failed. quiet failed back_edge; unmoved = unmoved }),
          ap want_line (sym is) ∙ unsaid status standing (λ memory. only_before standing came (unmoved (ap gives_up memory))),
        )

    -- a close is said by its record
    unswept_line : (standing : Standing) (o : Outcome) → ClosesAs o (records_of h) → status ≡ statuses.Memory →
        CameBy {J = J} (ran.Back s status standing) (records_of h) → no_memory_line status standing ≡ []
    unswept_line standings.AsBefore o closes memory came = absurd (none_closes o (records_of h) came closes)
    unswept_line standings.OfSet o closes memory came = ap (λ (z : Status). no_memory_line z standings.OfSet) memory
    unswept_line standings.Nobody o closes memory came = ap (λ (z : Status). no_memory_line z standings.Nobody) memory

    closed_stays : (o : Outcome) → ClosesAs o (records_of h) → status ≡ statuses.Memory →
        Stays (status_of_outcome o) before now (records_of h) × (want_line (status_of_outcome o) ≡ no_memory_line status standing)
    closed_stays o closes memory = (
      record {
        edge = no_outcome o statuses.Edge refl;
        restart = outcome_no_restart o;
        disk = λ is. absurd (no_outcome o statuses.Disk refl is);
        quiet = λ failed. quiet (λ is. memory_disk (sym memory ∙ is)) back_edge;
        unmoved = λ gives. absurd (false≢true (sym (outcome_stays o) ∙ gives));
      },
      outcome_unsaid o ∙ sym (unswept_line standing o closes memory came),
    )

    pub settled_stays : (ending : Ending) (ends : EndsPart p ending h) → IsOrEdge status (status_of_ending ending) →
        Stays (status_of_ending (settled p h ending ends)) before now (records_of h)
        × (want_line (status_of_ending (settled p h ending ends)) ≡ no_memory_line status standing)
    settled_stays (ByClose o) ends answers = plain_stays (ByClose o) ends (λ is. cc) answers
    settled_stays (ByRestart i) ends answers = plain_stays (ByRestart i) ends (λ is. cc) answers
    settled_stays (ByReboot i) ends answers = plain_stays (ByReboot i) ends (λ is. cc) answers
    settled_stays ByDiskFault ends answers = plain_stays ByDiskFault ends (λ is. cc) answers
    settled_stays BySinkFault ends answers = plain_stays BySinkFault ends (λ is. cc) answers
    settled_stays WantAfter ends answers = closed_stays ends.0 ends.1 (own_status statuses.Memory answers)
    settled_stays WantBefore ends answers = plain_stays WantBefore ends (λ is. cc) answers
    settled_stays (ByDecline x) ends answers = plain_stays (ByDecline x) ends (λ is. cc) answers
    settled_stays (Full at) ends answers = plain_stays (Full at) ends (λ is. cc) answers
    settled_stays NothingPending ends answers = plain_stays NothingPending ends (λ is. cc) answers

-- ---- its status, where it ends the call

-- a prefix of some bytes is one of more
pub prefix_more : (a b : Option (List ℕ)) (x y : List ℕ) → AppendsPrefix a b x → AppendsPrefix a b (x ++ y)
prefix_more a b x y one = prefix_longer a b (x ++ y) x y refl one

no_memory_none : (status : Status) → status ≢ statuses.Memory → want_line status ≡ []
no_memory_none statuses.Memory memory = absurd (memory refl)
no_memory_none status memory = refl

pub own_of : (status own : Status) → status ≢ statuses.Edge → IsOrEdge status own → status ≡ own
own_of status own other (inl is) = is
own_of status own other (inr edge) = absurd (other edge)

pub own_or_edge : (status own : Status) → EndsCall status → IsOrEdge status own → IsOwnOrEdge own status
own_or_edge status own ends (inl is) = inl (is, subst EndsCall is ends)
own_or_edge status own ends (inr edge) = inr edge

-- behind a deployment it comes back with no fault of the disk
pub anew_disk : (status : Status) (standing : Standing) → standing ≢ standings.AsBefore → must_end status standing ≡ false → status ≢ statuses.Disk
anew_disk status standings.AsBefore anew on disk = anew refl
anew_disk status standings.OfSet anew on disk = false≢true (sym on ∙ ap (λ (z : Status). must_end z standings.OfSet) disk)
anew_disk status standings.Nobody anew on disk = false≢true (sym on ∙ ap (λ (z : Status). must_end z standings.Nobody) disk)

module _ (status : Status) (p : SessionState) (h : List TraceEvent) where
  -- want of memory is not said
  pub over_unsaid : (ending : Ending) (ends : EndsPart p ending h) → status ≢ statuses.Memory → status ≢ statuses.Edge →
      IsOrEdge status (status_of_ending ending) → want_line (status_of_ending (settled p h ending ends)) ≡ []
  over_unsaid (ByClose o) ends memory other answers = outcome_unsaid o
  over_unsaid (ByRestart i) ends memory other answers = refl
  over_unsaid (ByReboot i) ends memory other answers = refl
  over_unsaid ByDiskFault ends memory other answers = refl
  over_unsaid BySinkFault ends memory other answers = refl
  over_unsaid WantAfter ends memory other answers = absurd (memory (own_of status statuses.Memory other answers))
  over_unsaid WantBefore ends memory other answers = absurd (memory (own_of status statuses.Memory other answers))
  over_unsaid (ByDecline x) ends memory other answers = ap want_line (sym (own_of status (status_of_declined x) other answers)) ∙ no_memory_none status memory
  over_unsaid (Full at) ends memory other answers = refl
  over_unsaid NothingPending ends memory other answers = refl

  no_memory_or_edge : (own : Status) → status ≢ statuses.Memory → IsOrEdge status statuses.Memory → IsOwnOrEdge own status
  no_memory_or_edge own memory (inl is) = absurd (memory is)
  no_memory_or_edge own memory (inr edge) = inr edge

  pub over_settled : (ending : Ending) (ends : EndsPart p ending h) → status ≢ statuses.Memory → EndsCall status →
      IsOrEdge status (status_of_ending ending) → IsOwnOrEdge (status_of_ending (settled p h ending ends)) status
  over_settled (ByClose o) ends memory over answers = own_or_edge status (status_of_ending (ByClose o)) over answers
  over_settled (ByRestart i) ends memory over answers = own_or_edge status (status_of_ending (ByRestart i)) over answers
  over_settled (ByReboot i) ends memory over answers = own_or_edge status (status_of_ending (ByReboot i)) over answers
  over_settled ByDiskFault ends memory over answers = own_or_edge status (status_of_ending ByDiskFault) over answers
  over_settled BySinkFault ends memory over answers = own_or_edge status (status_of_ending BySinkFault) over answers
  over_settled WantAfter ends memory over answers = no_memory_or_edge (status_of_outcome ends.0) memory answers
  over_settled WantBefore ends memory over answers = own_or_edge status (status_of_ending WantBefore) over answers
  over_settled (ByDecline x) ends memory over answers = own_or_edge status (status_of_ending (ByDecline x)) over answers
  over_settled (Full at) ends memory over answers = own_or_edge status (status_of_ending (Full at)) over answers
  over_settled NothingPending ends memory over answers = own_or_edge status (status_of_ending NothingPending) over answers
