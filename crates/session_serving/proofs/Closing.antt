-- Want of memory leaves no deployment unfinished: the records are none, or end with a close.
use Rattle.std.specs.Prelude.{ℕ, Bool, true, false, List, [], ◌∷◌, ◌++◌}
use Rattle.std.proofs.Common.{◌≡◌, ◌≢◌, ◌∙◌, inl, inr, refl, sym, ap, subst, append_assoc}
use Rattle.std.proofs.lemmas.Bool.{false≢true}
use Rattle.std.proofs.lemmas.List.{append-nil}
use Rattle.nuc_base.specs.declared.status.Status.{Status}
use Rattle.nuc_base.specs.declared.status.Status.TheVariants as statuses
use Rattle.disk_model.specs.declared.disk.Disk as a_disk
use Rattle.gate_log.specs.declared.journal.Journal as a_journal
use Rattle.records.specs.Stored.{Record, Closed}
use Rattle.device.specs.Devices.{Device}
use Rattle.histories.specs.Courses.{gives_up, is_restart}
use Rattle.histories.specs.States.{SessionState, state_after}
use Rattle.histories.specs.TraceEvents.{TraceEvent, records_of}
use Rattle.session.specs.Endings.{Ending, BySinkFault, ByClose, ByDecline, ByDiskFault, WantAfter, Full, Idle as NothingPending, ByReboot}
use Rattle.session.specs.Endings.{ByRestart, WantBefore, status_of_ending}
use Rattle.session_serving.specs.Documents.{IsOwnOrEdge, IsDeployedThere, RecordsEnd}
use Rattle.session_serving.specs.Libraries.{LibraryState}
use Rattle.session_serving.specs.Parts.{Outside}
use Rattle.session_serving.specs.Rounds.{AreHandled, GoesOn, Handled, LastRound, Round, Shut, Spent, StoppedBy, SweepFailed, Took, Waited, InboxFailed}
use Rattle.session_serving.specs.Rounds.{WantOfMemory}
use Rattle.session_serving.specs.Rounds.{records_of_last, records_of_rounds}
use Rattle.session_serving.specs.Served.{AreClosed, EndsAs, IsResumedOrIdle, IsFinished, IsHalted, IsSetServed}

-- ---- one deployment

-- the call goes on behind it, or it ends for want of memory
abbrev IsOther : Status → Type 0
IsOther status = (status ≢ statuses.Disk) × (status ≢ statuses.Edge) × (is_restart status ≡ false)

ends_closed : (ending : Ending) (records : List Record) (d : Device) → RecordsEnd ending records d → IsOther (status_of_ending ending) → AreClosed records
ends_closed (ByClose o) records d ends other = inr (o, ends.0)
ends_closed (ByRestart i) records d ends other = absurd (false≢true (sym other.2))
ends_closed (ByReboot i) records d ends other = absurd (false≢true (sym other.2))
ends_closed ByDiskFault records d ends other = absurd (other.0 refl)
ends_closed BySinkFault records d ends other = absurd (other.1 refl)
ends_closed WantAfter records d ends other = inr ends
ends_closed WantBefore records d ends other = inl ends
ends_closed (ByDecline x) records d ends other = inl ends
ends_closed (Full at) records d ends other = inl ends
ends_closed NothingPending records d ends other = inl ends

clash : (status : Status) → gives_up status ≡ true → gives_up status ≡ false → ⊥
clash status on off = false≢true (sym off ∙ on)

-- where the call goes on behind it the records are none, or end with a close
round_closed : (x : Handled) (ending : Ending) → GoesOn x → x.status ≡ status_of_ending ending → RecordsEnd ending x.records x.behind → AreClosed x.records
round_closed x ending on is ends = by (gives_up x.status) refl
  where
    by : (b : Bool) → gives_up x.status ≡ b → AreClosed x.records
    by true gives = inl (on.unmoved gives)
    by false stays = ends_closed ending x.records x.behind ends
        (subst IsOther is ((λ disk. clash x.status (ap gives_up disk) stays), on.edge, on.restart))

memory_other : (status : Status) → statuses.Memory ≡ status → IsOther status
memory_other status is = subst IsOther is ((λ same. cc), (λ same. cc), refl)

own_memory : (own : Status) → IsOwnOrEdge own statuses.Memory → statuses.Memory ≡ own
own_memory own (inl is) = is.0
own_memory own (inr edge) = absurd (never edge)
  where
    never : statuses.Memory ≡ statuses.Edge → ⊥
    never same = cc

-- ---- one after another

pub closed_both : (a b : List Record) → AreClosed a → AreClosed b → AreClosed (a ++ b)
closed_both a b one (inr c) =
    inr (c.0, (a ++ c.1.0, ap (λ (l : List Record). a ++ l) c.1.1 ∙ sym (append_assoc a c.1.0 (Closed c.0 ∷ []))))
closed_both a b one (inl none) = subst (λ (l : List Record). AreClosed (a ++ l)) (sym none) (subst AreClosed (sym (append-nil a)) one)

rounds_closed : (rounds : List Round) (d : Device) (n : LibraryState) (f : ℕ) (e : Device) (m : LibraryState) (g : ℕ) →
    AreHandled IsDeployedThere d n f rounds e m g → AreClosed (records_of_rounds rounds)
rounds_closed [] d n f e m g h = inl refl
rounds_closed (Waited ∷ rounds) d n f e m g h = rounds_closed rounds d n f e m g h
rounds_closed (Took x ∷ rounds) d n f e m g h =
    closed_both x.records (records_of_rounds rounds) (round_closed x h.4.ending h.3 h.4.status h.4.ends)
    (rounds_closed rounds x.behind x.after x.disk_after e m g h.6)

last_closed : {D : Type 0} (most : ℕ) (rounds : List Round) (last : LastRound) (old new : Outside D) (d : Device) →
    EndsAs IsDeployedThere most rounds last statuses.Memory old new d → AreClosed (records_of_last last)
last_closed most rounds Spent old new d ends = inl refl
last_closed most rounds Shut old new d ends = inl refl
last_closed most rounds (StoppedBy x) old new d ends = absurd (ends.memory refl)
last_closed most rounds SweepFailed old new d ends = inl refl
last_closed most rounds InboxFailed old new d ends = inl refl
last_closed most rounds WantOfMemory old new d ends = inl refl

module _ {D J : Type 0} (disk : a_disk.Ghosts D) (journal : a_journal.Ghosts J) where
  served_closed : (most : ℕ) (old new : Outside D) (p : SessionState) (h : List TraceEvent) →
      IsSetServed disk journal IsDeployedThere most old new p h statuses.Memory → AreClosed (records_of h)
  served_closed most old new p h s = subst AreClosed (sym s.records)
      (closed_both (records_of_rounds s.rounds) (records_of_last s.last) (rounds_closed s.rounds p.device old.library old.faults s.behind s.to.library s.to.faults s.handled)
      (last_closed most s.rounds s.last s.to new s.behind s.ends))

  pub served_memory : (most : ℕ) (old new : Outside D) (p : SessionState) (h : List TraceEvent) (status : Status) →
      IsSetServed disk journal IsDeployedThere most old new p h status → status ≡ statuses.Memory → AreClosed (records_of h)
  served_memory most old new p h status s is =
      served_closed most old new p h (subst (λ (z : Status). IsSetServed disk journal IsDeployedThere most old new p h z) is s)

  -- behind a pending deployment that was finished
  pub finished_closed : (old new : Outside D) (p : SessionState) (h : List TraceEvent) → IsFinished disk journal old new p h → AreClosed (records_of h)
  finished_closed old new p h f = by f.first
    where
      by : IsResumedOrIdle p.device (records_of h) (state_after p h).device f.lines f.ending → AreClosed (records_of h)
      by (inl is) = inr (f.closed is.0)
      by (inr none) = inl none.1

  pub halted_memory : (old new : Outside D) (p : SessionState) (h : List TraceEvent) (status : Status) → IsHalted disk journal old new p h status →
      status ≡ statuses.Memory → AreClosed (records_of h)
  halted_memory old new p h status s is = ends_closed s.ending (records_of h) _ s.first.ends
      (memory_other (status_of_ending s.ending) (own_memory (status_of_ending s.ending)
      (subst (λ (z : Status). IsOwnOrEdge (status_of_ending s.ending) z) is s.with_status)))
