-- What each answer of `plan` amounts to.
use Rattle.std.proofs.Common.{◌≡◌, ◌∙◌, ◌⊎◌, inl, inr, ℕ, List, IsTrue, Some, None, Err, refl, sym, ap, subst}
use Rattle.nuc_base.specs.declared.kinds.Outcome.TheVariants.{Successful}
use Rattle.nuc_base.specs.declared.status.Status.{Status}
use Rattle.nuc_base.specs.declared.status.Status.TheVariants as status
use Rattle.nuc_base.specs.Faults.{Rose}
use Rattle.checkpoint_log.specs.Slots.{slots_none}
use Rattle.device.specs.Devices.{Device, Pending as PendingPlan, no_device}
use Rattle.nucleus_top.proofs.Standing.{none_stands, same_device}
use Rattle.plan_core.specs.declared.fault.Refusal.{Refusal}
use Rattle.plan_core.specs.declared.fault.Refusal.TheVariants.{Repeated}
use Rattle.refusal_lines.specs.Lines.{refusal_line}
use Rattle.nucleus_top.specs.Answers.{Store, Input, Shelf, Printed, IsPrinted, IsUnchanged, HasPrinted, IsOrFault, none_line, damaged_line, pending_line}
use Rattle.nucleus_top.specs.Answers.{library_line, status_of, lines_of}
use Rattle.nucleus_top.specs.Opening.{IsImageOf, HasEntry, StandsForNone}
use Rattle.nucleus_top.specs.Inits.{IsRefusedAt}
use Rattle.nucleus_top.specs.Planning.{IsProposed, IsFound, PlanAnswer, IsPlanPrinted, IsClosePrinted, IsPending, PlanParts}
use Rattle.nucleus_top.specs.declared.answer.Answer.{Answer}
use Rattle.nucleus_top.specs.declared.answer.Answer.TheVariants.{Made, Shown, Planned, Unplanned, Whole, Pending, DiskFailed, SourceFailed, LibraryFailed}
use Rattle.nucleus_top.specs.declared.answer.Answer.TheVariants.{NotInitialised, Damaged, Unreadable, NoMemory, Possible, Got, Drawn}
use Rattle.nucleus_top.proofs.Unrefused.{no_refusal, only_successful}

module _ (store : Store) (input : Input) (library : Shelf) (printed : Printed) (result : Status) where
  which : (a : Answer) → PlanAnswer store input library a → IsPrinted printed result a
      → (result ≡ status.Edge) ⊎ ((answer : Answer) × PlanAnswer store input library answer × (result ≡ status_of answer) ×
      HasPrinted printed (lines_of answer))
  which a comes (inl told) = inr (a, comes, told.0, told.1)
  which a comes (inr told) = inl told.0

  reads_only : (a : Answer) → PlanAnswer store input library a → IsUnchanged store
  reads_only DiskFailed comes = comes.0
  reads_only NotInitialised comes = comes.0
  reads_only (Damaged place) comes = comes.0
  reads_only NoMemory comes = comes
  reads_only a comes = comes.0

  closed_before : (d : Device) (r : Refusal) (text : List ℕ) → IsFound store d → IsProposed d input library (Err r) → text ≡ refusal_line r →
      HasPrinted printed text
      → (id : List ℕ) × (r ≡ Repeated id Successful) → IsClosePrinted store input library printed
  closed_before d r text found proposed text_is prints closed = (
    d,
    closed.0,
    found,
    subst (λ (x : Refusal). IsProposed d input library (Err x)) closed.1 proposed,
    subst (λ (t : List ℕ). HasPrinted printed t) (text_is ∙ ap refusal_line closed.1) prints,
  )

  done : (a : Answer) → PlanAnswer store input library a → IsPrinted printed result a → result ≡ status.Done → IsPlanPrinted store input library printed ⊎
      IsClosePrinted store input library printed
  done (Made thing) comes (inl told) is = absurd comes.1.2
  done (Shown text) comes (inl told) is = absurd comes.1.2
  done Whole comes (inl told) is = absurd comes.1.2
  done Possible comes (inl told) is = absurd comes.1.2
  done (Got text) comes (inl told) is = absurd comes.1.2
  done (Drawn text) comes (inl told) is = absurd comes.1.2
  done (Planned text) comes (inl told) is =
      let on = comes.1.2 in
      inl (comes.1.0, on.0, comes.1.1, on.1, subst (λ (t : List ℕ). HasPrinted printed t) on.2 told.1)
  done (Unplanned r text) comes (inl told) is =
      let on = comes.1.2 in
      inr (closed_before comes.1.0 r text comes.1.1 on.0 on.1 told.1 (only_successful r (sym told.0 ∙ is)))
  done a comes (inl told) is = cc
  done a comes (inr told) is = cc

  pending : (a : Answer) → PlanAnswer store input library a → IsPrinted printed result a → result ≡ status.PendingStands
      → (id : List ℕ) × (IsTrue store.is_modelled → IsPending store.before id) × (input.rest ≡ input.document) × HasPrinted printed (pending_line id)
  pending (Pending id) comes (inl told) is =
      let on = comes.1.2 in (
        id,
        λ is_modelled. record {
          some = (comes.1.1 is_modelled).0;
          device = comes.1.0;
          stands = (comes.1.1 is_modelled).1;
          plan = on.1.0;
          pending =
              on.1.1;
          id_is = on.1.2;
        },
        on.0,
        told.1,
      )
  pending (Unplanned r text) comes (inl told) is = absurd (no_refusal r status.PendingStands refl (sym told.0 ∙ is))
  pending a comes (inl told) is = cc
  pending a comes (inr told) is = cc

  -- a device without a pending deployment is not the one that the journal stands for
  pub busy : (d e : Device) (q : PendingPlan) → IsTrue store.is_modelled → IsFound store e → e.pending ≡ None → IsImageOf store.before d → d.pending ≡ Some q →
      ⊥
  busy d e q is_modelled found idle stands is =
      let same : d ≡ e = same_device store.before d e stands (found is_modelled).1 in
      let none : d.pending ≡ None = ap (λ (x : Device). x.pending) same ∙ idle in
      let clash : None ≡ Some q = sym none ∙ is in cc

  pending_comes : (a : Answer) → PlanAnswer store input library a → IsPrinted printed result a → IsTrue store.is_modelled → HasEntry store.before
      → (d : Device) → IsImageOf store.before d → (q : PendingPlan) → d.pending ≡ Some q → IsOrFault result status.PendingStands
  pending_comes a comes (inr told) is_modelled some d stands q is = inr (inr (inl told.0))
  pending_comes (Planned text) comes (inl told) is_modelled some d stands q is = absurd (busy d comes.1.0 q is_modelled comes.1.1 comes.1.2.1.idle stands is)
  pending_comes (Unplanned r text) comes (inl told) is_modelled some d stands q is =
      absurd (busy d comes.1.0 q is_modelled comes.1.1 comes.1.2.0.idle stands is)
  pending_comes LibraryFailed comes (inl told) is_modelled some d stands q is = absurd (busy d comes.1.0 q is_modelled comes.1.1 comes.1.2.0.idle stands is)
  pending_comes (Pending id) comes (inl told) is_modelled some d stands q is = inr (inl told.0)
  pending_comes DiskFailed comes (inl told) is_modelled some d stands q is = inl told.0
  pending_comes SourceFailed comes (inl told) is_modelled some d stands q is = inr (inr (inl told.0))
  pending_comes NotInitialised comes (inl told) is_modelled some d stands q is = absurd (some (comes.1 is_modelled))
  pending_comes (Damaged place) comes (inl told) is_modelled some d stands q is = absurd ((comes.1.2 is_modelled).none d stands)
  pending_comes NoMemory comes (inl told) is_modelled some d stands q is = inr (inr (inr told.0))
  pending_comes a comes (inl told) is_modelled some d stands q is = absurd comes.1.2

  given : (a : Answer) → PlanAnswer store input library a → IsPrinted printed result a → result ≡ status.Library →
      Rose library.faults_before library.faults_after ×
      HasPrinted printed library_line
  given LibraryFailed comes (inl told) is = (comes.1.2.1, told.1)
  given (Unplanned r text) comes (inl told) is = absurd (comes.1.2.2 (sym told.0 ∙ is))
  given a comes (inl told) is = cc
  given a comes (inr told) is = cc

  none : (a : Answer) → PlanAnswer store input library a → IsPrinted printed result a → result ≡ status.NotInitialised →
      (IsTrue store.is_modelled → slots_none store.before) × HasPrinted printed none_line
  none NotInitialised comes (inl told) is = (comes.1, told.1)
  none (Unplanned r text) comes (inl told) is = absurd (no_refusal r status.NotInitialised refl (sym told.0 ∙ is))
  none a comes (inl told) is = cc
  none a comes (inr told) is = cc

  none_comes : (a : Answer) → PlanAnswer store input library a → IsPrinted printed result a → IsTrue store.is_modelled → slots_none store.before →
      IsOrFault result status.NotInitialised
  none_comes a comes (inr told) is_modelled holds_none = inr (inr (inl told.0))
  none_comes DiskFailed comes (inl told) is_modelled holds_none = inl told.0
  none_comes SourceFailed comes (inl told) is_modelled holds_none = inr (inr (inl told.0))
  none_comes NotInitialised comes (inl told) is_modelled holds_none = inr (inl told.0)
  none_comes (Damaged place) comes (inl told) is_modelled holds_none = absurd ((comes.1.2 is_modelled).none no_device (none_stands store.before holds_none))
  none_comes NoMemory comes (inl told) is_modelled holds_none = inr (inr (inr told.0))
  none_comes a comes (inl told) is_modelled holds_none = absurd ((comes.1.1 is_modelled).0 holds_none)

  damaged : (a : Answer) → PlanAnswer store input library a → IsPrinted printed result a → result ≡ status.Damaged → (place : List ℕ) ×
      IsRefusedAt store place ×
      HasPrinted printed (damaged_line place)
  damaged (Damaged place) comes (inl told) is = (place, comes, told.1)
  damaged (Unreadable text) comes (inl told) is = absurd comes.1.2
  damaged (Unplanned r text) comes (inl told) is = absurd (no_refusal r status.Damaged refl (sym told.0 ∙ is))
  damaged a comes (inl told) is = cc
  damaged a comes (inr told) is = cc

  damaged_comes : (a : Answer) → PlanAnswer store input library a → IsPrinted printed result a → IsTrue store.is_modelled → StandsForNone store.before →
      IsOrFault result status.Damaged
  damaged_comes a comes (inr told) is_modelled refuses = inr (inr (inl told.0))
  damaged_comes DiskFailed comes (inl told) is_modelled refuses = inl told.0
  damaged_comes SourceFailed comes (inl told) is_modelled refuses = inr (inr (inl told.0))
  damaged_comes NotInitialised comes (inl told) is_modelled refuses = absurd (refuses no_device (none_stands store.before (comes.1 is_modelled)))
  damaged_comes (Damaged place) comes (inl told) is_modelled refuses = inr (inl told.0)
  damaged_comes NoMemory comes (inl told) is_modelled refuses = inr (inr (inr told.0))
  damaged_comes a comes (inl told) is_modelled refuses = absurd (refuses comes.1.0 (comes.1.1 is_modelled).1)

  pub plan_parts : (a : Answer) → PlanAnswer store input library a → IsPrinted printed result a → PlanParts store input library printed result
  plan_parts a comes told = record {
    which = which a comes told;
    reads_only = reads_only a comes;
    done = done a comes told;
    pending = pending a comes told;
    pending_comes = pending_comes a comes told;
    library_failed = given a comes told;
    none = none a comes told;
    none_comes = none_comes a comes told;
    damaged = damaged a comes told;
    damaged_comes = damaged_comes a comes told;
  }
