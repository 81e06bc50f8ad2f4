-- What each reply of `why` amounts to.
use Rattle.std.proofs.Common.{◌≡◌, ◌∙◌, ◌⊎◌, ⊎_elim, inl, inr, ℕ, List, IsTrue, Some, None, Err, refl, sym, ap, subst}
use Rattle.nuc_base.specs.declared.status.Status.{Status}
use Rattle.nuc_base.specs.declared.status.Status.TheVariants as status
use Rattle.device.specs.Devices.{Device, Pending as PendingPlan}
use Rattle.plan_core.specs.declared.fault.Refusal.{Refusal}
use Rattle.refusal_lines.specs.Lines.{refusal_line}
use Rattle.refusal_lines.specs.Statuses.{status_of_refusal}
use Rattle.nucleus_top.specs.Answers.{Store, Input, Shelf, Printed, IsPrinted, HasPrinted, IsOrFault, pending_line, status_of, lines_of}
use Rattle.nucleus_top.specs.Opening.{IsImageOf}
use Rattle.nucleus_top.specs.Planning.{IsFound, IsPending}
use Rattle.nucleus_top.specs.Why.{IsCloseRepeated, IsDeclined, IsImpossibleOn, IsPossiblePrinted}
use Rattle.nucleus_top.specs.Why.{IsQuestioned, WhyParts, WhyAnswer, WhyAnswerOn}
use Rattle.nucleus_top.specs.declared.answer.Answer.{Answer}
use Rattle.nucleus_top.specs.declared.explanation.Explanation.{Explanation}
use Rattle.nucleus_top.specs.declared.answer.Answer.TheVariants.{Made, Shown, Planned, Possible, Impossible, Got}
use Rattle.nucleus_top.specs.declared.answer.Answer.TheVariants.{Drawn, Whole, Unplanned, Pending, DiskFailed, SourceFailed}
use Rattle.nucleus_top.specs.declared.answer.Answer.TheVariants.{LibraryFailed, NotInitialised, Damaged, NoMemory}
use Rattle.nucleus_top.proofs.DriveEnds.{busy_none}
use Rattle.nucleus_top.proofs.Looked.{looked_parts, reads_only}
use Rattle.nucleus_top.proofs.PlanEnds.{busy}
use Rattle.nucleus_top.proofs.Questions.{not_declined}
use Rattle.nucleus_top.proofs.Unrefused.{no_refusal, only_no_version, only_successful}

-- no first refusal has the status of no version
declined_other : (d : Device) (input : Input) (library : Shelf) (r : Refusal) (text : List ℕ) → IsDeclined d input library r text →
    status_of_refusal r ≡ status.NoVersion → ⊥
declined_other d input library r text declined is =
    not_declined d input library (subst (λ (x : Refusal). IsQuestioned d input library (Err x)) (only_no_version r is) declined.questioned)

-- an answer with that status is a certificate, or a refusal
which_told : (a : Answer) → status_of a ≡ status.NoVersion →
    ((e : Explanation) × (a ≡ Impossible e)) ⊎ ((r : Refusal) × (text : List ℕ) × (a ≡ Unplanned r text))
which_told (Impossible e) is = inl (e, refl)
which_told (Unplanned r text) is = inr (r, text, refl)
which_told a is = cc

module _ (store : Store) (input : Input) (library : Shelf) where
  abbrev On : Device → Answer → Type 0
  On d = WhyAnswerOn d input library

  module _ (printed : Printed) (result : Status) where
    which : (a : Answer) → WhyAnswer store input library a → IsPrinted printed result a
        → (result ≡ status.Edge) ⊎ ((answer : Answer) × WhyAnswer store input library answer × (result ≡ status_of answer) ×
        HasPrinted printed (lines_of answer))
    which a comes (inl told) = inr (a, comes, told.0, told.1)
    which a comes (inr told) = inl told.0

    declined_done : (d : Device) (r : Refusal) (text : List ℕ) → IsFound store d → IsDeclined d input library r text → HasPrinted printed text →
        status_of_refusal r ≡ status.Done → IsPossiblePrinted store input library printed ⊎ IsCloseRepeated store input library printed
    declined_done d r text found declined prints is =
        let closed = only_successful r is in
        inr (
          d,
          closed.0,
          found,
          subst (λ (x : Refusal). IsQuestioned d input library (Err x)) closed.1 declined.questioned,
          subst (λ (t : List ℕ). HasPrinted printed t) (declined.text_is ∙ ap refusal_line closed.1) prints,
        )

    done : (a : Answer) → WhyAnswer store input library a → IsPrinted printed result a → result ≡ status.Done → IsPossiblePrinted store input library printed ⊎
        IsCloseRepeated store input library printed
    done Possible comes (inl told) is = inl (comes.1.0, comes.1.1, comes.1.2, told.1)
    done (Unplanned r text) comes (inl told) is = declined_done comes.1.0 r text comes.1.1 comes.1.2 told.1 (sym told.0 ∙ is)
    done (Made thing) comes (inl told) is = absurd comes.1.2
    done (Shown text) comes (inl told) is = absurd comes.1.2
    done (Planned text) comes (inl told) is = absurd comes.1.2
    done (Got text) comes (inl told) is = absurd comes.1.2
    done (Drawn text) comes (inl told) is = absurd comes.1.2
    done Whole comes (inl told) is = absurd comes.1.2
    done a comes (inl told) is = cc
    done a comes (inr told) is = cc

    -- What tells no version is a parameter here: unfolded, it takes more memory than the check of one definition may.
    module _ (declined : (d : Device) (r : Refusal) (text : List ℕ) → IsDeclined d input library r text → status_of_refusal r ≡ status.NoVersion → ⊥)
        (which : (a : Answer) → status_of a ≡ status.NoVersion →
        ((e : Explanation) × (a ≡ Impossible e)) ⊎ ((r : Refusal) × (text : List ℕ) × (a ≡ Unplanned r text)))
        (other : result ≡ status.Edge → result ≡ status.NoVersion → ⊥) where
      explained : (e : Explanation) → WhyAnswer store input library (Impossible e) → HasPrinted printed (lines_of (Impossible e)) →
          (text : List ℕ) × IsImpossibleOn store input library text × HasPrinted printed text
      explained e comes prints = (lines_of (Impossible e), (comes.1.0, comes.1.1, comes.1.2), prints)

      refused_so : (r : Refusal) (text : List ℕ) → WhyAnswer store input library (Unplanned r text) → status_of_refusal r ≡ status.NoVersion → ⊥
      refused_so r text comes is = declined comes.1.0 r text comes.1.2 is

      no_version_told : (a : Answer) → WhyAnswer store input library a → IsPrinted printed result a → result ≡ status.NoVersion
          → (text : List ℕ) × IsImpossibleOn store input library text × HasPrinted printed text
      no_version_told a comes (inl told) is = ⊎_elim
          (λ e. explained e.0 (subst (λ (x : Answer). WhyAnswer store input library x) e.1 comes)
          (subst (λ (x : Answer). HasPrinted printed (lines_of x)) e.1 told.1))
          (λ r. absurd (refused_so r.0 r.1 (subst (λ (x : Answer). WhyAnswer store input library x) r.2 comes)
          (sym (ap status_of r.2) ∙ sym told.0 ∙ is))) (which a (sym told.0 ∙ is))
      no_version_told a comes (inr told) is = absurd (other told.0 is)

    no_version : (a : Answer) → WhyAnswer store input library a → IsPrinted printed result a → result ≡ status.NoVersion
        → (text : List ℕ) × IsImpossibleOn store input library text × HasPrinted printed text
    no_version = no_version_told (λ d r text. declined_other d input library r text) which_told (λ failed is. cc)

    pending : (a : Answer) → WhyAnswer store input library a → IsPrinted printed result a → result ≡ status.PendingStands
        → (id : List ℕ) × (IsTrue store.is_modelled → IsPending store.before id) × (input.rest ≡ input.document) × HasPrinted printed (pending_line id)
    pending (Pending id) comes (inl told) is =
        let on = comes.1.2 in (
          id,
          λ is_modelled. record {
            some = (comes.1.1 is_modelled).0;
            device = comes.1.0;
            stands = (comes.1.1 is_modelled).1;
            plan = on.1.0;
            pending = on.1.1;
            id_is = on.1.2;
          },
          on.0,
          told.1,
        )
    pending (Unplanned r text) comes (inl told) is = absurd (no_refusal r status.PendingStands refl (sym told.0 ∙ is))
    pending a comes (inl told) is = cc
    pending a comes (inr told) is = cc

    pending_comes : (a : Answer) → WhyAnswer store input library a → IsPrinted printed result a → IsTrue store.is_modelled → (d : Device) →
        IsImageOf store.before d
        → (q : PendingPlan) → d.pending ≡ Some q → IsOrFault result status.PendingStands
    pending_comes a comes (inr told) is_modelled d stands q is = inr (inr (inl told.0))
    pending_comes Possible comes (inl told) is_modelled d stands q is =
        absurd (busy store input library printed result d comes.1.0 q is_modelled comes.1.1 comes.1.2.questioned.idle stands is)
    pending_comes (Unplanned r text) comes (inl told) is_modelled d stands q is =
        absurd (busy store input library printed result d comes.1.0 q is_modelled comes.1.1 comes.1.2.questioned.idle stands is)
    pending_comes (Impossible e) comes (inl told) is_modelled d stands q is =
        absurd (busy store input library printed result d comes.1.0 q is_modelled comes.1.1 comes.1.2.questioned.idle stands is)
    pending_comes LibraryFailed comes (inl told) is_modelled d stands q is =
        absurd (busy store input library printed result d comes.1.0 q is_modelled comes.1.1 comes.1.2.0.idle stands is)
    pending_comes (Pending id) comes (inl told) is_modelled d stands q is = inr (inl told.0)
    pending_comes DiskFailed comes (inl told) is_modelled d stands q is = inl told.0
    pending_comes SourceFailed comes (inl told) is_modelled d stands q is = inr (inr (inl told.0))
    pending_comes NotInitialised comes (inl told) is_modelled d stands q is =
        absurd (busy_none store input printed result d q (comes.1 is_modelled) stands is)
    pending_comes (Damaged place) comes (inl told) is_modelled d stands q is = absurd ((comes.1.2 is_modelled).none d stands)
    pending_comes NoMemory comes (inl told) is_modelled d stands q is = inr (inr (inr told.0))
    pending_comes a comes (inl told) is_modelled d stands q is = absurd comes.1.2

    pub why_parts : (a : Answer) → WhyAnswer store input library a → IsPrinted printed result a → WhyParts store input library printed result
    why_parts a comes told = record {
      which = which a comes told;
      reads_only = reads_only On store a comes;
      done = done a comes told;
      no_version = no_version a comes told;
      pending = record { pending = pending a comes told; pending_comes = pending_comes a comes told };
      refused = looked_parts On store (λ d text on. on) printed result a comes told;
    }
