-- What each answer of `audit` amounts to.
use Rattle.std.proofs.Common.{◌≡◌, inl, inr, ℕ, List, IsTrue, refl, subst}
use Rattle.nuc_base.specs.declared.status.Status.{Status}
use Rattle.nuc_base.specs.declared.status.Status.TheVariants as status
use Rattle.checkpoint_log.specs.Slots.{slots_none}
use Rattle.device.specs.Devices.{Device, no_device}
use Rattle.artifact_store.specs.Holding.{HoldsDevice}
use Rattle.nucleus_top.specs.Answers.{Store, Printed, IsPrinted, IsUnchanged, HasRisen, HasPrinted, IsOrFault, whole_line, none_line, damaged_line}
use Rattle.nucleus_top.specs.Opening.{IsImageOf, HasEntry, StandsForNone}
use Rattle.nucleus_top.specs.Inits.{IsRefusedAt}
use Rattle.nucleus_top.specs.Audits.{ComparisonAnswer, IsWhole, IsDifferent, AuditAnswer, AuditParts}
use Rattle.nucleus_top.specs.declared.answer.Answer.{Answer}
use Rattle.nucleus_top.specs.declared.answer.Answer.TheVariants.{Made, Shown, Planned, Unplanned, Whole, Differs}
use Rattle.nucleus_top.specs.declared.answer.Answer.TheVariants.{DiskFailed, NotInitialised, Damaged, Unreadable, NoMemory, Possible, Got, Drawn}
use Rattle.nucleus_top.proofs.Standing.{none_stands, same_device}
use Rattle.nucleus_top.proofs.Told.{answer_or_edge}

-- what is found of the device for which the journal stands
pub found_audits : (store : Store) (d : Device) (a : Answer) → ComparisonAnswer store.is_modelled store.before d a → IsUnchanged store →
    (a ≡ DiskFailed → HasRisen store)
    → (IsTrue store.is_modelled → HasEntry store.before × IsImageOf store.before d) → AuditAnswer store a
found_audits store d Whole comes same rose found = (
  same,
  λ is_modelled. record {
    some = (found is_modelled).0;
    device = d;
    stands =
        (found is_modelled).1;
    holds = comes is_modelled;
  },
)
found_audits store d (Differs text) comes same rose found = (
  same,
  λ is_modelled. record {
    some = (found is_modelled).0;
    device = d;
    stands =
        (found is_modelled).1;
    names = comes is_modelled;
  },
)
found_audits store d DiskFailed comes same rose found = (same, rose refl)
found_audits store d NoMemory comes same rose found = same
found_audits store d a comes same rose found = absurd comes

module _ (store : Store) (printed : Printed) (result : Status) where
  reads_only : (a : Answer) → AuditAnswer store a → IsUnchanged store
  reads_only Whole comes = comes.0
  reads_only (Differs text) comes = comes.0
  reads_only DiskFailed comes = comes.0
  reads_only NotInitialised comes = comes.0
  reads_only (Damaged place) comes = comes.0
  reads_only NoMemory comes = comes
  reads_only a comes = absurd comes

  done : (a : Answer) → AuditAnswer store a → IsPrinted printed result a → result ≡ status.Done → (IsTrue store.is_modelled → IsWhole store.before) ×
      HasPrinted printed whole_line
  done (Made thing) comes (inl told) is = absurd comes
  done (Shown text) comes (inl told) is = absurd comes
  done (Planned text) comes (inl told) is = absurd comes
  done Possible comes (inl told) is = absurd comes
  done (Got text) comes (inl told) is = absurd comes
  done (Drawn text) comes (inl told) is = absurd comes
  done (Unplanned r text) comes (inl told) is = absurd comes
  done Whole comes (inl told) is = (comes.1, told.1)
  done a comes (inl told) is = cc
  done a comes (inr told) is = cc

  done_comes : (a : Answer) → AuditAnswer store a → IsPrinted printed result a → IsTrue store.is_modelled → IsWhole store.before → IsOrFault result status.Done
  done_comes a comes (inr told) is_modelled whole = inr (inr (inl told.0))
  done_comes Whole comes (inl told) is_modelled whole = inr (inl told.0)
  done_comes (Differs text) comes (inl told) is_modelled whole =
      let other = comes.1 is_modelled in
      absurd (other.names.unlike (subst (λ (d : Device). HoldsDevice store.before d)
      (same_device store.before whole.device other.device whole.stands other.stands) whole.holds))
  done_comes DiskFailed comes (inl told) is_modelled whole = inl told.0
  done_comes NotInitialised comes (inl told) is_modelled whole = absurd (whole.some (comes.1 is_modelled))
  done_comes (Damaged place) comes (inl told) is_modelled whole = absurd ((comes.1.2 is_modelled).none whole.device whole.stands)
  done_comes NoMemory comes (inl told) is_modelled whole = inr (inr (inr told.0))
  done_comes a comes (inl told) is_modelled whole = absurd comes

  differs : (a : Answer) → AuditAnswer store a → IsPrinted printed result a → result ≡ status.Differs → (text : List ℕ) ×
      (IsTrue store.is_modelled → IsDifferent store.before text) × HasPrinted printed text
  differs (Differs text) comes (inl told) is = (text, comes.1, told.1)
  differs (Unplanned r text) comes (inl told) is = absurd comes
  differs a comes (inl told) is = cc
  differs a comes (inr told) is = cc

  differs_comes : (a : Answer) → AuditAnswer store a → IsPrinted printed result a → IsTrue store.is_modelled → HasEntry store.before → (d : Device) →
      IsImageOf store.before d
      → (HoldsDevice store.before d → ⊥) → IsOrFault result status.Differs
  differs_comes a comes (inr told) is_modelled some d stands unlike = inr (inr (inl told.0))
  differs_comes Whole comes (inl told) is_modelled some d stands unlike =
      let whole = comes.1 is_modelled in
      absurd (unlike (subst (λ (e : Device). HoldsDevice store.before e) (same_device store.before whole.device d whole.stands stands) whole.holds))
  differs_comes (Differs text) comes (inl told) is_modelled some d stands unlike = inr (inl told.0)
  differs_comes DiskFailed comes (inl told) is_modelled some d stands unlike = inl told.0
  differs_comes NotInitialised comes (inl told) is_modelled some d stands unlike = absurd (some (comes.1 is_modelled))
  differs_comes (Damaged place) comes (inl told) is_modelled some d stands unlike = absurd ((comes.1.2 is_modelled).none d stands)
  differs_comes NoMemory comes (inl told) is_modelled some d stands unlike = inr (inr (inr told.0))
  differs_comes a comes (inl told) is_modelled some d stands unlike = absurd comes

  none : (a : Answer) → AuditAnswer store a → IsPrinted printed result a → result ≡ status.NotInitialised → (IsTrue store.is_modelled →
      slots_none store.before) ×
      HasPrinted printed none_line
  none NotInitialised comes (inl told) is = (comes.1, told.1)
  none (Unplanned r text) comes (inl told) is = absurd comes
  none a comes (inl told) is = cc
  none a comes (inr told) is = cc

  none_comes : (a : Answer) → AuditAnswer store a → IsPrinted printed result a → IsTrue store.is_modelled → slots_none store.before →
      IsOrFault result status.NotInitialised
  none_comes a comes (inr told) is_modelled holds_none = inr (inr (inl told.0))
  none_comes Whole comes (inl told) is_modelled holds_none = absurd ((comes.1 is_modelled).some holds_none)
  none_comes (Differs text) comes (inl told) is_modelled holds_none = absurd ((comes.1 is_modelled).some holds_none)
  none_comes DiskFailed comes (inl told) is_modelled holds_none = inl told.0
  none_comes NotInitialised comes (inl told) is_modelled holds_none = inr (inl told.0)
  none_comes (Damaged place) comes (inl told) is_modelled holds_none = absurd ((comes.1.2 is_modelled).none no_device (none_stands store.before holds_none))
  none_comes NoMemory comes (inl told) is_modelled holds_none = inr (inr (inr told.0))
  none_comes a comes (inl told) is_modelled holds_none = absurd comes

  damaged : (a : Answer) → AuditAnswer store a → IsPrinted printed result a → result ≡ status.Damaged → (place : List ℕ) × IsRefusedAt store place ×
      HasPrinted printed (damaged_line place)
  damaged (Damaged place) comes (inl told) is = (place, comes, told.1)
  damaged (Unreadable text) comes (inl told) is = absurd comes
  damaged (Unplanned r text) comes (inl told) is = absurd comes
  damaged a comes (inl told) is = cc
  damaged a comes (inr told) is = cc

  damaged_comes : (a : Answer) → AuditAnswer store a → IsPrinted printed result a → IsTrue store.is_modelled → StandsForNone store.before →
      IsOrFault result status.Damaged
  damaged_comes a comes (inr told) is_modelled refuses = inr (inr (inl told.0))
  damaged_comes Whole comes (inl told) is_modelled refuses = absurd (refuses (comes.1 is_modelled).device (comes.1 is_modelled).stands)
  damaged_comes (Differs text) comes (inl told) is_modelled refuses = absurd (refuses (comes.1 is_modelled).device (comes.1 is_modelled).stands)
  damaged_comes DiskFailed comes (inl told) is_modelled refuses = inl told.0
  damaged_comes NotInitialised comes (inl told) is_modelled refuses = absurd (refuses no_device (none_stands store.before (comes.1 is_modelled)))
  damaged_comes (Damaged place) comes (inl told) is_modelled refuses = inr (inl told.0)
  damaged_comes NoMemory comes (inl told) is_modelled refuses = inr (inr (inr told.0))
  damaged_comes a comes (inl told) is_modelled refuses = absurd comes

  pub audit_parts : (a : Answer) → AuditAnswer store a → IsPrinted printed result a → AuditParts store printed result
  audit_parts a comes told = record {
    which = answer_or_edge (AuditAnswer store) printed result a comes told;
    reads_only = reads_only a comes;
    done = done a comes told;
    done_comes = done_comes a comes told;
    differs = differs a comes told;
    differs_comes = differs_comes a comes told;
    none = none a comes told;
    none_comes = none_comes a comes told;
    damaged = damaged a comes told;
    damaged_comes = damaged_comes a comes told;
  }
