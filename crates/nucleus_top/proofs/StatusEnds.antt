-- What each answer of `status` amounts to.
use Rattle.std.proofs.Common.{◌≡◌, inl, inr, ℕ, List, Bool, IsTrue}
use Rattle.nuc_base.specs.declared.status.Status.{Status}
use Rattle.nuc_base.specs.declared.status.Status.TheVariants as status
use Rattle.checkpoint_log.specs.Slots.{slots_none}
use Rattle.device.specs.Devices.{Device, no_device}
use Rattle.nucleus_top.specs.Answers.{Store, Printed, IsPrinted, IsUnchanged, HasPrinted, IsOrFault, none_line, damaged_line}
use Rattle.nucleus_top.specs.Opening.{IsImageOf, HasEntry, StandsForNone}
use Rattle.nucleus_top.specs.Inits.{IsRefusedAt}
use Rattle.nucleus_top.specs.Shows.{IsShown, ShowsDevice, StatusAnswer, StatusParts}
use Rattle.nucleus_top.specs.declared.answer.Answer.{Answer}
use Rattle.nucleus_top.specs.declared.answer.Answer.TheVariants.{Made, Shown, Planned, Unplanned, Whole, DiskFailed}
use Rattle.nucleus_top.specs.declared.answer.Answer.TheVariants.{NotInitialised, Damaged, Unreadable, NoMemory, Possible, Got, Drawn}
use Rattle.nucleus_top.proofs.Standing.{none_stands}
use Rattle.nucleus_top.proofs.Told.{answer_or_edge}

-- the text of the device for which the journal stands
pub found_shows : (json : Bool) (store : Store) (d : Device) (a : Answer) → ShowsDevice json d a → IsUnchanged store
    → (IsTrue store.is_modelled → HasEntry store.before × IsImageOf store.before d) → StatusAnswer json store a
found_shows json store d (Shown text) shows same found = (
  same,
  λ is_modelled. record {
    some = (found is_modelled).0;
    device = d;
    stands =
        (found is_modelled).1;
    text_is = shows;
  },
)
found_shows json store d NoMemory shows same found = same
found_shows json store d a shows same found = absurd shows

module _ (json : Bool) (store : Store) (printed : Printed) (result : Status) where
  reads_only : (a : Answer) → StatusAnswer json store a → IsUnchanged store
  reads_only (Shown text) comes = comes.0
  reads_only DiskFailed comes = comes.0
  reads_only NotInitialised comes = comes.0
  reads_only (Damaged place) comes = comes.0
  reads_only NoMemory comes = comes
  reads_only a comes = absurd comes

  done : (a : Answer) → StatusAnswer json store a → IsPrinted printed result a → result ≡ status.Done → (text : List ℕ) ×
      (IsTrue store.is_modelled → IsShown store.before json text) × HasPrinted printed text
  done (Made thing) comes (inl told) is = absurd comes
  done (Shown text) comes (inl told) is = (text, comes.1, told.1)
  done (Planned text) comes (inl told) is = absurd comes
  done Possible comes (inl told) is = absurd comes
  done (Got text) comes (inl told) is = absurd comes
  done (Drawn text) comes (inl told) is = absurd comes
  done Whole comes (inl told) is = absurd comes
  done (Unplanned r text) comes (inl told) is = absurd comes
  done a comes (inl told) is = cc
  done a comes (inr told) is = cc

  done_comes : (a : Answer) → StatusAnswer json store a → IsPrinted printed result a → IsTrue store.is_modelled → HasEntry store.before → (d : Device) →
      IsImageOf store.before d → IsOrFault result status.Done
  done_comes a comes (inr told) is_modelled some d stands = inr (inr (inl told.0))
  done_comes (Shown text) comes (inl told) is_modelled some d stands = inr (inl told.0)
  done_comes DiskFailed comes (inl told) is_modelled some d stands = inl told.0
  done_comes NotInitialised comes (inl told) is_modelled some d stands = absurd (some (comes.1 is_modelled))
  done_comes (Damaged place) comes (inl told) is_modelled some d stands = absurd ((comes.1.2 is_modelled).none d stands)
  done_comes NoMemory comes (inl told) is_modelled some d stands = inr (inr (inr told.0))
  done_comes a comes (inl told) is_modelled some d stands = absurd comes

  none : (a : Answer) → StatusAnswer json store a → IsPrinted printed result a → result ≡ status.NotInitialised →
      (IsTrue store.is_modelled → slots_none store.before) × HasPrinted printed none_line
  none NotInitialised comes (inl told) is = (comes.1, told.1)
  none (Unplanned r text) comes (inl told) is = absurd comes
  none a comes (inl told) is = cc
  none a comes (inr told) is = cc

  none_comes : (a : Answer) → StatusAnswer json store a → IsPrinted printed result a → IsTrue store.is_modelled → slots_none store.before →
      IsOrFault result status.NotInitialised
  none_comes a comes (inr told) is_modelled holds_none = inr (inr (inl told.0))
  none_comes (Shown text) comes (inl told) is_modelled holds_none = absurd ((comes.1 is_modelled).some holds_none)
  none_comes DiskFailed comes (inl told) is_modelled holds_none = inl told.0
  none_comes NotInitialised comes (inl told) is_modelled holds_none = inr (inl told.0)
  none_comes (Damaged place) comes (inl told) is_modelled holds_none = absurd ((comes.1.2 is_modelled).none no_device (none_stands store.before holds_none))
  none_comes NoMemory comes (inl told) is_modelled holds_none = inr (inr (inr told.0))
  none_comes a comes (inl told) is_modelled holds_none = absurd comes

  damaged : (a : Answer) → StatusAnswer json store a → IsPrinted printed result a → result ≡ status.Damaged → (place : List ℕ) × IsRefusedAt store place ×
      HasPrinted printed (damaged_line place)
  damaged (Damaged place) comes (inl told) is = (place, comes, told.1)
  damaged (Unreadable text) comes (inl told) is = absurd comes
  damaged (Unplanned r text) comes (inl told) is = absurd comes
  damaged a comes (inl told) is = cc
  damaged a comes (inr told) is = cc

  damaged_comes : (a : Answer) → StatusAnswer json store a → IsPrinted printed result a → IsTrue store.is_modelled → StandsForNone store.before →
      IsOrFault result status.Damaged
  damaged_comes a comes (inr told) is_modelled refuses = inr (inr (inl told.0))
  damaged_comes (Shown text) comes (inl told) is_modelled refuses = absurd (refuses (comes.1 is_modelled).device (comes.1 is_modelled).stands)
  damaged_comes DiskFailed comes (inl told) is_modelled refuses = inl told.0
  damaged_comes NotInitialised comes (inl told) is_modelled refuses = absurd (refuses no_device (none_stands store.before (comes.1 is_modelled)))
  damaged_comes (Damaged place) comes (inl told) is_modelled refuses = inr (inl told.0)
  damaged_comes NoMemory comes (inl told) is_modelled refuses = inr (inr (inr told.0))
  damaged_comes a comes (inl told) is_modelled refuses = absurd comes

  pub status_parts : (a : Answer) → StatusAnswer json store a → IsPrinted printed result a → StatusParts json store printed result
  status_parts a comes told = record {
    which = answer_or_edge (StatusAnswer json store) printed result a comes told;
    reads_only = reads_only a comes;
    done = done a comes told;
    done_comes = done_comes a comes told;
    none = none a comes told;
    none_comes = none_comes a comes told;
    damaged = damaged a comes told;
    damaged_comes = damaged_comes a comes told;
  }
