-- What each answer of `init` amounts to.
use Rattle.std.proofs.Common.{◌≡◌, inl, inr, ℕ, List, IsTrue, subst}
use Rattle.nuc_base.specs.declared.status.Status.{Status}
use Rattle.nuc_base.specs.declared.status.Status.TheVariants as status
use Rattle.checkpoint_log.specs.Slots.{slots_none}
use Rattle.records.specs.declared.record.Origin.{Origin}
use Rattle.device.specs.Devices.{Device, no_device}
use Rattle.nucleus_top.specs.Answers.{Store, Printed, IsPrinted, IsUnchanged, HasPrinted, IsOrFault, made_line, damaged_line, initialised_line, status_of}
use Rattle.nucleus_top.specs.Opening.{IsImageOf, HasEntry, StandsForNone, IsInitialised}
use Rattle.nucleus_top.specs.Inits.{IsMade, MayBegin, IsRefusedAt, NamesThing, InitAnswer, InitParts}
use Rattle.command_words.specs.declared.order.Order.{Order}
use Rattle.nucleus_top.specs.Leaving.{IsDurable}
use Rattle.disk_model.specs.Disk.{Image}
use Rattle.nucleus_top.specs.declared.answer.Answer.{Answer}
use Rattle.nucleus_top.specs.declared.answer.Answer.TheVariants.{Made, Shown, Planned, Unplanned, Whole, DiskFailed}
use Rattle.nucleus_top.specs.declared.answer.Answer.TheVariants.{Damaged, Unreadable, Initialised, NoMemory, Possible, Got, Drawn}
use Rattle.nucleus_top.proofs.Standing.{none_stands}
use Rattle.nucleus_top.proofs.Told.{answer_or_edge}

module _ (origin : Origin) (store : Store) (printed : Printed) (result : Status) where
  done : (a : Answer) → InitAnswer origin store a → IsPrinted printed result a → result ≡ status.Done → (IsTrue store.is_modelled → IsMade store origin) ×
      HasPrinted printed (made_line origin.thing)
  done (Shown text) comes (inl told) is = absurd comes
  done (Made thing) comes (inl told) is = (comes.1, subst (λ (t : List ℕ). HasPrinted printed (made_line t)) comes.0 told.1)
  done (Planned text) comes (inl told) is = absurd comes
  done Possible comes (inl told) is = absurd comes
  done (Got text) comes (inl told) is = absurd comes
  done (Drawn text) comes (inl told) is = absurd comes
  done Whole comes (inl told) is = absurd comes
  done (Unplanned r text) comes (inl told) is = absurd comes
  done a comes (inl told) is = cc
  done a comes (inr told) is = cc

  done_comes : (a : Answer) → InitAnswer origin store a → IsPrinted printed result a → IsTrue store.is_modelled → slots_none store.before →
      IsOrFault result status.Done
  done_comes a comes (inr told) is_modelled none = inr (inr (inl told.0))
  done_comes (Made thing) comes (inl told) is_modelled none = inr (inl told.0)
  done_comes DiskFailed comes (inl told) is_modelled none = inl told.0
  done_comes (Damaged place) comes (inl told) is_modelled none = absurd ((comes.1.2 is_modelled).none no_device (none_stands store.before none))
  done_comes (Initialised thing) comes (inl told) is_modelled none = absurd ((comes.1 is_modelled).some none)
  done_comes NoMemory comes (inl told) is_modelled none = inr (inr (inr told.0))
  done_comes a comes (inl told) is_modelled none = absurd comes

  failed : (a : Answer) → InitAnswer origin store a → IsPrinted printed result a → result ≡ status.Disk → IsTrue store.is_modelled → MayBegin store origin
  failed DiskFailed comes (inl told) is = comes.1
  failed (Unplanned r text) comes (inl told) is = absurd comes
  failed a comes (inl told) is = cc
  failed a comes (inr told) is = cc

  damaged : (a : Answer) → InitAnswer origin store a → IsPrinted printed result a → result ≡ status.Damaged → (place : List ℕ) × IsRefusedAt store place ×
      HasPrinted printed (damaged_line place)
  damaged (Damaged place) comes (inl told) is = (place, comes, told.1)
  damaged (Unreadable text) comes (inl told) is = absurd comes
  damaged (Unplanned r text) comes (inl told) is = absurd comes
  damaged a comes (inl told) is = cc
  damaged a comes (inr told) is = cc

  damaged_comes : (a : Answer) → InitAnswer origin store a → IsPrinted printed result a → IsTrue store.is_modelled → StandsForNone store.before →
      IsOrFault result status.Damaged
  damaged_comes a comes (inr told) is_modelled refuses = inr (inr (inl told.0))
  damaged_comes (Made thing) comes (inl told) is_modelled refuses = absurd (refuses no_device (none_stands store.before (comes.1 is_modelled).none))
  damaged_comes DiskFailed comes (inl told) is_modelled refuses = inl told.0
  damaged_comes (Damaged place) comes (inl told) is_modelled refuses = inr (inl told.0)
  damaged_comes (Initialised thing) comes (inl told) is_modelled refuses = absurd (refuses (comes.1 is_modelled).device (comes.1 is_modelled).stands)
  damaged_comes NoMemory comes (inl told) is_modelled refuses = inr (inr (inr told.0))
  damaged_comes a comes (inl told) is_modelled refuses = absurd comes

  initialised : (a : Answer) → InitAnswer origin store a → IsPrinted printed result a → result ≡ status.Initialised
      → (thing : List ℕ) × IsUnchanged store × (IsTrue store.is_modelled → IsInitialised store.before thing) × HasPrinted printed (initialised_line thing)
  initialised (Initialised thing) comes (inl told) is = (thing, comes.0, comes.1, told.1)
  initialised (Unplanned r text) comes (inl told) is = absurd comes
  initialised a comes (inl told) is = cc
  initialised a comes (inr told) is = cc

  initialised_comes : (a : Answer) → InitAnswer origin store a → IsPrinted printed result a → IsTrue store.is_modelled → HasEntry store.before → (d : Device) →
      IsImageOf store.before d → IsOrFault result status.Initialised
  initialised_comes a comes (inr told) is_modelled some d stands = inr (inr (inl told.0))
  initialised_comes (Made thing) comes (inl told) is_modelled some d stands = absurd (some (comes.1 is_modelled).none)
  initialised_comes DiskFailed comes (inl told) is_modelled some d stands = inl told.0
  initialised_comes (Damaged place) comes (inl told) is_modelled some d stands = absurd ((comes.1.2 is_modelled).none d stands)
  initialised_comes (Initialised thing) comes (inl told) is_modelled some d stands = inr (inl told.0)
  initialised_comes NoMemory comes (inl told) is_modelled some d stands = inr (inr (inr told.0))
  initialised_comes a comes (inl told) is_modelled some d stands = absurd comes

  pub init_parts : (a : Answer) → InitAnswer origin store a → IsPrinted printed result a → InitParts origin store printed result
  init_parts a comes told = record {
    which = answer_or_edge (InitAnswer origin store) printed result a comes told;
    done = done a comes told;
    done_comes = done_comes a comes told;
    failed = failed a comes told;
    damaged = damaged a comes told;
    damaged_comes = damaged_comes a comes told;
    initialised = initialised a comes told;
    initialised_comes = initialised_comes a comes told;
  }

-- the refusal of a store that stands for a device
pub names_comes : (origin : Origin) (store : Store) (d : Device) (a : Answer) → NamesThing d a → IsUnchanged store →
    (IsTrue store.is_modelled → HasEntry store.before × IsImageOf store.before d) → InitAnswer origin store a
names_comes origin store d (Initialised thing) names same found = (
  same,
  λ is_modelled. let f = found is_modelled in record {
    some = f.0;
    device = d;
    stands = f.1;
    origin = names.0;
    origin_is = names.1;
    thing_is =
        names.2;
  },
)
names_comes origin store d NoMemory names same found = same
names_comes origin store d a names same found = absurd names

pub names_keeps : (order : Order) (images : Image → Type 0) (seen : Image) (d : Device) (a : Answer) → NamesThing d a → status_of a ≡ status.Done →
    IsDurable order images seen
names_keeps order images seen d (Initialised thing) names done = cc
names_keeps order images seen d NoMemory names done = cc
names_keeps order images seen d a names done = absurd names
