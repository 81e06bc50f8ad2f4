-- What a command comes to that looks at the device for which the journal stands.
use Rattle.std.proofs.Common.{◌≡◌, ◌∙◌, ◌⊎◌, inl, inr, ℕ, List, IsTrue, refl, sym}
use Rattle.nuc_base.specs.declared.status.Status.{Status}
use Rattle.nuc_base.specs.declared.status.Status.TheVariants as status
use Rattle.checkpoint_log.specs.Slots.{slots_none}
use Rattle.device.specs.Devices.{Device, no_device}
use Rattle.nucleus_top.specs.Answers.{Store, Printed, IsPrinted, IsUnchanged, HasPrinted, IsOrFault, none_line, damaged_line}
use Rattle.nucleus_top.specs.Drives.{RefusedParts}
use Rattle.nucleus_top.specs.Inits.{IsRefusedAt}
use Rattle.nucleus_top.specs.Looks.{LookAnswer}
use Rattle.nucleus_top.specs.Opening.{StandsForNone}
use Rattle.nucleus_top.specs.Planning.{IsFound}
use Rattle.nucleus_top.specs.Refusing.{NoDeviceAnswer}
use Rattle.nucleus_top.specs.declared.answer.Answer.{Answer}
use Rattle.nucleus_top.specs.declared.answer.Answer.TheVariants.{Unplanned, DiskFailed, NotInitialised, Damaged, Unreadable, NoMemory}
use Rattle.nucleus_top.proofs.Standing.{none_stands}
use Rattle.nucleus_top.proofs.Unrefused.{no_refusal}

module _ (On : Device → Answer → Type 0) (store : Store) where
  pub refused_looks : (a : Answer) → NoDeviceAnswer store a → LookAnswer store On a
  refused_looks DiskFailed r = r
  refused_looks NotInitialised r = r
  refused_looks (Damaged place) r = r
  refused_looks NoMemory r = r
  refused_looks a r = absurd r

  -- where it never says of a device what the journal's refusals say
  pub record TellsNone : Type 0 where
    pub disk_fails : (d : Device) → On d DiskFailed → ⊥
    pub no_entry : (d : Device) → On d NotInitialised → ⊥
    pub harmed : (d : Device) (place : List ℕ) → On d (Damaged place) → ⊥

  pub found_looks : TellsNone → (d : Device) (a : Answer) → IsUnchanged store → IsFound store d → On d a → LookAnswer store On a
  found_looks tells d DiskFailed same found on = absurd (tells.disk_fails d on)
  found_looks tells d NotInitialised same found on = absurd (tells.no_entry d on)
  found_looks tells d (Damaged place) same found on = absurd (tells.harmed d place on)
  found_looks tells d NoMemory same found on = same
  found_looks tells d a same found on = (same, (d, found, on))

  pub reads_only : (a : Answer) → LookAnswer store On a → IsUnchanged store
  reads_only DiskFailed comes = comes.0
  reads_only NotInitialised comes = comes.0
  reads_only (Damaged place) comes = comes.0
  reads_only NoMemory comes = comes
  reads_only a comes = comes.0

  -- where it never is what `about` alone tells of a damaged journal
  module _ (readable : (d : Device) (text : List ℕ) → On d (Unreadable text) → ⊥) (printed : Printed) (result : Status) where
    none : (a : Answer) → LookAnswer store On a → IsPrinted printed result a → result ≡ status.NotInitialised →
        (IsTrue store.is_modelled → slots_none store.before) × HasPrinted printed none_line
    none NotInitialised comes (inl told) is = (comes.1, told.1)
    none (Unplanned r text) comes (inl told) is = absurd (no_refusal r status.NotInitialised refl (sym told.0 ∙ is))
    none a comes (inl told) is = cc
    none a comes (inr told) is = cc

    none_comes : (a : Answer) → LookAnswer store On a → IsPrinted printed result a → IsTrue store.is_modelled → slots_none store.before →
        IsOrFault result status.NotInitialised
    none_comes a comes (inr told) is_modelled holds_none = inr (inr (inl told.0))
    none_comes DiskFailed comes (inl told) is_modelled holds_none = inl told.0
    none_comes NotInitialised comes (inl told) is_modelled holds_none = inr (inl told.0)
    none_comes (Damaged place) comes (inl told) is_modelled holds_none = absurd ((comes.1.2 is_modelled).none no_device (none_stands store.before holds_none))
    none_comes NoMemory comes (inl told) is_modelled holds_none = inr (inr (inr told.0))
    none_comes a comes (inl told) is_modelled holds_none = absurd ((comes.1.1 is_modelled).0 holds_none)

    damaged : (a : Answer) → LookAnswer store On a → IsPrinted printed result a → result ≡ status.Damaged → (place : List ℕ) × IsRefusedAt store place ×
        HasPrinted printed (damaged_line place)
    damaged (Damaged place) comes (inl told) is = (place, comes, told.1)
    damaged (Unreadable text) comes (inl told) is = absurd (readable comes.1.0 text comes.1.2)
    damaged (Unplanned r text) comes (inl told) is = absurd (no_refusal r status.Damaged refl (sym told.0 ∙ is))
    damaged a comes (inl told) is = cc
    damaged a comes (inr told) is = cc

    damaged_comes : (a : Answer) → LookAnswer store On a → IsPrinted printed result a → IsTrue store.is_modelled → StandsForNone store.before →
        IsOrFault result status.Damaged
    damaged_comes a comes (inr told) is_modelled refuses = inr (inr (inl told.0))
    damaged_comes DiskFailed comes (inl told) is_modelled refuses = inl told.0
    damaged_comes NotInitialised comes (inl told) is_modelled refuses = absurd (refuses no_device (none_stands store.before (comes.1 is_modelled)))
    damaged_comes (Damaged place) comes (inl told) is_modelled refuses = inr (inl told.0)
    damaged_comes NoMemory comes (inl told) is_modelled refuses = inr (inr (inr told.0))
    damaged_comes a comes (inl told) is_modelled refuses = absurd (refuses comes.1.0 (comes.1.1 is_modelled).1)

    pub looked_parts : (a : Answer) → LookAnswer store On a → IsPrinted printed result a → RefusedParts store printed result
    looked_parts a comes told = record {
      none = none a comes told;
      none_comes = none_comes a comes told;
      damaged = damaged a comes told;
      damaged_comes = damaged_comes a comes told;
    }
