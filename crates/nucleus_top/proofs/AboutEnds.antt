-- What each answer of `about` amounts to.
use Rattle.std.proofs.Common.{◌≡◌, ◌≢◌, ◌∙◌, ◌⊎◌, ◌++◌, ◌∷◌, [], inl, inr, ℕ, List, Bool, IsTrue, Option, Ok, Err, refl, sym, ap, subst}
use Rattle.std.specs.Prelude.{codes}
use Rattle.std.proofs.lemmas.List.{append-nil}
use Rattle.nuc_base.specs.declared.status.Status.{Status}
use Rattle.nuc_base.specs.declared.status.Status.TheVariants as status
use Rattle.disk_model.specs.Disk.{Image}
use Rattle.checkpoint_log.specs.Slots.{slots_none}
use Rattle.status_text.specs.Status.{line}
use Rattle.store_root.specs.Tallies.{TallyAnswer}
use Rattle.store_root.specs.declared.tally.Tally.{Tally}
use Rattle.store_root.specs.declared.tally.UnknownRecord.{UnknownRecord}
use Rattle.device.specs.Devices.{Device, no_device}
use Rattle.deploy_state.specs.declared.fault.LoadFault.{LoadFault}
use Rattle.deploy_state.specs.declared.fault.LoadFault.TheVariants as load
use Rattle.nucleus_top.specs.Abouts.{AboutAnswer, AboutParts, IsTold, IsUnread, TellsNoDevice, TellsProgram, TellsStore, TellsUnread}
use Rattle.nucleus_top.specs.Answers.{Store, Printed, IsPrinted, IsUnchanged, HasRisen, HasPrinted, IsOrFault, damaged_line, status_of}
use Rattle.nucleus_top.specs.Opening.{IsImageOf, HasEntry, OpenAnswer, StandsForNone}
use Rattle.nucleus_top.specs.declared.answer.Answer.{Answer}
use Rattle.nucleus_top.specs.declared.answer.Answer.TheVariants.{Made, Shown, Planned, Possible, Got, Drawn, Whole, Unplanned, DiskFailed, Damaged}
use Rattle.nucleus_top.specs.declared.answer.Answer.TheVariants.{Unreadable, NoMemory}
use Rattle.nucleus_top.proofs.Standing.{none_stands}
use Rattle.nucleus_top.proofs.Told.{answer_or_edge}

module _ (version : List ℕ) (store : Store) (tally : Tally) (same : IsUnchanged store)
    (counted : IsTrue store.is_modelled → TallyAnswer store.before (Ok tally)) where
  -- the text of the device for which the journal stands
  pub found_told : (d : Device) (a : Answer) → TellsStore version tally d a → (IsTrue store.is_modelled → HasEntry store.before × IsImageOf store.before d) →
      AboutAnswer version store a
  found_told d (Shown text) tells found = (
    same,
    λ is_modelled. inr (record {
      some = (found is_modelled).0;
      device = d;
      stands = (found is_modelled).1;
      records = tally.records;
      counted = (counted is_modelled).0;
      text_is = tells;
    }),
  )
  found_told d NoMemory tells found = same
  found_told d a tells found = absurd tells

  program_told : (a : Answer) → TellsProgram version a → (IsTrue store.is_modelled → slots_none store.before) → AboutAnswer version store a
  program_told (Shown text) tells none = (same, λ is_modelled. inl (none is_modelled, tells))
  program_told NoMemory tells none = same
  program_told a tells none = absurd tells

  unread_told : (at : ℕ) (a : Answer) → TellsUnread version at tally.unknown a → (IsTrue store.is_modelled → OpenAnswer store.before (Err (load.Damaged at))) →
      AboutAnswer version store a
  unread_told at (Unreadable text) tells damage = (
    same,
    record { at = at; unknown = tally.unknown; damage = damage; first = λ is_modelled. (counted is_modelled).1; text_is = tells },
  )
  unread_told at NoMemory tells damage = same
  unread_told at a tells damage = absurd tells

  -- what is told where it gives none
  pub fault_told : (fault : LoadFault) (a : Answer) → TellsNoDevice version tally.unknown fault a
      → (IsTrue store.is_modelled → OpenAnswer store.before (Err fault)) → (fault ≡ load.Disk → HasRisen store) → AboutAnswer version store a
  fault_told load.Disk a tells opens rose = subst (λ (x : Answer). AboutAnswer version store x) (sym tells) (same, rose refl)
  fault_told load.NotInitialised a tells opens rose = program_told a tells opens
  fault_told (load.Damaged at) a tells opens rose = unread_told at a tells opens
  fault_told load.NoMemory a tells opens rose = subst (λ (x : Answer). AboutAnswer version store x) (sym tells) same

-- the disk did not fail where the answer is another than that
pub other_told : (version : List ℕ) (unknown : Option UnknownRecord) (fault : LoadFault) (a : Answer) → TellsNoDevice version unknown fault a → a ≢ DiskFailed →
    fault ≢ load.Disk
other_told version unknown load.Disk a tells other is = other tells
other_told version unknown load.NotInitialised a tells other is = cc
other_told version unknown (load.Damaged at) a tells other is = cc
other_told version unknown load.NoMemory a tells other is = cc

-- what is done did not fail
pub done_unfailed : (a : Answer) → status_of a ≡ status.Done → a ≢ DiskFailed
done_unfailed a done failed = apart (sym (ap status_of failed) ∙ done)
  where
    apart : status.Disk ≡ status.Done → ⊥
    apart is = cc

-- the line of a damaged journal
pub damage_said : (place : List ℕ) → line (codes "refused 9 Damaged") (place ∷ []) ≡ damaged_line place
damage_said place = ap (λ (l : List ℕ). codes "refused 9 Damaged " ++ l) (ap (λ (l : List ℕ). l ++ codes "\n") (append-nil place))

-- the same answer of what the disk was before it was counted
pub counted_first : (version : List ℕ) (is_modelled : Bool) (start before after : Image) (first second last : ℕ) (a : Answer) → before ≡ start → second ≡ first
    → AboutAnswer version (record { is_modelled = is_modelled; before = before; after = after; faults_before = second; faults_after = last }) a
    → AboutAnswer version (record { is_modelled = is_modelled; before = start; after = after; faults_before = first; faults_after = last }) a
counted_first version is_modelled start before after first second last a same quiet comes =
    subst (λ (n : ℕ). AboutAnswer version (record { is_modelled = is_modelled; before = start; after = after; faults_before = n; faults_after = last }) a) quiet
    (subst (λ (i : Image). AboutAnswer version (record { is_modelled = is_modelled; before = i; after = after; faults_before = second; faults_after = last }) a)
    same comes)

module _ (version : List ℕ) (store : Store) (printed : Printed) (result : Status) where
  reads_only : (a : Answer) → AboutAnswer version store a → IsUnchanged store
  reads_only (Shown text) comes = comes.0
  reads_only (Unreadable text) comes = comes.0
  reads_only DiskFailed comes = comes.0
  reads_only NoMemory comes = comes
  reads_only a comes = absurd comes

  done : (a : Answer) → AboutAnswer version store a → IsPrinted printed result a → result ≡ status.Done → (text : List ℕ) ×
      (IsTrue store.is_modelled → IsTold store.before version text) × HasPrinted printed text
  done (Shown text) comes (inl told) is = (text, comes.1, told.1)
  done (Made thing) comes (inl told) is = absurd comes
  done (Got text) comes (inl told) is = absurd comes
  done (Drawn text) comes (inl told) is = absurd comes
  done (Planned text) comes (inl told) is = absurd comes
  done Possible comes (inl told) is = absurd comes
  done Whole comes (inl told) is = absurd comes
  done (Unplanned r text) comes (inl told) is = absurd comes
  done a comes (inl told) is = cc
  done a comes (inr told) is = cc

  none_comes : (a : Answer) → AboutAnswer version store a → IsPrinted printed result a → IsTrue store.is_modelled → slots_none store.before →
      IsOrFault result status.Done
  none_comes a comes (inr told) is_modelled holds_none = inr (inr (inl told.0))
  none_comes (Shown text) comes (inl told) is_modelled holds_none = inr (inl told.0)
  none_comes (Unreadable text) comes (inl told) is_modelled holds_none =
      absurd ((comes.1.damage is_modelled).none no_device (none_stands store.before holds_none))
  none_comes DiskFailed comes (inl told) is_modelled holds_none = inl told.0
  none_comes NoMemory comes (inl told) is_modelled holds_none = inr (inr (inr told.0))
  none_comes a comes (inl told) is_modelled holds_none = absurd comes

  done_comes : (a : Answer) → AboutAnswer version store a → IsPrinted printed result a → IsTrue store.is_modelled → HasEntry store.before → (d : Device) →
      IsImageOf store.before d → IsOrFault result status.Done
  done_comes a comes (inr told) is_modelled some d stands = inr (inr (inl told.0))
  done_comes (Shown text) comes (inl told) is_modelled some d stands = inr (inl told.0)
  done_comes (Unreadable text) comes (inl told) is_modelled some d stands = absurd ((comes.1.damage is_modelled).none d stands)
  done_comes DiskFailed comes (inl told) is_modelled some d stands = inl told.0
  done_comes NoMemory comes (inl told) is_modelled some d stands = inr (inr (inr told.0))
  done_comes a comes (inl told) is_modelled some d stands = absurd comes

  damaged : (a : Answer) → AboutAnswer version store a → IsPrinted printed result a → result ≡ status.Damaged → (text : List ℕ) × IsUnread store version text ×
      HasPrinted printed text
  damaged (Unreadable text) comes (inl told) is = (text, comes.1, told.1)
  damaged (Damaged place) comes (inl told) is = absurd comes
  damaged (Unplanned r text) comes (inl told) is = absurd comes
  damaged a comes (inl told) is = cc
  damaged a comes (inr told) is = cc

  -- the text of a journal without an entry, or of a device
  none_refused : (text : List ℕ) → StandsForNone store.before → IsTold store.before version text → ⊥
  none_refused text refuses (inl none) = refuses no_device (none_stands store.before none.0)
  none_refused text refuses (inr found) = refuses found.device found.stands

  damaged_comes : (a : Answer) → AboutAnswer version store a → IsPrinted printed result a → IsTrue store.is_modelled → StandsForNone store.before →
      IsOrFault result status.Damaged
  damaged_comes a comes (inr told) is_modelled refuses = inr (inr (inl told.0))
  damaged_comes (Shown text) comes (inl told) is_modelled refuses = absurd (none_refused text refuses (comes.1 is_modelled))
  damaged_comes (Unreadable text) comes (inl told) is_modelled refuses = inr (inl told.0)
  damaged_comes DiskFailed comes (inl told) is_modelled refuses = inl told.0
  damaged_comes NoMemory comes (inl told) is_modelled refuses = inr (inr (inr told.0))
  damaged_comes a comes (inl told) is_modelled refuses = absurd comes

  pub about_parts : (a : Answer) → AboutAnswer version store a → IsPrinted printed result a → AboutParts version store printed result
  about_parts a comes told = record {
    which = answer_or_edge (AboutAnswer version store) printed result a comes told;
    reads_only = reads_only a comes;
    done = done a comes told;
    none_comes = none_comes a comes told;
    done_comes = done_comes a comes told;
    damaged = damaged a comes told;
    damaged_comes = damaged_comes a comes told;
  }
