-- What each answer of `components` amounts to.
use Rattle.std.proofs.Common.{◌≡◌, ◌≢◌, ◌∙◌, ◌⊎◌, inl, inr, ℕ, List, [], Bool, true, false, IsTrue, Option, Some, None, refl, sym, ap, subst}
use Rattle.std.proofs.Common.{◌++◌, ◌≤◌, arith, drop, length, min, take}
use Rattle.std.proofs.lemmas.List.{length-take-le, take-append-le, take_all, take_min}
use Rattle.std.specs.Prelude.{IsUtf8, IfSome}
use Rattle.nuc_base.specs.declared.status.Status.{Status}
use Rattle.nuc_base.specs.declared.status.Status.TheVariants as status
use Rattle.disk_model.specs.Disk.{Image}
use Rattle.checkpoint_log.specs.Slots.{slots_none}
use Rattle.device.specs.Devices.{Device, no_device}
use Rattle.nucleus_top.specs.Answers.{Store, Printed, IsPrinted, IsUnchanged, HasPrinted, IsOrFault, damaged_line, none_line}
use Rattle.nucleus_top.specs.Components.{ComponentsAnswer, ComponentsParts, IsRunning, IsSilent, IsStopped, ListsStopped, RunningOutcome, SaysNone}
use Rattle.nucleus_top.specs.Components.{running_text}
use Rattle.nucleus_top.specs.Inits.{IsRefusedAt}
use Rattle.nucleus_top.specs.Looks.{LookAnswer}
use Rattle.nucleus_top.specs.Opening.{HasEntry, IsImageOf, StandsForNone}
use Rattle.nucleus_top.specs.declared.answer.Answer.{Answer}
use Rattle.nucleus_top.specs.declared.answer.Answer.TheVariants.{Made, Shown, Planned, Possible, Got, Drawn, Whole, Unplanned, DiskFailed, NotInitialised}
use Rattle.nucleus_top.specs.declared.answer.Answer.TheVariants.{Damaged, Unreadable, NoMemory}
use Rattle.nucleus_top.proofs.Looked.{TellsNone}
use Rattle.nucleus_top.proofs.Standing.{none_stands}
use Rattle.nucleus_top.proofs.Told.{answer_or_edge}

pub lists_none : (store : Store) → TellsNone ListsStopped store
lists_none store = record { disk_fails = λ d on. on; no_entry = λ d on. on; harmed = λ d place on. on }

-- ---- one read of a file

-- what a read from its beginning gives, by the answer of a disk
pub read_whole : (file old new : List ℕ) (most n : ℕ) → length old ≡ most → (n ≡ min (length old) (length file)) × (new ≡ take n file ++ drop n old) →
    take n new ≡ take most file
read_whole file old new most n long told =
    let within : n ≤ length file = omega (arith, told.0) in
    let piece : length (take n file) ≡ n = length-take-le n file within in
    ap (take n) told.1 ∙ take-append-le n (take n file) (drop n old) (omega (arith, piece)) ∙ take_all n (take n file) (omega (arith, piece))
    ∙ ap (λ (k : ℕ). take k file) (told.0 ∙ ap (λ (m : ℕ). min m (length file)) long) ∙ take_min most file

-- ---- how an answer comes

-- by what the journal stands for, where no other program says how the components stand
pub set_comes : (writer : Option Bool) (store : Store) (a : Answer) → LookAnswer store ListsStopped a → SaysNone writer store → ComponentsAnswer writer store a
set_comes writer store (Shown text) comes silent =
    (comes.0, inr (record { silent = silent; device = comes.1.0; found = comes.1.1; text_is = comes.1.2 }))
set_comes writer store DiskFailed comes silent = comes
set_comes writer store NotInitialised comes silent = (comes, silent)
set_comes writer store (Damaged place) comes silent = (comes, silent)
set_comes writer store NoMemory comes silent = comes
set_comes writer store a comes silent = absurd comes.1.2

-- by the lines of another program
pub running_comes : (writer : Option Bool) (store : Store) (text : List ℕ) → IsUnchanged store → IfSome writer (λ w. true ≡ w)
    → (IsTrue store.is_modelled → RunningOutcome (running_text store.before) (Some text)) → ComponentsAnswer writer store (Shown text)
running_comes writer store text same told runs = (
  same,
  inl (record {
    held = λ is. held writer told is;
    lines = λ is_modelled.
        let r = runs is_modelled in
        (r.0, (λ none. r.1 (sym r.0 ∙ none)), subst IsUtf8 (sym r.0) r.2);
  }),
)
  where
    held : (w : Option Bool) → IfSome w (λ x. true ≡ x) → w ≡ Some false → ⊥
    held None told is = cc
    held (Some true) told is = cc
    held (Some false) told is = cc

-- none holds the lock
pub unheld : (writer : Option Bool) (store : Store) → IfSome writer (λ w. false ≡ w) → SaysNone writer store
unheld None store told = λ is_modelled is. cc
unheld (Some true) store told = λ is_modelled is. absurd cc
unheld (Some false) store told = λ is_modelled is. cc

-- or it says nothing
pub unsaid : (writer : Option Bool) (store : Store) → (IsTrue store.is_modelled → RunningOutcome (running_text store.before) None) → SaysNone writer store
unsaid writer store none = λ is_modelled is. inr (none is_modelled)

-- the same of a disk as it was before a step that changed nothing
pub from_start : (P : Store → Type 0) (is_modelled : Bool) (start before after : Image) (first second last : ℕ) → before ≡ start → second ≡ first
    → P (record { is_modelled = is_modelled; before = before; after = after; faults_before = second; faults_after = last })
    → P (record { is_modelled = is_modelled; before = start; after = after; faults_before = first; faults_after = last })
from_start P is_modelled start before after first second last same quiet holds =
    subst (λ (n : ℕ). P (record { is_modelled = is_modelled; before = start; after = after; faults_before = n; faults_after = last })) quiet
    (subst (λ (i : Image). P (record { is_modelled = is_modelled; before = i; after = after; faults_before = second; faults_after = last })) same holds)

-- ---- what it amounts to

module _ (writer : Option Bool) (store : Store) (printed : Printed) (result : Status) where
  reads_only : (a : Answer) → ComponentsAnswer writer store a → IsUnchanged store
  reads_only (Shown text) comes = comes.0
  reads_only DiskFailed comes = comes.0
  reads_only NotInitialised comes = comes.0.0
  reads_only (Damaged place) comes = comes.0.0
  reads_only NoMemory comes = comes
  reads_only a comes = absurd comes

  done : (a : Answer) → ComponentsAnswer writer store a → IsPrinted printed result a → result ≡ status.Done → (text : List ℕ) ×
      (IsRunning writer store text ⊎ IsStopped writer store text) × HasPrinted printed text
  done (Shown text) comes (inl told) is = (text, comes.1, told.1)
  done (Made thing) comes (inl told) is = absurd comes
  done (Got text) comes (inl told) is = absurd comes
  done (Drawn text) comes (inl told) is = absurd comes
  done (Planned text) comes (inl told) is = absurd comes
  done Possible comes (inl told) is = absurd comes
  done Whole comes (inl told) is = absurd comes
  done (Unplanned r text) comes (inl told) is = absurd comes
  done a comes (inl told) is = cc
  done a comes (inr told) is = cc

  runs : (a : Answer) → ComponentsAnswer writer store a → IsPrinted printed result a → IsTrue store.is_modelled → writer ≡ Some true →
      (IsSilent writer store.before → ⊥) → IsOrFault result status.Done
  runs a comes (inr told) is_modelled held said = inr (inr (inl told.0))
  runs (Shown text) comes (inl told) is_modelled held said = inr (inl told.0)
  runs DiskFailed comes (inl told) is_modelled held said = inl told.0
  runs NotInitialised comes (inl told) is_modelled held said = absurd (said (comes.1 is_modelled held))
  runs (Damaged place) comes (inl told) is_modelled held said = absurd (said (comes.1 is_modelled held))
  runs NoMemory comes (inl told) is_modelled held said = inr (inr (inr told.0))
  runs a comes (inl told) is_modelled held said = absurd comes

  done_comes : (a : Answer) → ComponentsAnswer writer store a → IsPrinted printed result a → IsTrue store.is_modelled → HasEntry store.before → (d : Device) →
      IsImageOf store.before d → IsOrFault result status.Done
  done_comes a comes (inr told) is_modelled some d stands = inr (inr (inl told.0))
  done_comes (Shown text) comes (inl told) is_modelled some d stands = inr (inl told.0)
  done_comes DiskFailed comes (inl told) is_modelled some d stands = inl told.0
  done_comes NotInitialised comes (inl told) is_modelled some d stands = absurd (some (comes.0.1 is_modelled))
  done_comes (Damaged place) comes (inl told) is_modelled some d stands = absurd ((comes.0.1.2 is_modelled).none d stands)
  done_comes NoMemory comes (inl told) is_modelled some d stands = inr (inr (inr told.0))
  done_comes a comes (inl told) is_modelled some d stands = absurd comes

  none : (a : Answer) → ComponentsAnswer writer store a → IsPrinted printed result a → result ≡ status.NotInitialised →
      (IsTrue store.is_modelled → slots_none store.before) × SaysNone writer store × HasPrinted printed none_line
  none NotInitialised comes (inl told) is = (comes.0.1, comes.1, told.1)
  none (Unplanned r text) comes (inl told) is = absurd comes
  none a comes (inl told) is = cc
  none a comes (inr told) is = cc

  -- another program says nothing of them
  not_running : (text : List ℕ) → IsTrue store.is_modelled → IsSilent writer store.before → IsRunning writer store text → ⊥
  not_running text is_modelled (inl unheld) runs = runs.held unheld
  not_running text is_modelled (inr (inl empty)) runs = (runs.lines is_modelled).1 ((runs.lines is_modelled).0 ∙ empty)
  not_running text is_modelled (inr (inr other)) runs = other (subst IsUtf8 (runs.lines is_modelled).0 (runs.lines is_modelled).2)

  none_shown : (text : List ℕ) → IsTrue store.is_modelled → IsSilent writer store.before → slots_none store.before →
      IsRunning writer store text ⊎ IsStopped writer store text → ⊥
  none_shown text is_modelled silent holds_none (inl by) = not_running text is_modelled silent by
  none_shown text is_modelled silent holds_none (inr stopped) = (stopped.found is_modelled).0 holds_none

  none_comes : (a : Answer) → ComponentsAnswer writer store a → IsPrinted printed result a → IsTrue store.is_modelled → IsSilent writer store.before →
      slots_none store.before → IsOrFault result status.NotInitialised
  none_comes a comes (inr told) is_modelled silent holds_none = inr (inr (inl told.0))
  none_comes (Shown text) comes (inl told) is_modelled silent holds_none = absurd (none_shown text is_modelled silent holds_none comes.1)
  none_comes DiskFailed comes (inl told) is_modelled silent holds_none = inl told.0
  none_comes NotInitialised comes (inl told) is_modelled silent holds_none = inr (inl told.0)
  none_comes (Damaged place) comes (inl told) is_modelled silent holds_none =
      absurd ((comes.0.1.2 is_modelled).none no_device (none_stands store.before holds_none))
  none_comes NoMemory comes (inl told) is_modelled silent holds_none = inr (inr (inr told.0))
  none_comes a comes (inl told) is_modelled silent holds_none = absurd comes

  damaged : (a : Answer) → ComponentsAnswer writer store a → IsPrinted printed result a → result ≡ status.Damaged → (place : List ℕ) ×
      IsRefusedAt store place × SaysNone writer store × HasPrinted printed (damaged_line place)
  damaged (Damaged place) comes (inl told) is = (place, comes.0, comes.1, told.1)
  damaged (Unreadable text) comes (inl told) is = absurd comes
  damaged (Unplanned r text) comes (inl told) is = absurd comes
  damaged a comes (inl told) is = cc
  damaged a comes (inr told) is = cc

  refused_shown : (text : List ℕ) → IsTrue store.is_modelled → IsSilent writer store.before → StandsForNone store.before →
      IsRunning writer store text ⊎ IsStopped writer store text → ⊥
  refused_shown text is_modelled silent refuses (inl by) = not_running text is_modelled silent by
  refused_shown text is_modelled silent refuses (inr stopped) = refuses stopped.device (stopped.found is_modelled).1

  damaged_comes : (a : Answer) → ComponentsAnswer writer store a → IsPrinted printed result a → IsTrue store.is_modelled → IsSilent writer store.before →
      StandsForNone store.before → IsOrFault result status.Damaged
  damaged_comes a comes (inr told) is_modelled silent refuses = inr (inr (inl told.0))
  damaged_comes (Shown text) comes (inl told) is_modelled silent refuses = absurd (refused_shown text is_modelled silent refuses comes.1)
  damaged_comes DiskFailed comes (inl told) is_modelled silent refuses = inl told.0
  damaged_comes NotInitialised comes (inl told) is_modelled silent refuses =
      absurd (refuses no_device (none_stands store.before (comes.0.1 is_modelled)))
  damaged_comes (Damaged place) comes (inl told) is_modelled silent refuses = inr (inl told.0)
  damaged_comes NoMemory comes (inl told) is_modelled silent refuses = inr (inr (inr told.0))
  damaged_comes a comes (inl told) is_modelled silent refuses = absurd comes

  pub components_parts : (a : Answer) → ComponentsAnswer writer store a → IsPrinted printed result a → ComponentsParts writer store printed result
  components_parts a comes told = record {
    which = answer_or_edge (ComponentsAnswer writer store) printed result a comes told;
    reads_only = reads_only a comes;
    done = done a comes told;
    running_comes = runs a comes told;
    done_comes = done_comes a comes told;
    none = none a comes told;
    none_comes = none_comes a comes told;
    damaged = damaged a comes told;
    damaged_comes = damaged_comes a comes told;
  }
