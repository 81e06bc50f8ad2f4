-- What may befall components one after another: from the first change on, so that a row of them shows what can be reached.
use Rattle.std.specs.Prelude.{◌≡◌, ℕ, Bool, true, false, List, [], ◌∷◌, None, IsSome, ⊤}
use Rattle.std.specs.List.{list_any}
use Rattle.nuc_base.specs.declared.kinds.Exit.{Exit}
use Rattle.nuc_base.specs.declared.kinds.Step.{Step}
use Rattle.lifecycle.specs.declared.kinds.LifeEvent.{LifeEvent}
use Rattle.components.specs.Acts.{MayMove, MayKill, OwesAt, HasStart}
use Rattle.components.specs.Answers.{has_answered}
use Rattle.components.specs.Changes.{all_stopped, changed_to}
use Rattle.components.specs.Components.{Components, At, owner}
use Rattle.components.specs.Events.{started, refused, ended, killed, heard_at}
use Rattle.components.specs.Fitted.{Fitted}
use Rattle.components.specs.Lives.{lived_at}
use Rattle.components.specs.Turns.{IsNext, IsQuiet, owes}

pub data Deed : Type 0 where
  MoveDeed : (who : ℕ) (what : LifeEvent) → Deed  -- it begins, tries again, or is stopped with nothing to kill
  StartDeed : (who : ℕ) (of : Step) (number : ℕ) → Deed
  RefusalDeed : (who : ℕ) (of : Step) → Deed
  KillDeed : (number who : ℕ) (of : Step) → Deed
  HearDeed : (who : ℕ) (of : Step) (exit : Exit) (breaks : Bool) → Deed
  EndDeed : (number : ℕ) (exit : Exit) → Deed  -- a wait brought it
  ChangeDeed : (items : List Fitted) (steady : Bool) → Deed
  StopAllDeed : Deed

abbrev pub after : Components → Deed → Components
after w (MoveDeed k e) = lived_at k e w
after w (StartDeed k s n) = started k s n w
after w (RefusalDeed k s) = refused k s w
after w (KillDeed n k s) = killed n w
after w (HearDeed k s x b) = heard_at k w
after w (EndDeed n x) = ended n x w
after w (ChangeDeed items steady) = changed_to items [] steady w
after w StopAllDeed = all_stopped w

-- Acts come in their turn. A wait, and a change, come only where none may act.
abbrev pub IsPossibleDeed : Components → Deed → Type 0
IsPossibleDeed w (MoveDeed k e) = IsNext w k × MayMove w k e
IsPossibleDeed w (StartDeed k s n) = IsNext w k × At k (HasStart s) w.parts × (owner n w.parts ≡ None)
IsPossibleDeed w (RefusalDeed k s) = IsNext w k × At k (HasStart s) w.parts
IsPossibleDeed w (KillDeed n k s) = IsNext w k × MayKill w n k s
IsPossibleDeed w (HearDeed k s x b) = OwesAt w k s x b
IsPossibleDeed w (EndDeed n x) = IsQuiet w × (has_answered w ≡ true) × IsSome (owner n w.parts)
IsPossibleDeed w (ChangeDeed items steady) = IsQuiet w × (has_answered w ≡ true)
IsPossibleDeed w StopAllDeed = list_any owes w.parts ≡ false

abbrev pub left : Components → List Deed → Components
left w [] = w
left w (d ∷ ds) = left (after w d) ds

-- each in its turn, the first first
abbrev pub ArePossibleDeeds : Components → List Deed → Type 0
ArePossibleDeeds w [] = ⊤
ArePossibleDeeds w (d ∷ ds) = IsPossibleDeed w d × ArePossibleDeeds (after w d) ds
