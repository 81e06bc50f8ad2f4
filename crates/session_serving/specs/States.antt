-- Where a call that serves is.
use Rattle.std.specs.Prelude.{◌≡◌, ℕ, true, List, Some, IfSome}
use Rattle.device.specs.Devices.{Device}
use Rattle.step_runner.specs.Entries.{Told}
use Rattle.components.specs.Components.{Components}
use Rattle.components.specs.Turns.{IsQuiet}
use Rattle.histories.specs.Courses.{IsStart}
use Rattle.histories.specs.Follows.{MayChangeIn}
use Rattle.histories.specs.Phases.{idle}
use Rattle.histories.specs.States.{SessionState}
use Rattle.histories.specs.TraceEvents.{Answer, is_document}
use Rattle.law_termination.specs.Drives.{AreDriven}
use Rattle.session_boots.specs.Stands.{IsAtBootStage}
use Rattle.session_acts.specs.Runs.{IsInTurn}
use Rattle.session_steady.specs.Serves.{IsSteady}
use Rattle.session_transitions.specs.Enters.{RunOn}
use Rattle.session.specs.Parts.{IsReturned}

-- The components while no deployment is driven: loops over them end, and each runs its item as the item's recipe says for the
-- device's platform.
pub record AreUp (d : Device) (w : Components) : Type 0 where
  pub drives : AreDriven w
  pub steady : w.steady ≡ true
  pub made : RunOn d w.parts

-- Nothing is pending, and the set is to be brought up: at the beginning, or behind a deployment that left none of it.
pub record IsUnopened (p : SessionState) (d : Device) (world : Components) (told : Told) (living : List ℕ) : Type 0 where
  pub returned : IsReturned p d world told living
  pub serves : p.serves ≡ true
  pub may : MayChangeIn idle p.generation p
  pub done : IfSome p.answer (λ a. is_document a ≡ true)

-- the inbox gave this answer, of which nothing was done yet
pub record IsAsked (answer : Answer) (p : SessionState) (d : Device) (world : Components) (told : Told) (living : List ℕ) : Type 0 where
  pub device_is : p.device ≡ d
  pub steady : IsSteady p
  pub answer_is : p.answer ≡ Some answer
  pub turn : IsInTurn p world told living
  pub quiet : IsQuiet p.world

-- the call begins, and may ask its inbox so often
pub record IsBegun (p : SessionState) (turns : ℕ) (d : Device) (world : Components) (told : Told) (living : List ℕ) : Type 0 where
  pub stage : IsAtBootStage p d world told living
  pub start : IsStart p
  pub serves : p.serves ≡ true
  pub turns_are : p.turns ≡ turns
