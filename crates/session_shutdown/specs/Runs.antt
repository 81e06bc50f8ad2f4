-- Where a call is that stops all components.
use Rattle.std.specs.Prelude.{◌≡◌, ◌↔◌, ℕ, Bool, true, false, List, None, IsSome, Contains}
use Rattle.device.specs.Devices.{Device}
use Rattle.step_runner.specs.Entries.{Told}
use Rattle.components.specs.Components.{Components, owner, is_stopped}
use Rattle.components.specs.Turns.{IsQuiet}
use Rattle.components.specs.Answers.{has_answered}
use Rattle.histories.specs.Phases.{Phase, idle, booting, activating, backing, rolling, duty_of, Generation, draining, shutting_down}
use Rattle.histories.specs.States.{SessionState}
use Rattle.histories.specs.Courses.{IsStateOf}
use Rattle.session_shutdown.specs.Leaves.{AreLeaving}

-- Who the components are while all are stopped. The plan's items are not all stopped while they come up.
abbrev pub IsGoing : Phase → Generation → Type 0
IsGoing idle c = c ≡ shutting_down
IsGoing booting c = c ≡ draining
IsGoing activating c = ⊥
IsGoing backing c = c ≡ draining
IsGoing rolling c = c ≡ draining

-- All components are to be stopped, and no bootstrap is about.
pub record IsOn (p : SessionState) : Type 0 where
  pub going : IsGoing (duty_of p.device).phase p.generation
  pub boot : p.boot ≡ None
  pub boot_end : p.boot_end ≡ None
  pub over : p.over ≡ false
  pub cut : p.cut ≡ false

-- At a turn's start: the supervisor may not know of the last moment yet.
pub record IsAtTurnStart (p : SessionState) (d : Device) (world : Components) (told : Told) (living : List ℕ) : Type 0 where
  pub stands : IsStateOf p d world told living
  pub on : IsOn p
  pub keeps : AreLeaving p.world
  pub probed : p.probed ≡ false

-- Within a turn: the moment of the components is the runner's, and it was asked for where one is due.
pub record IsWithin (p : SessionState) (told : Told) (living : List ℕ) : Type 0 where
  pub on : IsOn p
  pub keeps : AreLeaving p.world
  pub answered : has_answered p.world ≡ true
  pub moment : told.moment ≡ p.world.moment
  pub asked : told.asked ≡ p.fresh
  pub due : p.due ≡ true → p.fresh ≡ true
  pub children : (n : ℕ) → Contains living n ↔ IsSome (owner n p.world.parts)

-- the supervisor's components are those of the state
pub record IsInTurn (p : SessionState) (world : Components) (told : Told) (living : List ℕ) : Type 0 where
  pub within : IsWithin p told living
  pub probed : p.probed ≡ false
  pub world_is : world ≡ p.world

-- no act is left where that was told
pub record ActLeft (q : SessionState) (none : Bool) (world : Components) (told : Told) (living : List ℕ) : Type 0 where
  pub runs : IsInTurn q world told living
  pub quiet : none ≡ true → IsQuiet q.world

-- no act is left, and one still stands
pub record IsReadyToWait (p : SessionState) (world : Components) (told : Told) (living : List ℕ) : Type 0 where
  pub runs : IsInTurn p world told living
  pub quiet : IsQuiet p.world
  pub stands : is_stopped p.world ≡ false
