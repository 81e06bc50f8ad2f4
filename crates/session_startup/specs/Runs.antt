-- Where a call is that brings items up.
use Rattle.std.specs.Prelude.{◌≡◌, ◌↔◌, ℕ, Bool, true, false, List, None, IsSome, Contains}
use Rattle.nuc_base.specs.declared.kinds.Step.{Step}
use Rattle.nuc_base.specs.declared.kinds.Exit.{Exit}
use Rattle.device.specs.Devices.{Device}
use Rattle.step_runner.specs.Entries.{Told}
use Rattle.components.specs.Components.{Components, owner}
use Rattle.components.specs.Turns.{IsQuiet}
use Rattle.components.specs.Acts.{OwesAt}
use Rattle.components.specs.Answers.{has_answered, living_numbers}
use Rattle.components.specs.Events.{heard_at}
use Rattle.histories.specs.Phases.{Phase, idle, booting, activating, backing, rolling, duty_of, current}
use Rattle.histories.specs.States.{SessionState}
use Rattle.histories.specs.Waits.{comes_up, has_three}
use Rattle.histories.specs.Courses.{IsStateOf}
use Rattle.law_supervisor.specs.Keeps.{IsSupervised}
use Rattle.law_supervisor.specs.Sound.{AreDistinct}

-- items come up
abbrev pub rises : Phase → Bool
rises idle = false
rises booting = false
rises activating = true
rises backing = false
rises rolling = true

-- The items of the stage come up, and no bootstrap is about.
pub record IsOn (p : SessionState) : Type 0 where
  pub phase : rises (duty_of p.device).phase ≡ true
  pub generation : p.generation ≡ current
  pub boot : p.boot ≡ None
  pub boot_end : p.boot_end ≡ None
  pub over : p.over ≡ false
  pub cut : p.cut ≡ false

-- At a turn's start: the supervisor may not know of the last moment yet.
pub record IsAtTurnStart (p : SessionState) (d : Device) (world : Components) (told : Told) (living : List ℕ) : Type 0 where
  pub stands : IsStateOf p d world told living
  pub on : IsOn p
  pub keeps : IsSupervised p.device p.world
  pub probed : p.probed ≡ false

-- Within a turn: the moment of the components is the runner's, and it was asked for where one is due.
pub record IsWithin (p : SessionState) (told : Told) (living : List ℕ) : Type 0 where
  pub on : IsOn p
  pub keeps : IsSupervised p.device p.world
  pub answered : has_answered p.world ≡ true
  pub moment : told.moment ≡ p.world.moment
  pub asked : told.asked ≡ p.fresh
  pub due : p.due ≡ true → p.fresh ≡ true
  pub children : (n : ℕ) → Contains living n ↔ IsSome (owner n p.world.parts)

-- the supervisor's components are those of the state
pub record IsInTurn (p : SessionState) (world : Components) (told : Told) (living : List ℕ) : Type 0 where
  pub within : IsWithin p told living
  pub probed : p.probed ≡ false
  pub world_is : world ≡ p.world

-- a failure was handed out, and is still to be recorded
pub record HasFailed (p : SessionState) (k : ℕ) (s : Step) (e : Exit) (world : Components) (told : Told) (living : List ℕ) : Type 0 where
  pub within : IsWithin p told living
  pub breaks : Bool
  pub owes : OwesAt p.world k s e breaks
  pub world_is : world ≡ heard_at k p.world

-- no act is left, and there is something to wait for
pub record IsReadyToWait (p : SessionState) (world : Components) (told : Told) (living : List ℕ) : Type 0 where
  pub runs : IsInTurn p world told living
  pub quiet : IsQuiet p.world
  pub work : comes_up (duty_of p.device).counts p ≡ true

-- no act is left, and whether a component failed three times
pub record HasNoActLeft (p : SessionState) (d : Device) (broken : Bool) (world : Components) (told : Told) (living : List ℕ) : Type 0 where
  pub runs : IsInTurn p world told living
  pub device_is : p.device ≡ d
  pub quiet : IsQuiet p.world
  pub counts : has_three (duty_of p.device).counts ≡ broken

-- Where a call gives up: its children live still, each is one of a component by the supervisor too, and none is cut yet.
pub record MayAbort (p : SessionState) (world : Components) (told : Told) (living : List ℕ) : Type 0 where
  pub moment : told.moment ≡ p.world.moment
  pub asked : told.asked ≡ p.fresh
  pub due : p.due ≡ true → p.fresh ≡ true
  pub boot : p.boot ≡ None
  pub boot_end : p.boot_end ≡ None
  pub over : p.over ≡ false
  pub cut : p.cut ≡ false
  pub differ : AreDistinct (living_numbers p.world.parts)
  pub owners : (n : ℕ) → owner n world.parts ≡ owner n p.world.parts
  pub children : (n : ℕ) → Contains living n ↔ IsSome (owner n p.world.parts)
