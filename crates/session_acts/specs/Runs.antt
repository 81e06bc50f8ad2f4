-- Where a call is that takes acts, whatever its stage is.
use Rattle.std.specs.Prelude.{◌≡◌, ◌⊎◌, ◌↔◌, ℕ, Bool, true, false, List, None, IsSome, Contains}
use Rattle.nuc_base.specs.declared.kinds.Step.{Step}
use Rattle.nuc_base.specs.declared.kinds.Exit.{Exit}
use Rattle.device.specs.Devices.{Device}
use Rattle.step_runner.specs.Entries.{Told}
use Rattle.components.specs.Components.{Components, At, owner}
use Rattle.components.specs.Turns.{IsNext, IsQuiet}
use Rattle.components.specs.Acts.{HasStart, OwesAt}
use Rattle.components.specs.Answers.{has_answered}
use Rattle.components.specs.Events.{handed_at, heard_at}
use Rattle.histories.specs.Phases.{duty_of}
use Rattle.histories.specs.States.{SessionState}
use Rattle.histories.specs.Follows.{HasStep}
use Rattle.histories.specs.Waits.{may_drive}
use Rattle.histories.specs.Courses.{IsStateOf}
use Rattle.law_supervisor.specs.Sound.{IsOrderly}
use Rattle.session_acts.specs.declared.acts.Did.{Did}
use Rattle.session_acts.specs.declared.acts.Did.TheVariants as did

-- Components may act, and no bootstrap is about.
pub record IsDriving (p : SessionState) : Type 0 where
  pub drives : may_drive (duty_of p.device).phase p.generation p.serves ≡ true
  pub boot : p.boot ≡ None
  pub boot_end : p.boot_end ≡ None
  pub over : p.over ≡ false
  pub cut : p.cut ≡ false

-- At a turn's start: the supervisor may not know of the last moment yet.
pub record IsAtTurnStart (p : SessionState) (d : Device) (world : Components) (told : Told) (living : List ℕ) : Type 0 where
  pub stands : IsStateOf p d world told living
  pub on : IsDriving p
  pub orderly : IsOrderly p.world

-- Within a turn: the moment of the components is the runner's, and it was asked for where one is due.
pub record IsWithin (p : SessionState) (told : Told) (living : List ℕ) : Type 0 where
  pub on : IsDriving p
  pub orderly : IsOrderly p.world
  pub answered : has_answered p.world ≡ true
  pub moment : told.moment ≡ p.world.moment
  pub asked : told.asked ≡ p.fresh
  pub due : p.due ≡ true → p.fresh ≡ true
  pub children : (n : ℕ) → Contains living n ↔ IsSome (owner n p.world.parts)

-- the supervisor's components are those of the state
pub record IsInTurn (p : SessionState) (world : Components) (told : Told) (living : List ℕ) : Type 0 where
  pub within : IsWithin p told living
  pub probed : p.probed ≡ false
  pub world_is : world ≡ p.world

-- the start of a step was handed out
pub record IsStarting (p : SessionState) (k : ℕ) (s : Step) (world : Components) (told : Told) (living : List ℕ) : Type 0 where
  pub within : IsWithin p told living
  pub probed : p.probed ≡ false
  pub world_is : world ≡ handed_at k p.world
  pub next : IsNext p.world k
  pub start : At k (HasStart s) p.world.parts

-- so it was, and the step needs no probe, or was probed and is not to be skipped
pub record MayLaunch (p : SessionState) (k : ℕ) (s : Step) (world : Components) (told : Told) (living : List ℕ) : Type 0 where
  pub within : IsWithin p told living
  pub world_is : world ≡ handed_at k p.world
  pub next : IsNext p.world k
  pub start : At k (HasStart s) p.world.parts
  pub asked : At k (λ q. HasStep q s (λ m. (m.skip ≡ None) ⊎ (p.probed ≡ true))) p.world.parts

-- a failure was handed out, of which nothing was recorded or said yet
pub record HasFailed (p : SessionState) (k : ℕ) (s : Step) (e : Exit) (world : Components) (told : Told) (living : List ℕ) : Type 0 where
  pub within : IsWithin p told living
  pub breaks : Bool
  pub owes : OwesAt p.world k s e breaks
  pub world_is : world ≡ heard_at k p.world

-- what an act leaves
abbrev pub DidLeave : Did → SessionState → Components → Told → List ℕ → Type 0
DidLeave did.Nothing p world told living = IsInTurn p world told living × IsQuiet p.world
DidLeave did.Something p world told living = IsInTurn p world told living
DidLeave (did.Failed k s e) p world told living = HasFailed p k s e world told living
