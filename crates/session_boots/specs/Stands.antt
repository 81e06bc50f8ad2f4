-- Where a stage begins, and where a call is that runs bootstraps.
use Rattle.std.specs.Prelude.{◌≡◌, ℕ, true, false, List, None, if◌then◌else◌}
use Rattle.device.specs.Devices.{Device}
use Rattle.step_runner.specs.Entries.{Told}
use Rattle.components.specs.Components.{Components, is_stopped}
use Rattle.components.specs.Turns.{IsQuiet}
use Rattle.histories.specs.Phases.{Generation, previous, draining}
use Rattle.histories.specs.States.{SessionState}
use Rattle.histories.specs.Courses.{IsStateOf}

-- ---- where a stage begins

-- those that stand are to be stopped before the first bootstrap; where none stands, all are stopped already
abbrev pub generation_of : Components → Generation
generation_of w = if is_stopped w then draining else previous

-- The stage begins, and nothing of it was done. Whether or not components stand, none may act.
pub record IsOpened (p : SessionState) (d : Device) (world : Components) (told : Told) (living : List ℕ) : Type 0 where
  pub stands : IsStateOf p d world told living
  pub quiet : IsQuiet p.world
  pub generation : p.generation ≡ generation_of p.world
  pub boot : p.boot ≡ None
  pub boot_end : p.boot_end ≡ None
  pub probed : p.probed ≡ false
  pub over : p.over ≡ false
  pub cut : p.cut ≡ false

-- ---- where bootstraps run

-- The components are those of the world, stopped, and none may act.
pub record IsStill (p : SessionState) : Type 0 where
  pub stopped : is_stopped p.world ≡ true
  pub quiet : IsQuiet p.world
  pub generation : p.generation ≡ draining
  pub cut : p.cut ≡ false

-- No bootstrap lives, and every end is recorded.
pub record IsBetween (p : SessionState) (d : Device) (world : Components) (told : Told) (living : List ℕ) : Type 0 where
  pub stands : IsStateOf p d world told living
  pub still : IsStill p
  pub boot : p.boot ≡ None
  pub boot_end : p.boot_end ≡ None
  pub probed : p.probed ≡ false

-- so it is, and the call goes on
pub record IsAtBootStage (p : SessionState) (d : Device) (world : Components) (told : Told) (living : List ℕ) : Type 0 where
  pub between : IsBetween p d world told living
  pub over : p.over ≡ false
