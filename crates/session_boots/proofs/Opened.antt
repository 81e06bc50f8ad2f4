-- Where bootstraps may run, a stage may begin.
use Rattle.std.specs.Prelude.{ℕ, true, List}
use Rattle.std.proofs.Common.{◌≡◌, ◌∙◌, refl, sym}
use Rattle.device.specs.Devices.{Device}
use Rattle.step_runner.specs.Entries.{Told}
use Rattle.components.specs.Components.{Components, is_stopped}
use Rattle.histories.specs.Phases.{draining}
use Rattle.histories.specs.States.{SessionState}
use Rattle.session_boots.specs.Stands.{IsAtBootStage, IsOpened, generation_of}

pub generation_stopped : (w : Components) → is_stopped w ≡ true → generation_of w ≡ draining
generation_stopped w stopped = rw stopped refl

pub opened_at : (p : SessionState) (d : Device) (world : Components) (told : Told) (living : List ℕ) → IsAtBootStage p d world told living →
    IsOpened p d world told living
opened_at p d world told living f =
    let b = f.between in
    record {
      stands = b.stands;
      quiet = b.still.quiet;
      generation = b.still.generation ∙ sym (generation_stopped p.world b.still.stopped);
      boot = b.boot;
      boot_end = b.boot_end;
      probed = b.probed;
      over = f.over;
      cut = b.still.cut;
    }

-- and where none stands, bootstraps may run
pub stopped_at : (p : SessionState) (d : Device) (world : Components) (told : Told) (living : List ℕ) → IsOpened p d world told living →
    is_stopped p.world ≡ true → IsAtBootStage p d world told living
stopped_at p d world told living o stopped = record {
  between = record {
    stands = o.stands;
    still = record { stopped = stopped; quiet = o.quiet; generation = o.generation ∙ generation_stopped p.world stopped; cut = o.cut };
    boot = o.boot;
    boot_end = o.boot_end;
    probed = o.probed;
  };
  over = o.over;
}
