-- From where a call may give up.
use Rattle.std.specs.Prelude.{ℕ, List}
use Rattle.step_runner.specs.Entries.{Told}
use Rattle.components.specs.Components.{Components}
use Rattle.histories.specs.States.{SessionState}
use Rattle.session_startup.specs.Runs as rising
use Rattle.session_transitions.specs.Fails.{IsGivenUp}

-- among items that come up
pub quits_given_up : (p : SessionState) (world : Components) (told : Told) (living : List ℕ) → rising.MayAbort p world told living →
    IsGivenUp p world told living
quits_given_up p world told living q = record {
  moment = q.moment;
  asked = q.asked;
  boot = q.boot;
  boot_end = q.boot_end;
  over = q.over;
  cut = q.cut;
  differ = q.differ;
  owners = q.owners;
  children = q.children;
}
