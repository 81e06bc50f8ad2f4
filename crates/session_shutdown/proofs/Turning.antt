-- What a turn in which all are stopped leaves.
use Rattle.std.specs.Prelude.{ℕ, Bool, true, false, List}
use Rattle.std.proofs.Common.{◌≡◌, ◌∙◌, sym, ap}
use Rattle.device.specs.Devices.{Device}
use Rattle.step_runner.specs.Entries.{Told}
use Rattle.components.specs.Components.{Components, is_stopped}
use Rattle.histories.specs.States.{SessionState}
use Rattle.session_boots.proofs.Still.{childless}
use Rattle.session_shutdown.specs.Runs.{ActLeft, IsAtTurnStart, IsReadyToWait}
use Rattle.session_shutdown.specs.Stops.{HasStopped, TurnLeft}
use Rattle.session_shutdown.proofs.Entering.{comes_of}

-- ---- the end of a turn

pub has_stopped : (q : SessionState) (d : Device) (world : Components) (told : Told) (living : List ℕ) (none stopped : Bool) →
    ActLeft q none world told living → none ≡ true → q.device ≡ d → stopped ≡ is_stopped world → stopped ≡ true → HasStopped q d world told living
has_stopped q d world told living none stopped a all device is yes_is =
    let w = a.runs.within in
    let done : is_stopped q.world ≡ true = sym (ap (λ (v : Components). is_stopped v) a.runs.world_is) ∙ sym is ∙ yes_is in
    record {
      stands = (comes_of q d world told living a.runs device).stands;
      stopped = done;
      quiet = a.quiet all;
      going = w.on.going;
      orderly = w.keeps.orderly;
      bare = record { parts = childless q.world done; boot = w.on.boot };
      boot_end = w.on.boot_end;
      probed = a.runs.probed;
      over = w.on.over;
      cut = w.on.cut;
    }

pub sits : (q : SessionState) (world : Components) (told : Told) (living : List ℕ) (none stopped : Bool) → ActLeft q none world told living → none ≡ true →
    stopped ≡ is_stopped world → stopped ≡ false → IsReadyToWait q world told living
sits q world told living none stopped a all is no_is = record {
  runs = a.runs;
  quiet = a.quiet all;
  stands = sym (ap (λ (v : Components). is_stopped v) a.runs.world_is) ∙ sym is ∙ no_is;
}

-- ---- whether none stands

pub is_on : (b : Bool) (q : SessionState) (d : Device) (world : Components) (told : Told) (living : List ℕ) → b ≡ false → TurnLeft b q d world told living →
    IsAtTurnStart q d world told living
is_on true q d world told living is t = absurd cc
is_on false q d world told living is t = t

pub is_stopped_left : (b : Bool) (q : SessionState) (d : Device) (world : Components) (told : Told) (living : List ℕ) → b ≡ true →
    TurnLeft b q d world told living → HasStopped q d world told living
is_stopped_left true q d world told living is t = t
is_stopped_left false q d world told living is t = absurd cc

pub apart : true ≡ false → ⊥
apart is = absurd cc
