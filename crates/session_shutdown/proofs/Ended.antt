-- All are to be stopped: the state behind it.
use Rattle.std.specs.Prelude.{ℕ, List, [], ◌∷◌, Option, IsSome, if◌then◌else◌}
use Rattle.std.proofs.Common.{◌≡◌, ◌↔◌, ◌⊎◌, refl, sym, ap, subst}
use Rattle.nuc_base.specs.declared.kinds.Step.{Step}
use Rattle.device.specs.Devices.{Device}
use Rattle.step_runner.specs.Entries.{Told}
use Rattle.step_runner.specs.declared.entries.RunnerEntry.{RunnerEntry}
use Rattle.components.specs.Components.{Components, owner}
use Rattle.components.specs.Changes.{all_stopped}
use Rattle.histories.specs.Phases.{Phase, idle, booting, activating, backing, rolling, is_idle, duty_of, Duty, Generation, previous, draining, current}
use Rattle.histories.specs.Phases.{shutting_down}
use Rattle.histories.specs.TraceEvents.{StopsAll}
use Rattle.histories.specs.States.{SessionState, leaves}
use Rattle.histories.specs.Follows.{MayStopAll, IsBootChild}
use Rattle.session_boots.specs.Traces.{ActTrace}
use Rattle.session_boots.proofs.Acting.{grows_none}
use Rattle.law_supervisor.specs.Keeps.{HasNoneOwed}
use Rattle.law_supervisor.specs.Sound.{IsOrderly}
use Rattle.session_acts.proofs.Entering.{never}
use Rattle.session_shutdown.specs.Leaves.{AreLeaving}
use Rattle.session_shutdown.specs.Runs.{IsAtTurnStart, IsGoing}
use Rattle.session_shutdown.specs.Stops.{MayStop}
use Rattle.law_supervisor.proofs.Stopped.{stopped_owner}
use Rattle.session_shutdown.proofs.Asked.{stopped_answered}

goes : (d : Duty) (f : Phase) (c : Generation) (p : SessionState) → MayStopAll d f c p → IsGoing f (if is_idle f then shutting_down else draining)
goes d idle c p may = refl
goes d booting c p may = refl
goes d activating previous p may = absurd may
goes d activating draining p may = absurd may
goes d activating current p may = absurd may
goes d activating shutting_down p may = absurd may
goes d backing c p may = refl
goes d rolling c p may = refl

lives_on : (n : ℕ) (o o2 : Option (ℕ × Step)) (B : Type 0) → o2 ≡ o → (IsSome o ⊎ B) ↔ (IsSome o2 ⊎ B)
lives_on n o o2 B is = subst (λ (x : Option (ℕ × Step)). (IsSome o ⊎ B) ↔ (IsSome x ⊎ B)) (sym is) ((λ h. h), (λ h. h))

through : {A B C : Type 0} → A ↔ B → B ↔ C → A ↔ C
through e f = ((λ h. f.0 (e.0 h)), (λ h. e.1 (f.1 h)))

pub stop_acts : (p : SessionState) (d : Device) (world : Components) (told : Told) (living : List ℕ) (list : Option (List RunnerEntry)) →
    MayStop p d world told living → ActTrace p (StopsAll ∷ []) list list
stop_acts p d world told living list m = record {
  proper = ((m.may, (λ cut. absurd (never p.cut m.cut cut)), m.over), tt);
  none = refl;
  list = grows_none list list refl;
  device = refl;
}

pub stop_comes : ((w : Components) → IsOrderly w → HasNoneOwed w → AreLeaving (all_stopped w)) →
    (p : SessionState) (d : Device) (world : Components) (told : Told)
    (living : List ℕ) → MayStop p d world told living → IsAtTurnStart (leaves p StopsAll) d (all_stopped world) told living
stop_comes law p d world told living m =
    let s = m.stands in
    record {
      stands = record {
        device_is = s.device_is;
        world_is = ap (λ (w : Components). all_stopped w) s.world_is;
        answered = stopped_answered world s.answered;
        not_before = s.not_before;
        asked = s.asked;
        children = λ n. through (s.children n) (lives_on n (owner n p.world.parts) (owner n (all_stopped p.world).parts) (IsBootChild n p)
            (stopped_owner n p.world));
      };
      on = record {
        going = goes (duty_of p.device) (duty_of p.device).phase p.generation p m.may;
        boot = m.boot;
        boot_end = m.boot_end;
        over = m.over;
        cut = m.cut;
      };
      keeps = law p.world m.orderly m.owed;
      probed = refl;
    }
