-- All components are stopped between two stages.
use Rattle.std.specs.Prelude.{ℕ, Bool, true, false, List, Option, Some, None, IsSome, if◌then◌else◌}
use Rattle.std.specs.Option.{IsSomeAnd}
use Rattle.std.proofs.Common.{◌≡◌, ◌≤◌, ◌∙◌, refl, sym, ap, subst}
use Rattle.std.proofs.lemmas.Bool.{false≢true}
use Rattle.disk_model.specs.Disk.{Image}
use Rattle.device.specs.Devices.{Device, Pending}
use Rattle.device.specs.declared.staged.Stage.{Stage}
use Rattle.device.specs.declared.staged.Stage.TheVariants as stages
use Rattle.deploy_state.specs.States.{OwnsBrokenOff, IsIn, backing_device, broken_device, rolling_device}
use Rattle.deploy_state.specs.declared.state.BrokeOff.{BrokeOff}
use Rattle.deploy_state.specs.declared.state.BrokeOff.TheVariants as broken
use Rattle.step_runner.specs.Entries.{Told}
use Rattle.components.specs.Components.{Components, is_stopped}
use Rattle.law_supervisor.specs.Sound.{IsOrderly}
use Rattle.histories.specs.Phases.{Duty, Generation, Phase, activating, backing, booting, duty_in, duty_of, idle, is_idle, previous, draining, rolling}
use Rattle.histories.specs.States.{SessionState}
use Rattle.histories.specs.Follows.{MayClear, MayStopAll}
use Rattle.session_boots.specs.Stands.{IsAtBootStage, IsOpened, generation_of}
use Rattle.session_transitions.proofs.Rising.{orderly_at}
use Rattle.session_transitions.specs.Fails.{IsAtRollbackStart}
use Rattle.session_shutdown.specs.Runs.{IsAtTurnStart, IsGoing}
use Rattle.session_shutdown.specs.Stops.{HasStopped, MayStop}

-- ---- a deployment is pending

abbrev pends : Device → Option Pending → Device
pends d o = record d { pending = o }

busy_at : (d : Device) (q : Pending) (s : Stage) → is_idle (duty_in d (record q { stage = s })).phase ≡ false
busy_at d q stages.Booting = refl
busy_at d q stages.Activating = refl
busy_at d q stages.Backing = refl
busy_at d q stages.Rolling = refl

pub busy_in : (s : Stage) (d : Device) → IsIn s d → is_idle (duty_of d).phase ≡ false
busy_in s d is = by d.pending is
  where
    by : (o : Option Pending) → IsSomeAnd o (λ q. q.stage ≡ s) → is_idle (duty_of (pends d o)).phase ≡ false
    by None h = absurd h
    by (Some q) h = busy_at (pends d (Some q)) q q.stage

-- the way back has begun
pub broken_busy : {J D : Type 0} (is_modelled : Bool) (may_leave : D → Image → Type 0) (stands : J → Image → List (List ℕ) → Type 0) (end : J → ℕ)
    (b : BrokeOff J) (disk : D) → OwnsBrokenOff is_modelled may_leave stands end b disk
    → is_idle (duty_of (broken_device b)).phase ≡ false
broken_busy is_modelled may_leave stands end (broken.Backing s) disk h = busy_in stages.Backing (backing_device s) h.1
broken_busy is_modelled may_leave stands end (broken.Rolling s) disk h = busy_in stages.Rolling (rolling_device s) h.1

-- ---- who the components are

going : (f : Phase) (c : Generation) → is_idle f ≡ false → IsGoing f c → c ≡ draining
going idle c busy h = absurd (false≢true (sym busy))
going booting c busy h = h
going activating c busy h = absurd h
going backing c busy h = h
going rolling c busy h = h

-- before the first bootstrap of a plan all may be stopped
boots_phase : (d : Device) → IsIn stages.Booting d → (duty_of d).phase ≡ booting
boots_phase d is = by d.pending is
  where
    by : (o : Option Pending) → IsSomeAnd o (λ q. q.stage ≡ stages.Booting) → (duty_of (pends d o)).phase ≡ booting
    by None h = absurd h
    by (Some q) h = subst (λ (s : Stage). (duty_in (pends d (Some q)) (record q { stage = s })).phase ≡ booting) (sym h) refl

may_clear : (d : Duty) (b : Bool) (p : SessionState) → MayClear d p → MayStopAll d booting (if b then draining else previous) p
may_clear d true p clear = clear
may_clear d false p clear = clear

-- ---- the states

module _ (p : SessionState) (d : Device) (world : Components) (told : Told) (living : List ℕ) where
  pub rollback_stops : IsAtRollbackStart p d world told living → MayStop p d world told living
  rollback_stops t = record {
    stands = t.stands;
    may = t.clear;
    orderly = t.orderly;
    owed = t.quiet.owes_none;
    boot = t.boot;
    boot_end = t.boot_end;
    over = t.over;
    cut = t.cut;
  }

  -- those that stand before the first bootstrap
  pub opened_stops : IsOpened p d world told living → IsOrderly world → IsIn stages.Booting d
      → IsSome (duty_of d).next_bootstrap → MayStop p d world told living
  opened_stops o orderly is is_next =
      let same = o.stands.device_is in
      let phase : (duty_of p.device).phase ≡ booting = ap (λ (x : Device). (duty_of x).phase) same ∙ boots_phase d is in
      let some : IsSome (duty_of p.device).next_bootstrap = subst (λ (x : Device). IsSome (duty_of x).next_bootstrap) (sym same) is_next in
      record {
        stands = o.stands;
        may = subst (λ (c : Generation). MayStopAll (duty_of p.device) (duty_of p.device).phase c p) (sym o.generation)
            (subst (λ (f : Phase). MayStopAll (duty_of p.device) f (generation_of p.world) p) (sym phase)
            (may_clear (duty_of p.device) (is_stopped p.world) p (some, o.boot, o.boot_end)));
        orderly = orderly_at p d world told living o.stands orderly;
        owed = o.quiet.owes_none;
        boot = o.boot;
        boot_end = o.boot_end;
        over = o.over;
        cut = o.cut;
      }

  pub stopped_stage : is_idle (duty_of d).phase ≡ false → HasStopped p d world told living → IsAtBootStage p d world told living
  stopped_stage busy s = record {
    between = record {
      stands = s.stands;
      still = record {
        stopped = s.stopped;
        quiet = s.quiet;
        generation = going (duty_of p.device).phase p.generation (ap (λ (x : Device). is_idle (duty_of x).phase) s.stands.device_is ∙ busy) s.going;
        cut = s.cut;
      };
      boot = s.bare.boot;
      boot_end = s.boot_end;
      probed = s.probed;
    };
    over = s.over;
  }

  -- a moment changes no component
  pub stopped_orderly : HasStopped p d world told living → IsOrderly world
  stopped_orderly s =
      let orderly = subst IsOrderly s.stands.world_is s.orderly in
      record { sound = orderly.sound; differ = orderly.differ; names = orderly.names }
