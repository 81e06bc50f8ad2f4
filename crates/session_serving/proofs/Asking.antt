-- The inbox is asked.
use Rattle.std.specs.Prelude.{ℕ, ◌==◌, Bool, true, false, ◌||◌, ◌&&◌, List, [], ◌∷◌, Option, Some, None, IfSome}
use Rattle.std.proofs.Common.{◌≡◌, ◌≤◌, ◌+◌, refl, sym, ap, subst, arith}
use Rattle.device.specs.Devices.{Device}
use Rattle.step_runner.specs.Entries.{Told}
use Rattle.step_runner.specs.declared.entries.RunnerEntry.{RunnerEntry}
use Rattle.components.specs.Components.{Components}
use Rattle.histories.specs.Follows.{MayLeave, MayStopAll}
use Rattle.histories.specs.Phases.{Generation, Phase, duty_of, is_current, is_idle}
use Rattle.histories.specs.States.{SessionState, leaves, state_after}
use Rattle.histories.specs.TraceEvents.{Answer, TraceEvent, InboxAsked, closed, is_closed, is_document, nothing}
use Rattle.histories.specs.Waits.{has_ended}
use Rattle.law_serving.proofs.Records.{idle_phase, pending_idle}
use Rattle.session_boots.specs.Traces.{ActTrace}
use Rattle.session_boots.proofs.Acting.{acts_on, grows_none}
use Rattle.session_shutdown.specs.Stops.{MayStop}
use Rattle.session_acts.specs.Runs.{IsInTurn}
use Rattle.session_steady.specs.Runs.{IsSame}
use Rattle.session_steady.specs.Serves.{IsAsking, IsSteady, IsWaiting}
use Rattle.session_steady.proofs.Serving.{asking_serves}
use Rattle.session_serving.specs.States.{IsAsked}

-- it may be asked
pub asked_here : (p : SessionState) (d : Device) (world : Components) (told : Told) (living : List ℕ) (x : Answer) (list : Option (List RunnerEntry)) →
    IsAsking p d world told living → 1 ≤ p.turns → ActTrace p (InboxAsked x ∷ []) list list
asked_here p d world told living x list a left =
    let s = a.steady in
    record {
      proper = (
        (
          record {
            serves = s.serves;
            idle_is = s.idle_is;
            opened = s.opened;
            current = ap (λ (c : Generation). is_current c) s.generation;
            left = left;
            quiet = a.quiet;
            done = a.done;
          },
          (λ cut. cc),
          s.over,
        ),
        tt,
      );
      none = refl;
      list = grows_none list list refl;
      device = refl;
    }

steady_asked : (p : SessionState) (x : Answer) → IsSteady p → IsSteady (leaves p (InboxAsked x))
steady_asked p x s = record {
  serves = s.serves;
  idle_is = s.idle_is;
  generation = s.generation;
  opened = s.opened;
  boot = s.boot;
  boot_end = s.boot_end;
  over = s.over;
  cut = s.cut;
}

turn_asked : (p : SessionState) (x : Answer) (world : Components) (told : Told) (living : List ℕ) → IsInTurn p world told living →
    IsInTurn (leaves p (InboxAsked x)) world told living
turn_asked p x world told living r =
    let w = r.within in
    record {
      within = record {
        on = record { drives = w.on.drives; boot = w.on.boot; boot_end = w.on.boot_end; over = w.on.over; cut = w.on.cut };
        orderly = w.orderly;
        answered = w.answered;
        moment = w.moment;
        asked = w.asked;
        due = w.due;
        children = w.children;
      };
      probed = refl;
      world_is = r.world_is;
    }

-- and this is what it answered
pub asked_on : (p : SessionState) (d : Device) (world : Components) (told : Told) (living : List ℕ) (x : Answer) → IsAsking p d world told living →
    IsAsked x (leaves p (InboxAsked x)) d world told living
asked_on p d world told living x a = record {
  device_is = a.device_is;
  steady = steady_asked p x a.steady;
  answer_is = refl;
  turn = turn_asked p x world told living a.turn;
  quiet = a.quiet;
}

pub waiting_of : (p : SessionState) (d : Device) (world : Components) (told : Told) (living : List ℕ) → IsAsked nothing p d world told living →
    IsWaiting p d world told living
waiting_of p d world told living a = record {
  device_is = a.device_is;
  steady = a.steady;
  nothing_is = a.answer_is;
  turn = a.turn;
  quiet = a.quiet;
}

-- behind what was settled
module _ (p : SessionState) (h : List TraceEvent) (d : Device) (world : Components) (told : Told) (living : List ℕ) (a b : Option (List RunnerEntry)) where
  pub questioned : (x : Answer) → ActTrace p h a b → IsAsking (state_after p h) d world told living → IsSame p (state_after p h) → 1 ≤ p.turns →
      ActTrace p (InboxAsked x ∷ h) a b
  questioned x acts asking same left =
      acts_on p h (InboxAsked x ∷ []) a b b acts
      (asked_here (state_after p h) d world told living x b asking (subst (λ (n : ℕ). 1 ≤ n) (sym same.turns) left))

  pub one_less : (x : Answer) → IsSame p (state_after p h) → 1 ≤ p.turns → (state_after p (InboxAsked x ∷ h)).turns + 1 ≡ p.turns
  one_less x same left = omega (arith, same.turns, left)

-- ---- all may be stopped

may_stop_all : (p : SessionState) → is_idle (duty_of p.device).phase ≡ true → MayLeave p → MayStopAll (duty_of p.device) (duty_of p.device).phase p.generation p
may_stop_all p is may =
    subst (λ (f : Phase). MayStopAll (duty_of p.device) f p.generation p) (sym (idle_phase p.device (pending_idle p.device is))) (λ serves. may)

stop_at : (p : SessionState) (d : Device) (world : Components) (told : Told) (living : List ℕ) → IsAsking p d world told living → MayLeave p →
    MayStop p d world told living
stop_at p d world told living a may =
    let v = asking_serves p d world told living a in
    record {
      stands = v.stands;
      may = may_stop_all p a.steady.idle_is may;
      orderly = v.orderly;
      owed = a.quiet.owes_none;
      boot = a.steady.boot;
      boot_end = a.steady.boot_end;
      over = a.steady.over;
      cut = a.steady.cut;
    }

-- it is closed
pub closed_stops : (p : SessionState) (d : Device) (world : Components) (told : Told) (living : List ℕ) → IsAsking p d world told living →
    MayStop (leaves p (InboxAsked closed)) d world told living
closed_stops p d world told living a =
    let v = asking_serves p d world told living a in
    let s = v.stands in
    record {
      stands = record {
        device_is = s.device_is;
        world_is = s.world_is;
        answered = s.answered;
        not_before = s.not_before;
        asked = s.asked;
        children = s.children;
      };
      may = may_stop_all (leaves p (InboxAsked closed)) a.steady.idle_is (a.steady.opened, refl);
      orderly = v.orderly;
      owed = a.quiet.owes_none;
      boot = a.steady.boot;
      boot_end = a.steady.boot_end;
      over = a.steady.over;
      cut = a.steady.cut;
    }

-- it was asked often enough
ended_by : (p : SessionState) → p.turns ≡ 0 → IfSome p.answer (λ a. is_document a ≡ true) → has_ended p ≡ true
ended_by p none done = by p.answer done
  where
    zero_is : (p.turns == 0) ≡ true
    zero_is = ap (λ (n : ℕ). n == 0) none

    or_right : (a b : Bool) → b ≡ true → (a || b) ≡ true
    or_right true b is = refl
    or_right false b is = is

    by : (o : Option Answer) → IfSome o (λ a. is_document a ≡ true) → has_ended (record p { answer = o }) ≡ true
    by None given = zero_is
    by (Some a) given = or_right (is_closed a) ((p.turns == 0) && is_document a) (rw zero_is given)

pub spent_stops : (p : SessionState) (d : Device) (world : Components) (told : Told) (living : List ℕ) → IsAsking p d world told living → p.turns ≡ 0 →
    MayStop p d world told living
spent_stops p d world told living a none = stop_at p d world told living a (a.steady.opened, ended_by p none a.done)
