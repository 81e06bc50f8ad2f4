-- Between two turns, and where the inbox may be asked.
use Rattle.std.specs.Prelude.{ℕ, Bool, true, List, Option, IfSome}
use Rattle.std.proofs.Common.{◌≡◌, ◌∙◌, sym, subst}
use Rattle.device.specs.Devices.{Device}
use Rattle.step_runner.specs.Entries.{Told}
use Rattle.components.specs.Components.{Components}
use Rattle.histories.specs.Phases.{Phase, idle, booting, activating, backing, rolling, Generation, current, duty_of, is_idle}
use Rattle.histories.specs.TraceEvents.{Answer, is_document}
use Rattle.histories.specs.States.{SessionState}
use Rattle.histories.specs.Waits.{may_drive}
use Rattle.histories.specs.Courses.{IsStateOf}
use Rattle.session_acts.specs.Runs.{IsAtTurnStart, IsDriving, IsInTurn}
use Rattle.session_acts.proofs.Entering.{comes_of}
use Rattle.session_steady.specs.Acting.{ActLeft}
use Rattle.session_steady.specs.Runs.{IsSame, IsSince}
use Rattle.session_steady.specs.Serves.{IsAsking, IsServing, IsSteady}

drives_in : (f : Phase) (c : Generation) (serves : Bool) → is_idle f ≡ true → c ≡ current → serves ≡ true → may_drive f c serves ≡ true
drives_in idle c serves i is called = rw is called
drives_in booting c serves i is called = absurd cc
drives_in activating c serves i is called = absurd cc
drives_in backing c serves i is called = absurd cc
drives_in rolling c serves i is called = absurd cc

pub on_of : (p : SessionState) → IsSteady p → IsDriving p
on_of p s = record {
  drives = drives_in (duty_of p.device).phase p.generation p.serves s.idle_is s.generation s.serves;
  boot = s.boot;
  boot_end = s.boot_end;
  over = s.over;
  cut = s.cut;
}

pub start_of : (p : SessionState) (d : Device) (world : Components) (told : Told) (living : List ℕ) → IsServing p d world told living →
    IsAtTurnStart p d world told living
start_of p d world told living v = record { stands = v.stands; on = on_of p v.steady; orderly = v.orderly }

pub idle_of : (p : SessionState) (d : Device) (world : Components) (told : Told) (living : List ℕ) → IsServing p d world told living →
    is_idle (duty_of p.device).phase ≡ true
idle_of p d world told living v = v.steady.idle_is

-- ---- from p on

pub steady_of : (p q : SessionState) → IsSteady p → IsDriving q → IsSame p q → IsSteady q
steady_of p q s on a = record {
  serves = a.serves ∙ s.serves;
  idle_is = subst (λ (d : Device). is_idle (duty_of d).phase ≡ true) (sym a.device) s.idle_is;
  generation = a.generation ∙ s.generation;
  opened = a.opened ∙ s.opened;
  boot = on.boot;
  boot_end = on.boot_end;
  over = on.over;
  cut = on.cut;
}

pub done_of : (a b : Option Answer) → b ≡ a → IfSome a (λ x. is_document x ≡ true) → IfSome b (λ x. is_document x ≡ true)
done_of a b is h = subst (λ (o : Option Answer). IfSome o (λ x. is_document x ≡ true)) (sym is) h

pub stands_at : (q : SessionState) (e d : Device) (world : Components) (told : Told) (living : List ℕ) → IsStateOf q e world told living → e ≡ d →
    IsStateOf q d world told living
stands_at q e d world told living s is = subst (λ (x : Device). IsStateOf q x world told living) is s

module _ (p : SessionState) (d : Device) (v : Components) (before : Told) (lived : List ℕ) (s : IsServing p d v before lived) where
  -- the moment was told, and nothing else
  pub serving_on : (q : SessionState) (world : Components) (told : Told) (living : List ℕ) → IsInTurn q world told living → IsSince p q →
      IsServing q d world told living × IsSame p q × (q.answer ≡ p.answer)
  serving_on q world told living r since =
      let w = r.within in (
        record {
          stands = (comes_of q d world told living r (since.0.device ∙ s.stands.device_is)).stands;
          steady = steady_of p q s.steady w.on since.0;
          done = done_of p.answer q.answer since.1 s.done;
          orderly = w.orderly;
        },
        since.0,
        since.1,
      )

  -- every act was taken
  pub asking_on : (q : SessionState) (none : Bool) (world : Components) (told : Told) (living : List ℕ) → ActLeft q none world told living → none ≡ true →
      IsSince p q → IsAsking q d world told living × IsSame p q × (q.answer ≡ p.answer)
  asking_on q none world told living a all since = (
    record {
      device_is = since.0.device ∙ s.stands.device_is;
      steady = steady_of p q s.steady a.runs.within.on since.0;
      done = done_of p.answer q.answer since.1 s.done;
      turn = a.runs;
      quiet = a.quiet all;
    },
    since.0,
    since.1,
  )

-- where the inbox may be asked the call is between two turns too
pub asking_serves : (p : SessionState) (d : Device) (world : Components) (told : Told) (living : List ℕ) → IsAsking p d world told living →
    IsServing p d world told living
asking_serves p d world told living a = record {
  stands = (comes_of p d world told living a.turn a.device_is).stands;
  steady = a.steady;
  done = a.done;
  orderly = a.turn.within.orderly;
}
