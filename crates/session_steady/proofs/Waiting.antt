-- A turn's wait, and what comes of it.
use Rattle.std.specs.Prelude.{ℕ, Bool, true, min, List, [], ◌∷◌, Option, Some, None, if◌then◌else◌}
use Rattle.std.proofs.Common.{◌≡◌, ◌∙◌, refl, sym, ap}
use Rattle.device.specs.Devices.{Device}
use Rattle.step_runner.specs.Entries.{Told}
use Rattle.step_runner.specs.declared.entries.RunnerEntry.{RunnerEntry}
use Rattle.components.specs.Components.{Components}
use Rattle.components.specs.Deadlines.{least_deadline, until}
use Rattle.histories.specs.Phases.{Phase, idle, booting, activating, backing, rolling, current, duty_of, is_idle}
use Rattle.histories.specs.TraceEvents.{TraceEvent, Ran, Booted, WaitElapsed, KilledOnAbort, Recorded, Moved, ReadClock, Heard, InboxAsked, Changed, StopsAll}
use Rattle.histories.specs.TraceEvents.{nothing}
use Rattle.histories.specs.States.{SessionState, leaves, state_after}
use Rattle.histories.specs.Waits.{MayWait, has_work, wait_limit}
use Rattle.session_boots.specs.Traces.{ActTrace}
use Rattle.session_acts.specs.Runs.{IsAtTurnStart}
use Rattle.session_acts.specs.Waits.{IsReadyToWait, IsWaitEvent, WaitsOnce}
use Rattle.session_steady.specs.Runs.{IsSame}
use Rattle.session_steady.specs.Serves.{HasWaited, IsOneWait, IsWaiting}
use Rattle.session_steady.proofs.Serving.{done_of, stands_at, steady_of}

works_in : (f : Phase) (counts : List ℕ) (p : SessionState) → is_idle f ≡ true → p.generation ≡ current → p.serves ≡ true → p.opened ≡ true →
    p.answer ≡ Some nothing → has_work f p.generation counts p ≡ true
works_in idle counts p i c serves opened a = rw c (rw serves (rw opened (rw a refl)))
works_in booting counts p i c serves opened a = absurd cc
works_in activating counts p i c serves opened a = absurd cc
works_in backing counts p i c serves opened a = absurd cc
works_in rolling counts p i c serves opened a = absurd cc

limit_in : (f : Phase) (p : SessionState) → is_idle f ≡ true → p.generation ≡ current → p.boot ≡ None →
    wait_limit f p ≡ min 1000 (until (least_deadline p.world) p.world.moment)
limit_in idle p i c boot = rw c (rw boot refl)
limit_in booting p i c boot = absurd cc
limit_in activating p i c boot = absurd cc
limit_in backing p i c boot = absurd cc
limit_in rolling p i c boot = absurd cc

-- every act was taken, the inbox had nothing, and the wait is a turn's
may_wait : (p : SessionState) (d : Device) (world : Components) (told : Told) (living : List ℕ) (limit now : ℕ) → IsWaiting p d world told living →
    told.moment ≡ now → limit ≡ min 1000 (until (least_deadline world) now) → MayWait (duty_of p.device) p limit
may_wait p d world told living limit now s moment is =
    let t = s.steady in
    let at : now ≡ p.world.moment = sym moment ∙ s.turn.within.moment in
    let f = (duty_of p.device).phase in
    record {
      quiet = s.quiet;
      no_end = t.boot_end;
      in_time = rw t.boot refl;
      work = works_in f (duty_of p.device).counts p t.idle_is t.generation t.serves t.opened s.nothing_is;
      limit_is = is ∙ ap (λ (w : Components). min 1000 (until (least_deadline w) now)) s.turn.world_is ∙ ap
          (λ (m : ℕ). min 1000 (until (least_deadline p.world) m)) at ∙ sym (limit_in f p t.idle_is t.generation t.boot);
    }

pub ready : (p : SessionState) (d : Device) (world : Components) (told : Told) (living : List ℕ) (limit now : ℕ) → IsWaiting p d world told living →
    told.moment ≡ now → limit ≡ min 1000 (until (least_deadline world) now) → IsReadyToWait p limit world told living
ready p d world told living limit now s moment is = record { runs = s.turn; may = may_wait p d world told living limit now s moment is }

-- ---- what it leaves

waited_same : (p : SessionState) (e : TraceEvent) → IsWaitEvent e → IsSame p (leaves p e) × ((leaves p e).answer ≡ None) × IsOneWait (e ∷ [])
waited_same p (WaitElapsed e) is = (
  record { device = refl; generation = refl; serves = refl; opened = refl; turns = refl; taken = refl },
  ap (λ (b : Bool). if b then None else p.answer) is,
  is,
)
waited_same p (Ran e k s) is = (
  record { device = refl; generation = refl; serves = refl; opened = refl; turns = refl; taken = refl },
  ap (λ (b : Bool). if b then None else p.answer) is,
  is,
)
waited_same p (Booted e m) is = absurd is
waited_same p (KilledOnAbort e) is = absurd is
waited_same p (Recorded r) is = absurd is
waited_same p (Moved k e) is = absurd is
waited_same p (ReadClock m) is = absurd is
waited_same p (Heard k) is = absurd is
waited_same p (InboxAsked a) is = absurd is
waited_same p (Changed f c b) is = absurd is
waited_same p StopsAll is = absurd is

pub wait_left : (p : SessionState) (d : Device) {v : Components} {before : Told} {lived : List ℕ} → IsWaiting p d v before lived →
    {old new : Option (List RunnerEntry)} {world : Components} {told : Told} {living : List ℕ} →
    ((e : TraceEvent) × WaitsOnce p e old new × IsAtTurnStart (leaves p e) p.device world told living) →
    (h : List TraceEvent) × ActTrace p h old new × HasWaited p (state_after p h) h d world told living
wait_left p d s {world = world} {told = told} {living = living} x =
    let w = waited_same p x.0 x.1.wait in
    let q = leaves p x.0 in (
      x.0 ∷ [],
      x.1.acts,
      record {
        serving = record {
          stands = stands_at q p.device d world told living x.2.stands s.device_is;
          steady = steady_of p q s.steady x.2.on w.0;
          done = done_of None q.answer w.1 tt;
          orderly = x.2.orderly;
        };
        same = w.0;
        answer = w.1;
        one = w.2;
      },
    )
