-- A wait, and what comes of it.
use Rattle.std.specs.Prelude.{ℕ, true, List, [], ◌∷◌, Option, None, IsSome}
use Rattle.std.proofs.Common.{◌≡◌, ◌∙◌, refl, sym, ap, subst}
use Rattle.nuc_base.specs.declared.kinds.Step.{Step}
use Rattle.device.specs.Devices.{Device}
use Rattle.step_runner.specs.Entries.{Told}
use Rattle.step_runner.specs.declared.entries.RunnerEntry.{RunnerEntry}
use Rattle.step_runner.specs.declared.entries.Seen.{Seen}
use Rattle.step_runner.specs.declared.entries.Seen.TheVariants as seen
use Rattle.components.specs.Components.{Components}
use Rattle.components.specs.Deadlines.{least_deadline, until}
use Rattle.histories.specs.Phases.{Phase, idle, booting, activating, backing, rolling, Generation, current, duty_of}
use Rattle.histories.specs.TraceEvents.{TraceEvent}
use Rattle.histories.specs.States.{SessionState, is_wait, leaves, ran, state_after}
use Rattle.histories.specs.Waits.{MayWait, comes_up, has_work, wait_limit}
use Rattle.histories.specs.Follows.{MayRun}
use Rattle.histories.specs.Courses.{IsStateOf}
use Rattle.session_boots.specs.Traces.{ActTrace}
use Rattle.law_supervisor.specs.Keeps.{IsSupervised}
use Rattle.session_acts.specs.Runs as turn
use Rattle.session_acts.specs.Waits as waits
use Rattle.session_acts.specs.Waits.{WaitsOnce}
use Rattle.session_acts.proofs.Keeping.{IsKeptByWait, kept_by_wait, wait_unprobed}
use Rattle.session_startup.specs.Laws.{Laws}
use Rattle.session_startup.specs.Runs.{IsAtTurnStart, IsOn, IsReadyToWait, rises}
use Rattle.session_startup.proofs.Entering.{InStage, on_ran, turn_of}

works_in : (f : Phase) (c : Generation) (counts : List ℕ) (p : SessionState) → rises f ≡ true → c ≡ current → comes_up counts p ≡ true →
    has_work f c counts p ≡ true
works_in idle c counts p h is work = absurd cc
works_in booting c counts p h is work = absurd cc
works_in activating c counts p h is work = rw is work
works_in backing c counts p h is work = absurd cc
works_in rolling c counts p h is work = rw is work

limit_in : (f : Phase) (p : SessionState) → rises f ≡ true → p.boot ≡ None → wait_limit f p ≡ until (least_deadline p.world) p.world.moment
limit_in idle p h boot = absurd cc
limit_in booting p h boot = absurd cc
limit_in activating p h boot = rw boot refl
limit_in backing p h boot = absurd cc
limit_in rolling p h boot = rw boot refl

-- every act was taken, and the wait is to the next deadline
may_wait : (p : SessionState) (world : Components) (told : Told) (living : List ℕ) (limit now : ℕ) → IsReadyToWait p world told living →
    told.moment ≡ now → limit ≡ until (least_deadline world) now → MayWait (duty_of p.device) p limit
may_wait p world told living limit now s moment is =
    let on = s.runs.within.on in
    let at : now ≡ p.world.moment = sym moment ∙ s.runs.within.moment in
    record {
      quiet = s.quiet;
      no_end = on.boot_end;
      in_time = rw on.boot refl;
      work = works_in (duty_of p.device).phase p.generation (duty_of p.device).counts p on.phase on.generation s.work;
      limit_is = is ∙ ap (λ (w : Components). until (least_deadline w) now) s.runs.world_is ∙ ap (λ (m : ℕ). until (least_deadline p.world) m) at ∙ sym
          (limit_in (duty_of p.device).phase p on.phase on.boot);
    }

pub ready : (p : SessionState) (world : Components) (told : Told) (living : List ℕ) (limit now : ℕ) → IsReadyToWait p world told living →
    told.moment ≡ now → limit ≡ until (least_deadline world) now → waits.IsReadyToWait p limit world told living
ready p world told living limit now s moment is = record { runs = turn_of s.runs; may = may_wait p world told living limit now s moment is }

-- ---- what it leaves

ended_keeps : Laws → (p : SessionState) (s : Seen) (k : ℕ) (t : Step) → MayRun (duty_of p.device) p s k t → is_wait s ≡ true → IsSupervised p.device p.world →
    IsSupervised p.device (ran s k t p.world)
ended_keeps laws p (seen.Started n c) k t may is keeps = absurd cc
ended_keeps laws p (seen.Refused c) k t may is keeps = absurd cc
ended_keeps laws p (seen.Killed n) k t may is keeps = absurd cc
ended_keeps laws p (seen.Exists x found) k t may is keeps = absurd cc
ended_keeps laws p (seen.OnPath x found) k t may is keeps = absurd cc
ended_keeps laws p (seen.Ended n e limit) k t may is keeps =
    laws.keeps_ended p.device n e p.world (subst (λ (o : Option (ℕ × Step)). IsSome o) (sym may.1) cc) may.0.quiet.owes_none keeps
ended_keeps laws p (seen.Elapsed limit) k t may is keeps = absurd may

wait_kept : Laws → IsKeptByWait InStage
wait_kept laws = record {
  elapsed = λ p e is s. record {
    on = record { phase = s.on.phase; generation = s.on.generation; boot = s.on.boot; boot_end = s.on.boot_end; over = s.on.over; cut = s.on.cut };
    keeps = s.keeps;
  };
  ended = λ p e k t may is s. record { on = on_ran p e k t s.on; keeps = ended_keeps laws p e.seen k t may is s.keeps };
}

pub wait_left : Laws → (p : SessionState) (d : Device) → p.device ≡ d → IsOn p → IsSupervised p.device p.world → {old new : Option (List RunnerEntry)}
    {world : Components}
    {told : Told} {living : List ℕ} → ((e : TraceEvent) × WaitsOnce p e old new × turn.IsAtTurnStart (leaves p e) p.device world told living) →
    (h : List TraceEvent) × ActTrace p h old new × IsAtTurnStart (state_after p h) d world told living
wait_left laws p d is on keeps {world = world} {told = told} {living = living} x =
    let s = kept_by_wait InStage (wait_kept laws) p x.0 x.1.acts.proper.0 x.1.wait (record { on = on; keeps = keeps }) in (
      x.0 ∷ [],
      x.1.acts,
      record {
        stands = subst (λ (e : Device). IsStateOf (leaves p x.0) e world told living) is x.2.stands;
        on = s.on;
        keeps = s.keeps;
        probed = wait_unprobed p x.0 x.1.wait;
      },
    )
