-- A turn of the stage, and what its acts keep of the stage.
use Rattle.std.specs.Prelude.{ℕ, Bool, true, false, List, [], ◌∷◌, Option}
use Rattle.std.proofs.Common.{◌≡◌, refl}
use Rattle.nuc_base.specs.declared.kinds.Step.{Step}
use Rattle.device.specs.Devices.{Device}
use Rattle.step_runner.specs.Entries.{Told}
use Rattle.step_runner.specs.declared.entries.RunnerEntry.{RunnerEntry}
use Rattle.step_runner.specs.declared.entries.Seen.{Seen}
use Rattle.step_runner.specs.declared.entries.Seen.TheVariants as seen
use Rattle.components.specs.Components.{Components}
use Rattle.components.specs.Lives.{lived_at}
use Rattle.histories.specs.Phases.{Phase, idle, booting, activating, backing, rolling, Generation, current, duty_of}
use Rattle.histories.specs.TraceEvents.{TraceEvent, Ran}
use Rattle.histories.specs.States.{SessionState, leaves, state_after, ran}
use Rattle.histories.specs.Waits.{may_drive}
use Rattle.histories.specs.Follows.{MayRun}
use Rattle.session_boots.specs.Traces.{ActTrace}
use Rattle.law_supervisor.specs.Keeps.{IsSupervised}
use Rattle.law_supervisor.specs.Sound.{IsOrderly}
use Rattle.session_acts.specs.Runs as turn
use Rattle.session_acts.specs.Traces.{ActsInTurn, IsActEntry}
use Rattle.session_acts.specs.declared.acts.Did.{Did}
use Rattle.session_acts.specs.declared.acts.Did.TheVariants as did
use Rattle.session_acts.proofs.Entering.{comes_of as turn_comes}
use Rattle.session_acts.proofs.Keeping.{IsKept, kept_along}
use Rattle.session_startup.specs.Did.{DidLeave}
use Rattle.session_startup.specs.Laws.{Laws}
use Rattle.session_startup.specs.Runs.{IsAtTurnStart, IsOn, IsWithin, IsInTurn, rises}

-- ---- a turn of the stage is one

drives_in : (f : Phase) (c : Generation) (serves : Bool) → rises f ≡ true → c ≡ current → may_drive f c serves ≡ true
drives_in idle c serves h is = absurd cc
drives_in booting c serves h is = absurd cc
drives_in activating c serves h is = rw is refl
drives_in backing c serves h is = absurd cc
drives_in rolling c serves h is = rw is refl

pub drives : (p : SessionState) → IsOn p → may_drive (duty_of p.device).phase p.generation p.serves ≡ true
drives p on = drives_in (duty_of p.device).phase p.generation p.serves on.phase on.generation

pub driving_of : (p : SessionState) → IsOn p → turn.IsDriving p
driving_of p on = record { drives = drives p on; boot = on.boot; boot_end = on.boot_end; over = on.over; cut = on.cut }

orderly_of : (d : Device) (w : Components) → IsSupervised d w → IsOrderly w
orderly_of d w k = record { sound = k.sound; differ = k.differ; names = k.names }

pub start_of : {p : SessionState} {d : Device} {world : Components} {told : Told} {living : List ℕ} → IsAtTurnStart p d world told living →
    turn.IsAtTurnStart p d world told living
start_of {p} c = record { stands = c.stands; on = driving_of p c.on; orderly = orderly_of p.device p.world c.keeps }

pub within_of : {p : SessionState} {told : Told} {living : List ℕ} → IsWithin p told living → turn.IsWithin p told living
within_of {p} w = record {
  on = driving_of p w.on;
  orderly = orderly_of p.device p.world w.keeps;
  answered = w.answered;
  moment = w.moment;
  asked = w.asked;
  due = w.due;
  children = w.children;
}

pub turn_of : {p : SessionState} {world : Components} {told : Told} {living : List ℕ} → IsInTurn p world told living → turn.IsInTurn p world told living
turn_of r = record { within = within_of r.within; probed = r.probed; world_is = r.world_is }

-- ---- what is kept of the stage

pub record InStage (p : SessionState) : Type 0 where
  pub on : IsOn p
  pub keeps : IsSupervised p.device p.world

pub on_ran : (p : SessionState) (e : RunnerEntry) (k : ℕ) (t : Step) → IsOn p → IsOn (leaves p (Ran e k t))
on_ran p e k t on = record { phase = on.phase; generation = on.generation; boot = on.boot; boot_end = on.boot_end; over = on.over; cut = on.cut }

ran_keeps : Laws → (p : SessionState) (s : Seen) (k : ℕ) (t : Step) → MayRun (duty_of p.device) p s k t → IsActEntry p s → IsSupervised p.device p.world →
    IsSupervised p.device (ran s k t p.world)
ran_keeps laws p (seen.Started n c) k t may is keeps = laws.keeps_started p.device k t n p.world is may.0.owes_none keeps
ran_keeps laws p (seen.Refused c) k t may is keeps = laws.keeps_refused p.device k t p.world may.0.owes_none keeps
ran_keeps laws p (seen.Killed n) k t may is keeps = laws.keeps_killed p.device n p.world may.0.owes_none keeps
ran_keeps laws p (seen.Exists x true) k t may is keeps = laws.keeps_skipped p.device k p.world may.0.owes_none keeps
ran_keeps laws p (seen.Exists x false) k t may is keeps = keeps
ran_keeps laws p (seen.OnPath x true) k t may is keeps = laws.keeps_skipped p.device k p.world may.0.owes_none keeps
ran_keeps laws p (seen.OnPath x false) k t may is keeps = keeps
ran_keeps laws p (seen.Ended n e limit) k t may is keeps = absurd is
ran_keeps laws p (seen.Elapsed limit) k t may is keeps = absurd is

stage_kept : Laws → IsKept InStage
stage_kept laws = record {
  asked = λ p m s. record {
    on = record { phase = s.on.phase; generation = s.on.generation; boot = s.on.boot; boot_end = s.on.boot_end; over = s.on.over; cut = s.on.cut };
    keeps = laws.keeps_later p.device m p.world s.keeps;
  };
  moved = λ p k e next may s. record {
    on = record { phase = s.on.phase; generation = s.on.generation; boot = s.on.boot; boot_end = s.on.boot_end; over = s.on.over; cut = s.on.cut };
    keeps = laws.keeps_moved p.device p.world (lived_at k e p.world) (record { who = k; what = e } ∷ []) (next, may, refl) s.keeps;
  };
  ran = λ p e k t may is s. record { on = on_ran p e k t s.on; keeps = ran_keeps laws p e.seen k t may is s.keeps };
}

within_in : {q : SessionState} {told : Told} {living : List ℕ} → InStage q → turn.IsWithin q told living → IsWithin q told living
within_in s w = record {
  on = s.on;
  keeps = s.keeps;
  answered = w.answered;
  moment = w.moment;
  asked = w.asked;
  due = w.due;
  children = w.children;
}

turn_in : {q : SessionState} {world : Components} {told : Told} {living : List ℕ} → InStage q → turn.IsInTurn q world told living →
    IsInTurn q world told living
turn_in s r = record { within = within_in s r.within; probed = r.probed; world_is = r.world_is }

did_in : (d : Did) {q : SessionState} (world : Components) (told : Told) (living : List ℕ) → InStage q → turn.DidLeave d q world told living →
    DidLeave d q world told living
did_in did.Nothing world told living s r = (turn_in s r.0, r.1)
did_in did.Something world told living s r = turn_in s r
did_in (did.Failed k t e) world told living s f = record { within = within_in s f.within; breaks = f.breaks; owes = f.owes; world_is = f.world_is }

module _ (laws : Laws) (p : SessionState) (on : IsOn p) (keeps : IsSupervised p.device p.world) {old new : Option (List RunnerEntry)} where
  stage_after : (h : List TraceEvent) → ActsInTurn p h old new → InStage (state_after p h)
  stage_after h a = kept_along InStage (stage_kept laws) p h a.acts.proper a.each (record { on = on; keeps = keeps })

  -- what a part of a turn leaves it leaves in the stage
  pub turn_left : {world : Components} {told : Told} {living : List ℕ} →
      ((h : List TraceEvent) × ActsInTurn p h old new × turn.IsInTurn (state_after p h) world told living) →
      (h : List TraceEvent) × ActTrace p h old new × IsInTurn (state_after p h) world told living
  turn_left x = (x.0, x.1.acts, turn_in (stage_after x.0 x.1) x.2)

  pub did_left : (d : Did) (world : Components) (told : Told) (living : List ℕ) →
      ((h : List TraceEvent) × ActsInTurn p h old new × turn.DidLeave d (state_after p h) world told living) →
      (h : List TraceEvent) × ActTrace p h old new × DidLeave d (state_after p h) world told living
  did_left d world told living x = (x.0, x.1.acts, did_in d world told living (stage_after x.0 x.1) x.2)

-- ---- a turn's start

-- back at a start
pub comes_of : (p : SessionState) (d : Device) (world : Components) (told : Told) (living : List ℕ) → IsInTurn p world told living → p.device ≡ d →
    IsAtTurnStart p d world told living
comes_of p d world told living r device = record {
  stands = (turn_comes p d world told living (turn_of r) device).stands;
  on = r.within.on;
  keeps = r.within.keeps;
  probed = r.probed;
}
