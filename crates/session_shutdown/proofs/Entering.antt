-- A turn in which all are stopped, and what its acts keep of the stage.
use Rattle.std.specs.Prelude.{ℕ, Bool, true, false, List, [], ◌∷◌, Option, Some, None, slice_get}
use Rattle.std.specs.Option.{IsSomeAnd}
use Rattle.std.proofs.Common.{◌≡◌, ◌∙◌, refl, sym}
use Rattle.nuc_base.specs.declared.kinds.Exit.{Exit}
use Rattle.nuc_base.specs.declared.kinds.Step.{Step}
use Rattle.device.specs.Devices.{Device}
use Rattle.step_runner.specs.Entries.{Told}
use Rattle.step_runner.specs.declared.entries.RunnerEntry.{RunnerEntry}
use Rattle.step_runner.specs.declared.entries.Seen.{Seen}
use Rattle.step_runner.specs.declared.entries.Seen.TheVariants as seen
use Rattle.components.specs.Components.{Components, ComponentState, component_name, is_broken, place_of}
use Rattle.components.specs.Lives.{lived_at}
use Rattle.components.specs.Acts.{OwesAt}
use Rattle.components.specs.Turns.{IsQuiet}
use Rattle.histories.specs.Phases.{Phase, idle, booting, activating, backing, rolling, Generation, duty_of}
use Rattle.histories.specs.TraceEvents.{TraceEvent, Ran}
use Rattle.histories.specs.States.{SessionState, leaves, state_after, ran}
use Rattle.histories.specs.Waits.{may_drive}
use Rattle.histories.specs.Follows.{MayRun}
use Rattle.session_boots.specs.Traces.{ActTrace}
use Rattle.law_supervisor.proofs.Lists.{at_places, no_some}
use Rattle.session_acts.specs.Runs as turn
use Rattle.session_acts.specs.Traces.{ActsInTurn, IsActEntry}
use Rattle.session_acts.proofs.Entering.{comes_of as turn_comes}
use Rattle.session_acts.proofs.Keeping.{IsKept, kept_along}
use Rattle.session_shutdown.specs.Laws.{Laws}
use Rattle.session_shutdown.specs.Leaves.{AreLeaving, IsLeavingPart}
use Rattle.session_shutdown.specs.Runs.{IsAtTurnStart, IsGoing, IsOn, IsWithin, IsInTurn}

-- ---- a turn of the stage is one

drives_in : (f : Phase) (c : Generation) (serves : Bool) → IsGoing f c → may_drive f c serves ≡ true
drives_in idle c serves is = rw is refl
drives_in booting c serves is = rw is refl
drives_in activating c serves is = absurd is
drives_in backing c serves is = rw is refl
drives_in rolling c serves is = rw is refl

pub drives : (p : SessionState) → IsOn p → may_drive (duty_of p.device).phase p.generation p.serves ≡ true
drives p on = drives_in (duty_of p.device).phase p.generation p.serves on.going

driving_of : (p : SessionState) → IsOn p → turn.IsDriving p
driving_of p on = record { drives = drives p on; boot = on.boot; boot_end = on.boot_end; over = on.over; cut = on.cut }

pub start_of : {p : SessionState} {d : Device} {world : Components} {told : Told} {living : List ℕ} → IsAtTurnStart p d world told living →
    turn.IsAtTurnStart p d world told living
start_of {p} c = record { stands = c.stands; on = driving_of p c.on; orderly = c.keeps.orderly }

pub within_of : {p : SessionState} {told : Told} {living : List ℕ} → IsWithin p told living → turn.IsWithin p told living
within_of {p} w = record {
  on = driving_of p w.on;
  orderly = w.keeps.orderly;
  answered = w.answered;
  moment = w.moment;
  asked = w.asked;
  due = w.due;
  children = w.children;
}

pub turn_of : {p : SessionState} {world : Components} {told : Told} {living : List ℕ} → IsInTurn p world told living → turn.IsInTurn p world told living
turn_of r = record { within = within_of r.within; probed = r.probed; world_is = r.world_is }

-- ---- what is kept of the stage

pub record InStage (p : SessionState) : Type 0 where
  pub on : IsOn p
  pub keeps : AreLeaving p.world

pub on_ran : (p : SessionState) (e : RunnerEntry) (k : ℕ) (t : Step) → IsOn p → IsOn (leaves p (Ran e k t))
on_ran p e k t on = record { going = on.going; boot = on.boot; boot_end = on.boot_end; over = on.over; cut = on.cut }

ran_leaves : Laws → (p : SessionState) (s : Seen) (k : ℕ) (t : Step) → MayRun (duty_of p.device) p s k t → IsActEntry p s → AreLeaving p.world →
    AreLeaving (ran s k t p.world)
ran_leaves laws p (seen.Started n c) k t may is keeps = laws.keeps_started k t n p.world is keeps
ran_leaves laws p (seen.Refused c) k t may is keeps = laws.keeps_refused k t p.world keeps
ran_leaves laws p (seen.Killed n) k t may is keeps = laws.keeps_killed n p.world keeps
ran_leaves laws p (seen.Exists x true) k t may is keeps = laws.keeps_skipped k p.world keeps
ran_leaves laws p (seen.Exists x false) k t may is keeps = keeps
ran_leaves laws p (seen.OnPath x true) k t may is keeps = laws.keeps_skipped k p.world keeps
ran_leaves laws p (seen.OnPath x false) k t may is keeps = keeps
ran_leaves laws p (seen.Ended n e limit) k t may is keeps = absurd is
ran_leaves laws p (seen.Elapsed limit) k t may is keeps = absurd is

stage_kept : Laws → IsKept InStage
stage_kept laws = record {
  asked = λ p m s. record {
    on = record { going = s.on.going; boot = s.on.boot; boot_end = s.on.boot_end; over = s.on.over; cut = s.on.cut };
    keeps = laws.keeps_later m p.world s.keeps;
  };
  moved = λ p k e next may s. record {
    on = record { going = s.on.going; boot = s.on.boot; boot_end = s.on.boot_end; over = s.on.over; cut = s.on.cut };
    keeps = laws.keeps_moved p.world (lived_at k e p.world) (record { who = k; what = e } ∷ []) (next, may, refl) s.keeps;
  };
  ran = λ p e k t may is s. record { on = on_ran p e k t s.on; keeps = ran_leaves laws p e.seen k t may is s.keeps };
}

-- who leaves owes none
no_debt : (k : ℕ) (s : Step) (e : Exit) (b : Bool) (w : Components) → AreLeaving w → OwesAt w k s e b → ⊥
no_debt k s e b w l o = by (slice_get w.parts k) refl o
  where
    by : (x : Option ComponentState) → slice_get w.parts k ≡ x → IsSomeAnd x (λ p. (p.owed ≡ Some (s, e)) × (is_broken p.life.state ≡ b) ×
        (place_of (component_name p) w.parts ≡ Some k)) → ⊥
    by None is h = absurd h
    by (Some p) is h = no_some (s, e) (sym (at_places IsLeavingPart w.parts l.each k p is).1 ∙ h.0)

turn_in : {q : SessionState} {world : Components} {told : Told} {living : List ℕ} → InStage q → turn.IsInTurn q world told living →
    IsInTurn q world told living
turn_in s r = record {
  within = record {
    on = s.on;
    keeps = s.keeps;
    answered = r.within.answered;
    moment = r.within.moment;
    asked = r.within.asked;
    due = r.within.due;
    children = r.within.children;
  };
  probed = r.probed;
  world_is = r.world_is;
}

module _ (laws : Laws) (p : SessionState) (on : IsOn p) (keeps : AreLeaving p.world) {old new : Option (List RunnerEntry)} where
  stage_after : (h : List TraceEvent) → ActsInTurn p h old new → InStage (state_after p h)
  stage_after h a = kept_along InStage (stage_kept laws) p h a.acts.proper a.each (record { on = on; keeps = keeps })

  -- what a part of a turn leaves it leaves in the stage
  pub turn_left : {world : Components} {told : Told} {living : List ℕ} →
      ((h : List TraceEvent) × ActsInTurn p h old new × turn.IsInTurn (state_after p h) world told living) →
      (h : List TraceEvent) × ActTrace p h old new × IsInTurn (state_after p h) world told living
  turn_left x = (x.0, x.1.acts, turn_in (stage_after x.0 x.1) x.2)

  -- so it is where no act is left
  pub quiet_left : {world : Components} {told : Told} {living : List ℕ} →
      ((h : List TraceEvent) × ActsInTurn p h old new × (turn.IsInTurn (state_after p h) world told living × IsQuiet (state_after p h).world)) →
      (h : List TraceEvent) × ActTrace p h old new × (IsInTurn (state_after p h) world told living × IsQuiet (state_after p h).world)
  quiet_left x = (x.0, x.1.acts, (turn_in (stage_after x.0 x.1) x.2.0, x.2.1))

  -- and none fails
  pub none_fails : {k : ℕ} {s : Step} {e : Exit} {world : Components} {told : Told} {living : List ℕ} →
      ((h : List TraceEvent) × ActsInTurn p h old new × turn.HasFailed (state_after p h) k s e world told living) → ⊥
  none_fails {k} {s} {e} x = no_debt k s e x.2.breaks (state_after p x.0).world (stage_after x.0 x.1).keeps x.2.owes

-- ---- a turn's start

-- back at a start
pub comes_of : (p : SessionState) (d : Device) (world : Components) (told : Told) (living : List ℕ) → IsInTurn p world told living → p.device ≡ d →
    IsAtTurnStart p d world told living
comes_of p d world told living r device = record {
  stands = (turn_comes p d world told living (turn_of r) device).stands;
  on = r.within.on;
  keeps = r.within.keeps;
  probed = r.probed;
}
