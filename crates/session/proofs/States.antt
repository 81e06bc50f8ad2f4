-- Where a call is that drives one deployment: from its start, and behind its close.
use Rattle.std.specs.Prelude.{ℕ, ◌+◌, zero, Bool, true, false, not, ◌||◌, List, [], ◌∷◌, Option, Some, None, Contains, is_some}
use Rattle.std.specs.List.{list_any}
use Rattle.std.specs.Option.{IsSome, IsSomeAnd}
use Rattle.std.proofs.Common.{◌≡◌, ◌⊎◌, ◌∙◌, inl, inr, refl, sym, ap, subst, arith}
use Rattle.std.proofs.lemmas.Bool.{false≢true}
use Rattle.nuc_base.specs.declared.kinds.Outcome.{Outcome}
use Rattle.nuc_base.specs.declared.kinds.Step.{Step}
use Rattle.nuc_base.specs.declared.status.Status.{Status}
use Rattle.records.specs.Stored.{Plan, Accepted}
use Rattle.device.specs.Devices.{Device, Pending}
use Rattle.step_runner.specs.Entries.{Told}
use Rattle.step_runner.specs.declared.entries.Seen.{Seen}
use Rattle.step_runner.specs.declared.entries.Seen.TheVariants as seen
use Rattle.components.specs.Components.{Components, Child, ComponentState, is_over, is_stopped, owner, owner_from}
use Rattle.components.specs.Answers.{living_numbers}
use Rattle.components.specs.Turns.{owes}
use Rattle.components.specs.declared.kinds.Prepared.{Prepared}
use Rattle.law_supervisor.specs.Sound.{AreSound, AreDistinct, HaveOwnNames, IsOrderly}
use Rattle.histories.specs.Phases.{Generation, Phase, duty_of, idle, is_shutting_down}
use Rattle.histories.specs.TraceEvents.{TraceEvent, Ran, Booted, WaitElapsed, KilledOnAbort, Recorded, Moved, ReadClock, Heard, InboxAsked, Changed, StopsAll}
use Rattle.histories.specs.States.{SessionState, booted, cut_off, leaves, state_after}
use Rattle.histories.specs.Follows.{IsLiving, MayStopAll}
use Rattle.histories.specs.Courses.{IsBare, IsEnd, IsStateOf, gives_up, is_restart}
use Rattle.session_boots.specs.Stands.{IsBetween, IsAtBootStage}
use Rattle.session_boots.proofs.Entries.{never}
use Rattle.session_boots.proofs.Still.{childless}
use Rattle.session_startup.specs.Ended.{HasClosed}
use Rattle.session_shutdown.specs.Stops.{HasStopped, MayStop}
use Rattle.session_transitions.proofs.Closing.{no_other}
use Rattle.session_admission.specs.Accepts.{IsOpen}
use Rattle.components.specs.Changes.{standing}
use Rattle.session_transitions.specs.Enters.{RunOn}
use Rattle.session_transitions.proofs.Rising.{orderly_at, run_none}
use Rattle.session.specs.Calls.{IsOrEdge}
use Rattle.session.specs.Parts.{IsReturned, IsShut, MayGiveUp}

-- ---- whether the call serves an inbox

booted_serves : (s : Seen) (m : Prepared) (p : SessionState) → (booted s m p).serves ≡ p.serves
booted_serves (seen.Started n c) m p = refl
booted_serves (seen.Refused c) m p = refl
booted_serves (seen.Killed n) m p = refl
booted_serves (seen.Exists x true) m p = refl
booted_serves (seen.Exists x false) m p = refl
booted_serves (seen.OnPath x true) m p = refl
booted_serves (seen.OnPath x false) m p = refl
booted_serves (seen.Ended n e l) m p = refl
booted_serves (seen.Elapsed l) m p = refl

cut_serves : (s : Seen) (p : SessionState) → (cut_off s p).serves ≡ p.serves
cut_serves (seen.Started n c) p = refl
cut_serves (seen.Refused c) p = refl
cut_serves (seen.Killed n) p = refl
cut_serves (seen.Exists x b) p = refl
cut_serves (seen.OnPath x b) p = refl
cut_serves (seen.Ended n e l) p = refl
cut_serves (seen.Elapsed l) p = refl

still_serves : (p : SessionState) (e : TraceEvent) → (leaves p e).serves ≡ p.serves
still_serves p (Ran e k s) = refl
still_serves p (Booted e m) = booted_serves e.seen m p
still_serves p (WaitElapsed e) = refl
still_serves p (KilledOnAbort e) = cut_serves e.seen p
still_serves p (Recorded r) = refl
still_serves p (Moved k e) = refl
still_serves p (ReadClock m) = refl
still_serves p (Heard k) = refl
still_serves p (InboxAsked a) = refl
still_serves p (Changed f c b) = refl
still_serves p StopsAll = refl

-- it is not changed by what happens
pub serves_on : (p : SessionState) (h : List TraceEvent) → p.serves ≡ false → (state_after p h).serves ≡ false
serves_on p [] is = is
serves_on p (e ∷ h) is = still_serves (state_after p h) e ∙ serves_on p h is

-- ---- no child lives

empty : (xs : List ℕ) → ((n : ℕ) → Contains xs n → ⊥) → xs ≡ []
empty [] none = refl
empty (x ∷ xs) none = absurd (none x (zero, omega arith, refl))

either_none : (a b : Bool) → (a || b) ≡ false → (a ≡ false) × (b ≡ false)
either_none true b h = absurd cc
either_none false b h = (refl, h)

abbrev has_child : List Child → Bool
has_child cs = elim cs [ [] ↦ false | ◌∷◌ c ds ↦ true ]

without_child : (cs : List Child) → has_child cs ≡ false → cs ≡ []
without_child [] h = refl
without_child (c ∷ cs) h = absurd cc

no_owner_in : (k n : ℕ) (ps : List ComponentState) → list_any (λ (p : ComponentState). has_child p.children) ps ≡ false → owner_from k n ps ≡ None
no_owner_in k n [] h = refl
no_owner_in k n (p ∷ ps) h =
    let s = either_none (has_child p.children) (list_any (λ (q : ComponentState). has_child q.children) ps) h in
    rw (without_child p.children s.0) (no_owner_in (k + 1) n ps s.1)

not_false : (a : Bool) → not a ≡ true → a ≡ false
not_false true h = absurd cc
not_false false h = refl

no_part : (o : Option (ℕ × Step)) → o ≡ None → IsSome o → ⊥
no_part None is h = absurd cc
no_part (Some x) is h = absurd cc

no_boot : (o : Option Child) (n : ℕ) → o ≡ None → IsSomeAnd o (λ (c : Child). c.number ≡ n) → ⊥
no_boot o n is h = subst (λ (x : Option Child). IsSomeAnd x (λ (c : Child). c.number ≡ n)) is h

none_lives : (p : SessionState) (n : ℕ) → IsBare p → IsLiving n p → ⊥
none_lives p n bare (inl h) = no_part (owner n p.world.parts)
    (no_owner_in 0 n p.world.parts (not_false (list_any (λ (q : ComponentState). has_child q.children) p.world.parts) bare.parts)) h
none_lives p n bare (inr h) = no_boot p.boot n bare.boot h

pub bare_none : (p : SessionState) (d : Device) (world : Components) (told : Told) (living : List ℕ) → IsStateOf p d world told living → IsBare p → living ≡ []
bare_none p d world told living s bare = empty living (λ n h. none_lives p n bare ((s.children n).0 h))

pub between_bare : (p : SessionState) (d : Device) (world : Components) (told : Told) (living : List ℕ) → IsBetween p d world told living → IsBare p
between_bare p d world told living b = record { parts = childless p.world b.still.stopped; boot = b.boot }

-- ---- no component stands

stopped_none : (w : Components) → w.parts ≡ [] → is_stopped w ≡ true
stopped_none w none = ap (λ (ps : List ComponentState). not (list_any (λ p. not (is_over p)) ps)) none

pub orderly_none : (w : Components) → w.parts ≡ [] → IsOrderly w
orderly_none w none = record {
  sound = subst (λ (ps : List ComponentState). AreSound ps) (sym none) (λ k p there. absurd cc);
  differ = subst (λ (ps : List ComponentState). AreDistinct (living_numbers ps)) (sym none) tt;
  names = subst (λ (ps : List ComponentState). HaveOwnNames ps) (sym none) (λ j k p q at_first at_last same. absurd cc);
}

-- what runs is none
pub run_standing_none : (d : Device) (w : Components) → w.parts ≡ [] → RunOn d (standing w.parts)
run_standing_none d w none = run_none d w (stopped_none w none)

-- a moment brings none
none_there : (p : SessionState) (d : Device) (world : Components) (told : Told) (living : List ℕ) → IsStateOf p d world told living → world.parts ≡ [] →
    p.world.parts ≡ []
none_there p d world told living s none = ap (λ (w : Components). w.parts) s.world_is ∙ none

pub none_stopped : (p : SessionState) (d : Device) (world : Components) (told : Told) (living : List ℕ) → IsStateOf p d world told living → world.parts ≡ [] →
    is_stopped p.world ≡ true
none_stopped p d world told living s none = stopped_none p.world (none_there p d world told living s none)

-- ---- where the device is in hand

idle_phase : (d : Device) → d.pending ≡ None → (duty_of d).phase ≡ idle
idle_phase d is = by d.pending is
  where
    by : (o : Option Pending) → o ≡ None → (duty_of (record d { pending = o })).phase ≡ idle
    by None none = refl
    by (Some q) none = absurd cc

module _ (p : SessionState) (d : Device) (world : Components) (told : Told) (living : List ℕ) where
  pub open_returned : IsOpen p d world told living → IsOrderly world → d.pending ≡ None → IsReturned p d world told living
  open_returned o orderly none = record {
    stands = o.stands;
    quiet = o.quiet;
    orderly = orderly_at p d world told living o.stands orderly;
    idle_is = none;
    going = o.going;
    boot = o.boot;
    boot_end = o.boot_end;
    over = o.over;
    cut = o.cut;
  }

  pub stage_returned : IsAtBootStage p d world told living → IsOrderly world → d.pending ≡ None → IsReturned p d world told living
  stage_returned f orderly none =
      let still = f.between.still in
      record {
        stands = f.between.stands;
        quiet = still.quiet;
        orderly = orderly_at p d world told living f.between.stands orderly;
        idle_is = none;
        going = ap (λ (c : Generation). is_shutting_down c) still.generation;
        boot = f.between.boot;
        boot_end = f.between.boot_end;
        over = f.over;
        cut = still.cut;
      }

  pub closed_returned : (o : Outcome) (generation : Generation) (h : List TraceEvent) → HasClosed o generation h p d world told living → d.pending ≡ None →
      IsReturned p d world told living
  closed_returned o generation h c none = record {
    stands = c.stands;
    quiet = c.quiet;
    orderly = c.orderly;
    idle_is = none;
    going = c.back.going;
    boot = c.back.boot;
    boot_end = c.back.boot_end;
    over = c.back.over;
    cut = c.back.cut;
  }

  module _ (r : IsReturned p d world told living) where
    pub returned_may : MayGiveUp p world told living
    returned_may = (
      record {
        moment = sym (ap (λ (w : Components). w.moment) r.stands.world_is);
        asked = r.stands.asked;
        boot = r.boot;
        boot_end = r.boot_end;
        over = r.over;
        cut = r.cut;
        differ = r.orderly.differ;
        owners = λ n. sym (ap (λ (w : Components). owner n w.parts) r.stands.world_is);
        children = λ n. no_other p n living r.boot (r.stands.children n);
      },
      ap (λ (w : Components). is_stopped w) r.stands.world_is,
    )

    pub returned_shut : is_stopped p.world ≡ true → IsShut p
    returned_shut stopped = record { stopped = stopped; owes_none = r.quiet.owes_none; boot = r.boot; boot_end = r.boot_end; over = r.over; cut = r.cut }

    -- all may be stopped
    pub returned_stops : p.serves ≡ false → MayStop p d world told living
    returned_stops serves = record {
      stands = r.stands;
      may = subst (λ (f : Phase). MayStopAll (duty_of p.device) f p.generation p)
          (sym (ap (λ (x : Device). (duty_of x).phase) r.stands.device_is ∙ idle_phase d r.idle_is))
          (λ on. absurd (never p.serves serves on));
      orderly = r.orderly;
      owed = r.quiet.owes_none;
      boot = r.boot;
      boot_end = r.boot_end;
      over = r.over;
      cut = r.cut;
    }

  -- once all were
  pub stopped_shut : HasStopped p d world told living → IsShut p
  stopped_shut s = record { stopped = s.stopped; owes_none = s.quiet.owes_none; boot = s.bare.boot; boot_end = s.boot_end; over = s.over; cut = s.cut }

-- the acceptance was recorded, and the call gives up
pub accepted_may : (p : SessionState) (d : Device) (world : Components) (told : Told) (living : List ℕ) (plan : Plan) → IsOpen p d world told living →
    IsOrderly world → MayGiveUp (leaves p (Recorded (Accepted plan))) world told living
accepted_may p d world told living plan o orderly =
    let s = o.stands in
    let own = orderly_at p d world told living s orderly in (
      record {
        moment = sym (ap (λ (w : Components). w.moment) s.world_is);
        asked = s.asked;
        boot = o.boot;
        boot_end = o.boot_end;
        over = refl;
        cut = o.cut;
        differ = own.differ;
        owners = λ n. sym (ap (λ (w : Components). owner n w.parts) s.world_is);
        children = λ n. no_other p n living o.boot (s.children n);
      },
      ap (λ (w : Components). is_stopped w) s.world_is,
    )

-- ---- nothing is done from there

pub stage_shut : (p : SessionState) (d : Device) (world : Components) (told : Told) (living : List ℕ) → IsAtBootStage p d world told living → IsShut p
stage_shut p d world told living f = record {
  stopped = f.between.still.stopped;
  owes_none = f.between.still.quiet.owes_none;
  boot = f.between.boot;
  boot_end = f.between.boot_end;
  over = f.over;
  cut = f.between.still.cut;
}

pub shut_bare : (p : SessionState) → IsShut p → IsBare p
shut_bare p s = record { parts = childless p.world s.stopped; boot = s.boot }

-- so a call may end that does nothing
pub shut_ends : (p : SessionState) (status : Status) (rose : Bool) → IsShut p → is_restart status ≡ false → IsEnd p status rose
shut_ends p status rose s other = record {
  bare = shut_bare p s;
  stopped = λ stays. s.stopped;
  cut = λ is. absurd (never p.cut s.cut is);
  owes_none = λ closed. s.owes_none;
  recorded = inl s.boot_end;
  restarts = λ is. absurd (never (is_restart status) other is);
  over = λ is. absurd (never p.over s.over is);
}

-- ---- no child lives

pub quit_bare : (p : SessionState) (world : Components) (told : Told) (living : List ℕ) → MayGiveUp p world told living → is_stopped world ≡ true → IsBare p
quit_bare p world told living m stopped = record { parts = childless p.world (m.1 ∙ stopped); boot = m.0.boot }

pub quit_none : (p : SessionState) (world : Components) (told : Told) (living : List ℕ) → MayGiveUp p world told living → is_stopped world ≡ true → living ≡ []
quit_none p world told living m stopped = empty living (λ n h. none_lives p n (quit_bare p world told living m stopped) (inl ((m.0.children n).0 h)))

-- ---- a bootstrap asks that the call ends

pub restart_ends : (p : SessionState) (d : Device) (world : Components) (told : Told) (living : List ℕ) (status again : Status) →
    IsBetween p d world told living → p.over ≡ true → is_restart again ≡ true → IsOrEdge status again → IsEnd p status false
restart_ends p d world told living status again b over restarts answers = record {
  bare = between_bare p d world told living b;
  stopped = λ stays. b.still.stopped;
  cut = λ is. absurd (never p.cut b.still.cut is);
  owes_none = λ closed. b.still.quiet.owes_none;
  recorded = inl b.boot_end;
  restarts = λ is. over;
  over = λ is. ends answers;
}
  where
    ends : IsOrEdge status again → (is_restart status ≡ true) ⊎ (gives_up status ≡ true)
    ends (inl same) = inl (ap is_restart same ∙ restarts)
    ends (inr edge) = inr (ap gives_up edge)

-- ---- what was taken before

-- the same state, in which a document was taken exactly where one is pending
abbrev pub untaken : SessionState → SessionState
untaken p = record p { taken = is_some p.device.pending }

pub untaken_stage : (p : SessionState) (d : Device) (world : Components) (told : Told) (living : List ℕ) → IsAtBootStage p d world told living →
    IsAtBootStage (untaken p) d world told living
untaken_stage p d world told living f =
    let s = f.between.stands in
    let still = f.between.still in
    record {
      between = record {
        stands = record {
          device_is = s.device_is;
          world_is = s.world_is;
          answered = s.answered;
          not_before = s.not_before;
          asked = s.asked;
          children = s.children;
        };
        still = record { stopped = still.stopped; quiet = still.quiet; generation = still.generation; cut = still.cut };
        boot = f.between.boot;
        boot_end = f.between.boot_end;
        probed = f.between.probed;
      };
      over = f.over;
    }
