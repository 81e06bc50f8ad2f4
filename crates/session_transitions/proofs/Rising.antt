-- Where a stage begins its items may be brought up.
use Rattle.std.specs.Prelude.{ℕ, Bool, true, false, not, ◌&&◌, ◌||◌, List, [], ◌∷◌, length, Option, Some, None, if◌then◌else◌}
use Rattle.std.specs.List.{list_any}
use Rattle.std.specs.Option.{IsSomeAnd}
use Rattle.std.proofs.Common.{◌≡◌, ◌≤◌, ◌⊎◌, ◌∙◌, inl, inr, refl, sym, ap, subst, arith}
use Rattle.std.proofs.lemmas.Bool.{false≢true}
use Rattle.nuc_base.specs.declared.platform.Platform.{Platform}
use Rattle.device.specs.Devices.{Device, Pending}
use Rattle.device.specs.declared.staged.Stage.{Stage}
use Rattle.device.specs.declared.staged.Stage.TheVariants as stages
use Rattle.deploy_state.specs.States.{IsIn}
use Rattle.step_runner.specs.Entries.{Told}
use Rattle.components.specs.Answers.{has_answered, standing_count}
use Rattle.components.specs.Changes.{standing}
use Rattle.components.specs.Events.{later}
use Rattle.components.specs.Platforms.{AllRunFor}
use Rattle.components.specs.Turns.{is_late, is_to_start, is_unstarted, may_act, may_begin, may_retry, may_stop}
use Rattle.components.specs.Components.{ComponentState, Components, has_orphan, is_over, is_stopped}
use Rattle.law_supervisor.specs.Sound.{IsOrderly}
use Rattle.histories.specs.Phases.{Generation, Phase, activating, backing, booting, duty_in, duty_of, idle, draining, previous, rolling}
use Rattle.histories.specs.States.{SessionState}
use Rattle.histories.specs.Follows.{MayChangeIn}
use Rattle.histories.specs.Courses.{IsStateOf}
use Rattle.session_boots.specs.Stands.{IsAtBootStage, IsOpened}
use Rattle.session_boots.proofs.Opened.{opened_at}
use Rattle.session_startup.specs.Runs.{rises}
use Rattle.session_transitions.specs.Enters.{MayEnter, RunOn}

-- ---- the stage

abbrev pends : Device → Option Pending → Device
pends d o = record d { pending = o }

pub rises_in : (d : Device) → IsIn stages.Activating d ⊎ IsIn stages.Rolling d → rises (duty_of d).phase ≡ true
rises_in d is = by d.pending is
  where
    by : (o : Option Pending) → IsSomeAnd o (λ q. q.stage ≡ stages.Activating) ⊎ IsSomeAnd o (λ q. q.stage ≡ stages.Rolling) →
        rises (duty_of (pends d o)).phase ≡ true
    by None (inl is) = absurd is
    by None (inr is) = absurd is
    by (Some q) (inl is) = subst (λ (s : Stage). rises (duty_in (pends d (Some q)) (record q { stage = s })).phase ≡ true) (sym is) refl
    by (Some q) (inr is) = subst (λ (s : Stage). rises (duty_in (pends d (Some q)) (record q { stage = s })).phase ≡ true) (sym is) refl

may_rise : (f : Phase) (c : Generation) (p : SessionState) → rises f ≡ true → c ≡ draining → is_stopped p.world ≡ true → MayChangeIn f c p
may_rise idle c p up generation stopped = absurd (false≢true up)
may_rise booting c p up generation stopped = absurd (false≢true up)
may_rise activating c p up generation stopped = subst (λ (x : Generation). MayChangeIn activating x p) (sym generation) tt
may_rise backing c p up generation stopped = absurd (false≢true up)
may_rise rolling c p up generation stopped = subst (λ (x : Generation). MayChangeIn rolling x p) (sym generation) stopped

-- the plan's items may come whether or not those of before stand
may_activate : (d : Device) → IsIn stages.Activating d → (b : Bool) (p : SessionState) → MayChangeIn (duty_of d).phase (if b then draining else previous) p
may_activate d is b p = by d.pending is
  where
    either : (b : Bool) → MayChangeIn activating (if b then draining else previous) p
    either true = tt
    either false = tt

    by : (o : Option Pending) → IsSomeAnd o (λ q. q.stage ≡ stages.Activating) →
        MayChangeIn (duty_of (pends d o)).phase (if b then draining else previous) p
    by None is = absurd is
    by (Some q) is = subst (λ (s : Stage). MayChangeIn (duty_in (pends d (Some q)) (record q { stage = s })).phase (if b then draining else previous) p)
        (sym is) (either b)

-- ---- where none may act and each start is answered, none is open

or_none : (a b : Bool) → (a || b) ≡ false → (a ≡ false) × (b ≡ false)
or_none true b e = absurd (false≢true (sym e))
or_none false b e = (refl, e)

started : (u h : Bool) → (u && not h) ≡ false → h ≡ false → u ≡ false
started true true e shut = absurd (false≢true (sym shut))
started true false e shut = absurd (false≢true (sym e))
started false h e shut = refl

shut_step : (b rest : Bool) → not (b || rest) ≡ true → (b ≡ false) × (not rest ≡ true)
shut_step true rest h = absurd (false≢true h)
shut_step false rest h = (refl, h)

both_none : (a b : Bool) → a ≡ false → b ≡ false → (a || b) ≡ false
both_none a b e f = rw e f

pub none_begun : (w : Components) (ps : List ComponentState) → list_any (may_act w) ps ≡ false → not (list_any (λ (p : ComponentState). p.handed) ps) ≡ true →
    list_any is_unstarted ps ≡ false
none_begun w [] quiet shut = refl
none_begun w (p ∷ ps) quiet shut =
    let acts = or_none (may_act w p) (list_any (may_act w) ps) quiet in
    let s = shut_step p.handed (list_any (λ (q : ComponentState). q.handed) ps) shut in
    let late = or_none (may_begin w p || may_retry p) (is_late w.moment p || (may_stop w p || (has_orphan p || is_to_start p))) acts.0 in
    let stops = or_none (is_late w.moment p) (may_stop w p || (has_orphan p || is_to_start p)) late.1 in
    let orphans = or_none (may_stop w p) (has_orphan p || is_to_start p) stops.1 in
    let starts = or_none (has_orphan p) (is_to_start p) orphans.1 in
    both_none (is_unstarted p) (list_any is_unstarted ps) (started (is_unstarted p) p.handed starts.1 s.0) (none_begun w ps acts.1 s.1)

answered_at : (w v : Components) (m : ℕ) → w ≡ later m v → has_answered v ≡ true → has_answered w ≡ true
answered_at w v m is answered = ap has_answered is ∙ answered

-- ---- from where a stage begins

module _ (p : SessionState) (d : Device) (world : Components) (told : Told) (living : List ℕ) where
  -- what the supervisor knows of is orderly where the state is: a moment changes no component
  pub orderly_at : IsStateOf p d world told living → IsOrderly world → IsOrderly p.world
  orderly_at s orderly = subst IsOrderly (sym s.world_is) (record { sound = orderly.sound; differ = orderly.differ; names = orderly.names })

  enters : IsOpened p d world told living → IsOrderly world → MayChangeIn (duty_of d).phase p.generation p → MayEnter p d world told living
  enters o orderly stage = record {
    stands = o.stands;
    stage = stage;
    recorded = o.quiet.owes_none;
    begun = none_begun p.world p.world.parts o.quiet.none (answered_at p.world world told.moment o.stands.world_is o.stands.answered);
    orderly = orderly_at o.stands orderly;
    boot = o.boot;
    boot_end = o.boot_end;
    over = o.over;
    cut = o.cut;
  }

  -- the plan's items, while those of before stand
  pub opened_enters : IsOpened p d world told living → IsOrderly world → IsIn stages.Activating d → MayEnter p d world told living
  opened_enters o orderly is = enters o orderly
      (subst (λ (c : Generation). MayChangeIn (duty_of d).phase c p) (sym o.generation) (may_activate d is (is_stopped p.world) p))

  -- where none stands, those of either stage
  pub may_enter : IsAtBootStage p d world told living → IsOrderly world → IsIn stages.Activating d ⊎ IsIn stages.Rolling d → MayEnter p d world told living
  may_enter f orderly is = enters (opened_at p d world told living f) orderly
      (may_rise (duty_of d).phase p.generation p (rises_in d is) f.between.still.generation f.between.still.stopped)

  pub stopped_in : IsAtBootStage p d world told living → is_stopped world ≡ true
  stopped_in f = sym (ap (λ (w : Components). is_stopped w) f.between.stands.world_is) ∙ f.between.still.stopped

-- ---- what a change to other items asks where none stands

none_in : (ps : List ComponentState) → not (list_any (λ p. not (is_over p)) ps) ≡ true → standing ps ≡ []
none_in [] stopped = refl
none_in (p ∷ ps) stopped = by (not (is_over p)) stopped (none_in ps)
  where
    by : (b : Bool) → not (b || list_any (λ p. not (is_over p)) ps) ≡ true → (not (list_any (λ p. not (is_over p)) ps) ≡ true → standing ps ≡ []) →
        (if b then p ∷ standing ps else standing ps) ≡ []
    by true stopped rest = absurd (false≢true stopped)
    by false stopped rest = rest stopped

none_standing : (w : Components) → is_stopped w ≡ true → standing w.parts ≡ []
none_standing w stopped = none_in w.parts stopped

-- what runs for a platform
runs_standing : (platform : Platform) (ps : List ComponentState) → AllRunFor platform ps → AllRunFor platform (standing ps)
runs_standing platform [] a = tt
runs_standing platform (p ∷ ps) a = by (not (is_over p)) (runs_standing platform ps a.1)
  where
    by : (b : Bool) → AllRunFor platform (standing ps) → AllRunFor platform (if b then p ∷ standing ps else standing ps)
    by true rest = (a.0, rest)
    by false rest = rest

pub run_standing : (d : Device) (ps : List ComponentState) → RunOn d ps → RunOn d (standing ps)
run_standing d ps run = λ o is. runs_standing o.platform ps (run o is)

pub run_none : (d : Device) (w : Components) → is_stopped w ≡ true → RunOn d (standing w.parts)
run_none d w stopped = subst (λ (ps : List ComponentState). RunOn d ps) (sym (none_standing w stopped)) (λ o is. tt)

pub room_for_none : (w : Components) (room : ℕ) → is_stopped w ≡ true → standing_count w ≤ room
room_for_none w room stopped = let none = ap (λ (ps : List ComponentState). length ps) (none_standing w stopped) in omega (arith, none)
