-- What each event keeps of the components: they run their items, and no deployment is driven where nothing is pending.
use Rattle.std.specs.Prelude.{ℕ, true, false, List, [], ◌∷◌, Option, Some, None}
use Rattle.std.proofs.Common.{◌≡◌, ◌∙◌, refl, sym, ap, subst}
use Rattle.nuc_base.specs.declared.kinds.Step.{Step}
use Rattle.nuc_base.specs.declared.platform.Platform.{Platform}
use Rattle.records.specs.Stored.{Record, Accepted, BootBegun, BootEnded, Activating, StepFailed, Failing, FailingBack, Closed}
use Rattle.records.specs.declared.record.Origin.{Origin}
use Rattle.device.specs.Devices.{Device, Pending}
use Rattle.device.specs.Lawful.{Allowed, applied}
use Rattle.device.specs.declared.staged.Stage.{Stage}
use Rattle.device.specs.declared.staged.Stage.TheVariants as stages
use Rattle.step_runner.specs.declared.entries.Seen.{Seen}
use Rattle.step_runner.specs.declared.entries.Seen.TheVariants as seen
use Rattle.components.specs.Acts.{Move, MovesInOrder}
use Rattle.components.specs.Components.{Components, child_gone, owner, place_of, without_child}
use Rattle.components.specs.Events.{killed, heard_at, heard_of}
use Rattle.components.specs.Lives.{lived_at}
use Rattle.components.specs.Platforms.{AllFor, AllRunFor, RunsFor}
use Rattle.components.specs.declared.kinds.Event.TheVariants as events
use Rattle.components.proofs.Platforms.{ready_for, run_change, run_noticed, run_steadied, run_stopped}
use Rattle.law_supervisor.proofs.Begun.{started_steady}
use Rattle.law_supervisor.proofs.Gone.{ended_steady, killed_steady}
use Rattle.law_supervisor.proofs.Lists.{changed_all}
use Rattle.histories.specs.Follows.{IsProper, MayFollow, MayKeep}
use Rattle.histories.specs.Phases.{duty_in, duty_of, is_idle}
use Rattle.histories.specs.States.{SessionState, cut_child, cut_off, kept_by, leaves, ran, state_after}
use Rattle.histories.specs.TraceEvents.{TraceEvent, Ran, Booted, WaitElapsed, KilledOnAbort, Recorded, Moved, ReadClock, Heard, InboxAsked, Changed, StopsAll}
use Rattle.law_histories.proofs.Histories.{Runs, run_less}
use Rattle.law_serving.specs.Kept.{IsSteadyIdle}
use Rattle.law_serving.proofs.Records.{Allows, allows, booted_device, cut_device, origin_on, stays_idle, taken_pends}
use Rattle.law_histories.proofs.StepEnds.{booted_world}

-- ---- the device's origin and stage

duty_origin : (d : Device) (o : Option Pending) → (duty_of (record d { pending = o })).origin ≡ d.origin
duty_origin d None = refl
duty_origin d (Some q) = by (record d { pending = Some q }) q
  where
    at : (d : Device) (q : Pending) (s : Stage) → (duty_in d (record q { stage = s })).origin ≡ d.origin
    at d q stages.Booting = refl
    at d q stages.Activating = refl
    at d q stages.Backing = refl
    at d q stages.Rolling = refl

    by : (d : Device) (q : Pending) → (duty_in d q).origin ≡ d.origin
    by d q = at d q q.stage

-- what befalls the components keeps it
pub record KeepRecipes : Type 0 where
  pub moves : (platform : Platform) (w v : Components) (ms : List Move) → MovesInOrder w ms v → AllRunFor platform w.parts → AllRunFor platform v.parts
  pub kills : (platform : Platform) (n : ℕ) (w : Components) → AllRunFor platform w.parts → AllRunFor platform (killed n w).parts
  pub tellings : (platform : Platform) (k : ℕ) (w : Components) → AllRunFor platform w.parts → AllRunFor platform (heard_at k w).parts

module _ (laws : KeepRecipes) (o : Origin) where
  abbrev Run_all : Components → Type 0
  Run_all w = AllRunFor o.platform w.parts

  ran_runs : (s : Seen) (k : ℕ) (t : Step) (w : Components) → Run_all w → Run_all (ran s k t w)
  ran_runs (seen.Started n c) k t w a = run_noticed o.platform (events.Started k t n) w a
  ran_runs (seen.Refused c) k t w a = run_noticed o.platform (events.Refused k t) w a
  ran_runs (seen.Killed n) k t w a = laws.kills o.platform n w a
  ran_runs (seen.Exists x true) k t w a = run_noticed o.platform (events.Skipped k t) w a
  ran_runs (seen.Exists x false) k t w a = a
  ran_runs (seen.OnPath x true) k t w a = run_noticed o.platform (events.Skipped k t) w a
  ran_runs (seen.OnPath x false) k t w a = a
  ran_runs (seen.Ended n e l) k t w a = run_noticed o.platform (events.Ended n e) w a
  ran_runs (seen.Elapsed l) k t w a = a

  cut_child_runs : (n : ℕ) (w : Components) → Run_all w → Run_all (cut_child n w)
  cut_child_runs n w a = by (owner n w.parts)
    where
      by : (x : Option (ℕ × Step)) → Run_all (elim x [ None ↦ w | Some y ↦ child_gone y.0 n w ])
      by None = a
      by (Some y) = changed_all (RunsFor o.platform) y.0 (without_child n) w.parts a (λ p q h. h)

  cut_runs : (s : Seen) (p : SessionState) → Run_all p.world → Run_all (cut_off s p).world
  cut_runs (seen.Killed n) p a = cut_child_runs n p.world a
  cut_runs s p a = a

  told_of_runs : (name : List ℕ) (w : Components) → Run_all w → Run_all (heard_of name w)
  told_of_runs name w a = by (place_of name w.parts)
    where
      by : (x : Option ℕ) → Run_all (elim x [ None ↦ w | Some k ↦ heard_at k w ])
      by None = a
      by (Some k) = laws.tellings o.platform k w a

  kept_runs : (r : Record) (w : Components) → Run_all w → Run_all (kept_by r w)
  kept_runs (StepFailed n s e) w a = told_of_runs n w a
  kept_runs (Closed x) w a = run_steadied o.platform w a
  kept_runs r w a = a

  same_origin : (a b : Origin) (x : Option Origin) → x ≡ Some a → x ≡ Some b → a ≡ b
  same_origin a b x one two = cc

  event_runs : (q : SessionState) (e : TraceEvent) → q.device.origin ≡ Some o → Run_all q.world → MayFollow q e → Run_all (leaves q e).world
  event_runs q (Ran e k s) is a may = ran_runs e.seen k s q.world a
  event_runs q (Booted e m) is a may = subst (λ (w : Components). Run_all w) (sym (booted_world e.seen m q)) a
  event_runs q (WaitElapsed e) is a may = a
  event_runs q (KilledOnAbort e) is a may = cut_runs e.seen q a
  event_runs q (Recorded r) is a may = kept_runs r q.world a
  event_runs q (Moved k e) is a may =
      laws.moves o.platform q.world (lived_at k e q.world) (record { who = k; what = e } ∷ []) (may.0.1, may.0.0, refl) a
  event_runs q (ReadClock m) is a may = a
  event_runs q (Heard k) is a may = laws.tellings o.platform k q.world a
  event_runs q (InboxAsked x) is a may = a
  event_runs q (Changed f c b) is a may =
      let m = may.0 in
      let own : (duty_of q.device).origin ≡ Some o = duty_origin q.device q.device.pending ∙ is in
      let same = same_origin m.origin o (duty_of q.device).origin m.of_device own in
      run_change o.platform f c b q.world (subst (λ (x : Origin). AllFor x.platform f) same (ready_for m.origin (duty_of q.device).items f m.made)) a
  event_runs q StopsAll is a may = run_stopped o.platform q.world a

device_origin : (q : SessionState) (e : TraceEvent) → MayFollow q e → (leaves q e).device.origin ≡ q.device.origin
device_origin q (Recorded r) may = origin_on q r may.0
device_origin q (Booted e m) may = ap (λ (d : Device). d.origin) (booted_device e.seen m q)
device_origin q (KilledOnAbort e) may = ap (λ (d : Device). d.origin) (cut_device e.seen q)
device_origin q e may = refl

both_run : (laws : KeepRecipes) (p : SessionState) (h : List TraceEvent) (o : Origin) → p.device.origin ≡ Some o → AllRunFor o.platform p.world.parts →
    IsProper p h → ((state_after p h).device.origin ≡ Some o) × AllRunFor o.platform (state_after p h).world.parts
both_run laws p [] o is a proper = (is, a)
both_run laws p (e ∷ h) o is a proper =
    let rest = both_run laws p h o is a proper.1 in
    (device_origin (state_after p h) e proper.0 ∙ rest.0, event_runs laws o (state_after p h) e rest.0 rest.1 proper.0)

pub all_run : (laws : KeepRecipes) (p : SessionState) (h : List TraceEvent) (o : Origin) → p.device.origin ≡ Some o → AllRunFor o.platform p.world.parts →
    IsProper p h → Runs p h → ((state_after p h).device.origin ≡ Some o) × AllRunFor o.platform (state_after p h).world.parts
all_run laws p h o is a proper run = both_run laws p h o is a proper

-- ---- the mode

mode_ran : (s : Seen) (k : ℕ) (t : Step) (w : Components) → (ran s k t w).steady ≡ w.steady
mode_ran (seen.Started n c) k t w = started_steady k t n w
mode_ran (seen.Refused c) k t w = refl
mode_ran (seen.Killed n) k t w = killed_steady n w
mode_ran (seen.Exists x true) k t w = refl
mode_ran (seen.Exists x false) k t w = refl
mode_ran (seen.OnPath x true) k t w = refl
mode_ran (seen.OnPath x false) k t w = refl
mode_ran (seen.Ended n e l) k t w = ended_steady n e w
mode_ran (seen.Elapsed l) k t w = refl

mode_told : (name : List ℕ) (w : Components) → (heard_of name w).steady ≡ w.steady
mode_told name w = by (place_of name w.parts)
  where
    by : (x : Option ℕ) → (let v : Components = (elim x [ None ↦ w | Some k ↦ heard_at k w ]) in v.steady) ≡ w.steady
    by None = refl
    by (Some k) = refl

mode_cut : (s : Seen) (p : SessionState) → (cut_off s p).world.steady ≡ p.world.steady
mode_cut (seen.Killed n) p = by (owner n p.world.parts)
  where
    by : (x : Option (ℕ × Step)) → (let v : Components = (elim x [ None ↦ p.world | Some y ↦ child_gone y.0 n p.world ]) in v.steady) ≡ p.world.steady
    by None = refl
    by (Some y) = refl
mode_cut s p = refl

-- ---- where nothing is pending

-- who closes is steady, and what else is kept leaves a deployment pending
steady_kept : (q : SessionState) (r : Record) → IsSteadyIdle q → MayKeep q r → Allowed q.device r → is_idle (duty_of (applied q.device r)).phase ≡ true →
    (kept_by r q.world).steady ≡ true
steady_kept q (Accepted x) steady may allowed is = absurd (taken_pends q (Accepted x) refl is)
steady_kept q (BootBegun n) steady may allowed is = steady (stays_idle q (BootBegun n) refl is)
steady_kept q (BootEnded n e) steady may allowed is = steady (stays_idle q (BootEnded n e) refl is)
steady_kept q Activating steady may allowed is = steady (stays_idle q Activating refl is)
steady_kept q (StepFailed n s e) steady may allowed is = mode_told n q.world ∙ steady (stays_idle q (StepFailed n s e) refl is)
steady_kept q (Failing n) steady may allowed is = steady (stays_idle q (Failing n) refl is)
steady_kept q (FailingBack n) steady may allowed is = steady (stays_idle q (FailingBack n) refl is)
steady_kept q (Closed o) steady may allowed is = refl
steady_kept q r steady may allowed is = absurd may

event_steady : (q : SessionState) (e : TraceEvent) → IsSteadyIdle q → MayFollow q e → Allows q e → IsSteadyIdle (leaves q e)
event_steady q (Ran e k s) steady may allowed = λ is. mode_ran e.seen k s q.world ∙ steady is
event_steady q (Booted e m) steady may allowed = λ is.
    ap (λ (w : Components). w.steady) (booted_world e.seen m q)
    ∙ steady (subst (λ (d : Device). is_idle (duty_of d).phase ≡ true) (booted_device e.seen m q) is)
event_steady q (WaitElapsed e) steady may allowed = steady
event_steady q (KilledOnAbort e) steady may allowed = λ is.
    mode_cut e.seen q ∙ steady (subst (λ (d : Device). is_idle (duty_of d).phase ≡ true) (cut_device e.seen q) is)
event_steady q (Recorded r) steady may allowed = λ is. steady_kept q r steady may.0 allowed is
event_steady q (Moved k e) steady may allowed = λ is. steady is
event_steady q (ReadClock m) steady may allowed = λ is. steady is
event_steady q (Heard k) steady may allowed = λ is. steady is
event_steady q (InboxAsked x) steady may allowed = λ is. steady is
event_steady q (Changed f c b) steady may allowed = λ is. may.0.mode ∙ is
event_steady q StopsAll steady may allowed = λ is. steady is

pub all_steady : (p : SessionState) (h : List TraceEvent) → IsSteadyIdle p → IsProper p h → Runs p h → IsSteadyIdle (state_after p h)
all_steady p [] steady proper run = steady
all_steady p (e ∷ h) steady proper run = event_steady (state_after p h) e (all_steady p h steady proper.1 (run_less p e h run)) proper.0 (allows p e h run)
