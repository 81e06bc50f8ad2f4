-- What may happen next, one relation for each kind of event.
use Rattle.std.specs.Prelude.{◌≡◌, ◌⊎◌, ℕ, ◌≤◌, Bool, true, false, List, [], ◌∷◌, Some, None, IsSome, IfSome, slice_get, ⊤}
use Rattle.std.specs.List.{list_any}
use Rattle.std.specs.Option.{IsSomeAnd}
use Rattle.nuc_base.specs.declared.kinds.Step.{Step}
use Rattle.nuc_base.specs.declared.kinds.Step.TheVariants as step
use Rattle.nuc_base.specs.declared.kinds.Exit.{Exit}
use Rattle.nuc_base.specs.declared.kinds.Outcome.{Outcome}
use Rattle.nuc_base.specs.declared.kinds.Outcome.TheVariants as outcomes
use Rattle.records.specs.Stored.{Item, Record, Accepted, BootBegun, BootEnded, Activating, StepFailed, Failing, FailingBack, Closed}
use Rattle.records.specs.declared.record.Origin.{Origin}
use Rattle.device.specs.Devices.{Device}
use Rattle.device.specs.Lawful.{backs, reach_of}
use Rattle.recipe_reader.specs.declared.recipe.Skip.{Skip}
use Rattle.recipe_reader.specs.declared.recipe.Skip.TheVariants as skips
use Rattle.step_runner.specs.declared.command.Command.{Command}
use Rattle.step_runner.specs.declared.entries.RunnerEntry.{RunnerEntry}
use Rattle.step_runner.specs.declared.entries.Seen.{Seen}
use Rattle.step_runner.specs.declared.entries.Seen.TheVariants as seen
use Rattle.components.specs.Fitted.{Fitted, prepared_of}
use Rattle.components.specs.Components.{Components, ComponentState, Child, At, owner, place_of, has_broken, is_settled, is_stopped}
use Rattle.components.specs.Turns.{IsNext, IsQuiet, is_begun, is_unstarted, owes}
use Rattle.components.specs.Acts.{MayMove, MayKill}
use Rattle.components.specs.Deadlines.{has_passed}
use Rattle.components.specs.Made.{AreFitted, IsStepAt}
use Rattle.components.specs.declared.kinds.Prepared.{Prepared}
use Rattle.histories.specs.Phases.{Phase, Duty, idle, booting, activating, backing, rolling, is_idle, has_boots, duty_of, Generation, previous, draining}
use Rattle.histories.specs.Phases.{current, is_current, is_shutting_down}
use Rattle.histories.specs.TraceEvents.{TraceEvent, Ran, Booted, WaitElapsed, KilledOnAbort, Recorded, Moved, ReadClock, Heard, InboxAsked, Changed, StopsAll}
use Rattle.histories.specs.TraceEvents.{is_document}
use Rattle.histories.specs.States.{SessionState, state_after}
use Rattle.histories.specs.Waits.{MayWait, boot_deadline, has_three, has_ended, may_drive}

-- the entry has its moment, and a moment was asked for where one was due
pub record IsEntry (p : SessionState) (e : RunnerEntry) : Type 0 where
  pub moment : e.moment ≡ p.world.moment
  pub asked : e.asked ≡ p.fresh
  pub due : p.due ≡ true → e.asked ≡ true

-- ---- components

-- the component's step, as it is prepared
abbrev pub HasStep : ComponentState → Step → (Prepared → Type 0) → Type 0
HasStep p s P = IsSomeAnd (prepared_of p.fitted s) P

-- this is started, and needs no probe or had one
abbrev pub IsStartOf : SessionState → Command → Prepared → Type 0
IsStartOf p c m = (c ≡ m.command) × ((m.skip ≡ None) ⊎ (p.probed ≡ true))

abbrev pub IsProbeOf : SessionState → Skip → Prepared → Type 0
IsProbeOf p x m = (m.skip ≡ Some x) × (p.probed ≡ false)

-- the component is next, and its step was begun
abbrev pub MayTry : SessionState → ℕ → Step → (Prepared → Type 0) → Type 0
MayTry p k s P = IsNext p.world k × At k (λ q. (is_begun s q ≡ true) × HasStep q s P) p.world.parts

abbrev pub MayRun : Duty → SessionState → Seen → ℕ → Step → Type 0
MayRun d p (seen.Started n c) k s = MayTry p k s (IsStartOf p c)
MayRun d p (seen.Refused c) k s = MayTry p k s (IsStartOf p c)
MayRun d p (seen.Exists x found) k s = MayTry p k s (IsProbeOf p (skips.Exists x))
MayRun d p (seen.OnPath x found) k s = MayTry p k s (IsProbeOf p (skips.OnPath x))
MayRun d p (seen.Killed n) k s = IsNext p.world k × MayKill p.world n k s
MayRun d p (seen.Ended n e limit) k s = MayWait d p limit × (owner n p.world.parts ≡ Some (k, s))
MayRun d p (seen.Elapsed limit) k s = ⊥

-- ---- bootstraps

-- This bootstrap, which was begun, is next, all components are stopped, and every failure and end is recorded.
pub record MayBoot (d : Duty) (p : SessionState) (m : Prepared) : Type 0 where
  pub phase : has_boots d.phase ≡ true
  pub begun : d.begun ≡ true
  pub origin : Origin
  pub of_device : d.origin ≡ Some origin
  pub at : ℕ
  pub item : Item
  pub there : slice_get d.boots at ≡ Some item
  pub next : d.next_bootstrap ≡ Some item.name
  pub prepared : IsStepAt origin d.boots at step.Bootstrap (Some m)
  pub stopped : is_stopped p.world ≡ true
  pub owes_none : list_any owes p.world.parts ≡ false
  pub alone : p.boot ≡ None
  pub no_end : p.boot_end ≡ None

abbrev pub IsBootChild : ℕ → SessionState → Type 0
IsBootChild n p = IsSomeAnd p.boot (λ (c : Child). c.number ≡ n)

abbrev pub MayBooted : Duty → SessionState → Seen → Prepared → Type 0
MayBooted d p (seen.Started n c) m = MayBoot d p m × IsStartOf p c m
MayBooted d p (seen.Refused c) m = MayBoot d p m × IsStartOf p c m
MayBooted d p (seen.Exists x found) m = MayBoot d p m × IsProbeOf p (skips.Exists x) m
MayBooted d p (seen.OnPath x found) m = MayBoot d p m × IsProbeOf p (skips.OnPath x) m
MayBooted d p (seen.Killed n) m = IsBootChild n p × (has_passed p.world.moment (boot_deadline p.boot) ≡ true)
MayBooted d p (seen.Ended n e limit) m = MayWait d p limit × IsBootChild n p
MayBooted d p (seen.Elapsed limit) m = ⊥

abbrev pub MaySleep : Duty → SessionState → Seen → Type 0
MaySleep d p (seen.Elapsed limit) = MayWait d p limit
MaySleep d p s = ⊥

-- ---- giving up

abbrev pub IsLiving : ℕ → SessionState → Type 0
IsLiving n p = IsSome (owner n p.world.parts) ⊎ IsBootChild n p

abbrev pub MayCut : SessionState → Seen → Type 0
MayCut p (seen.Killed n) = IsLiving n p
MayCut p s = ⊥

-- ---- records

-- No failure and no end of a bootstrap is to be recorded, no bootstrap lives, and the call is not at its end.
pub record IsClear (p : SessionState) : Type 0 where
  pub owes_none : list_any owes p.world.parts ≡ false
  pub alone : p.boot ≡ None
  pub no_end : p.boot_end ≡ None
  pub on : is_shutting_down p.generation ≡ false

-- the component of this name owes this failure
abbrev pub OwesBy : Components → List ℕ → Step → Exit → Type 0
OwesBy w name s e = IsSomeAnd (place_of name w.parts) (λ k. At k (λ p. p.owed ≡ Some (s, e)) w.parts)

-- the components of the stage are up, and none is to be stopped
abbrev pub IsUp : SessionState → Type 0
IsUp p = (is_current p.generation ≡ true) × (is_settled p.world ≡ true)

abbrev pub MayClose : SessionState → Outcome → Type 0
MayClose p outcomes.Successful = IsUp p
MayClose p outcomes.RollbackComplete = IsUp p
MayClose p outcomes.RollbackNotRequested = ⊤
MayClose p outcomes.UnableToRollback = ⊤

-- `serve` takes the document that the inbox gave, once the set was brought up
pub record MayTake (p : SessionState) : Type 0 where
  pub opened : p.opened ≡ true
  pub current : is_current p.generation ≡ true
  pub given : IsSomeAnd p.answer (λ a. is_document a ≡ true)

-- another call takes one document, where none is pending as it begins
abbrev pub MayTakeBy : Bool → SessionState → Type 0
MayTakeBy true p = MayTake p
MayTakeBy false p = p.taken ≡ false

-- No bootstrap of the set is to run again where the pending deployment is rolled back now.
abbrev pub HasNoBacks : Device → Type 0
HasNoBacks d = IsSomeAnd d.pending (λ q. backs d.origin d.set q.plan (reach_of q) ≡ [])

-- Whether the record is lawful is no matter of this: it is said of the records alone. Of the two records that roll a deployment
-- back, the one that names no bootstraps is kept only where there are none to run again.
abbrev pub MayKeep : SessionState → Record → Type 0
MayKeep p (Accepted x) = IsClear p × IsQuiet p.world × MayTakeBy p.serves p
MayKeep p (BootBegun n) = IsClear p × (is_stopped p.world ≡ true)
MayKeep p (BootEnded n e) = (p.boot ≡ None) × (p.boot_end ≡ Some e)
MayKeep p Activating = IsClear p
MayKeep p (StepFailed n s e) = OwesBy p.world n s e
MayKeep p (Failing n) = IsClear p × HasNoBacks p.device
MayKeep p (FailingBack n) = IsClear p
MayKeep p (Closed o) = IsClear p × MayClose p o
MayKeep p r = ⊥

-- ---- other items, and the stop of all

-- One is broken and not to be stopped, and every act was taken: what broke comes up again.
pub record MayComeAgain (p : SessionState) : Type 0 where
  pub opened : p.opened ≡ true
  pub broken : has_broken p.world ≡ true
  pub quiet : IsQuiet p.world

-- a table by phase and generation; what is not named is not allowed
abbrev pub MayChangeIn : Phase → Generation → SessionState → Type 0
MayChangeIn idle previous p = p.serves ≡ true
MayChangeIn idle draining p = p.serves ≡ true
MayChangeIn idle current p = (p.serves ≡ true) × ((p.opened ≡ false) ⊎ MayComeAgain p)
MayChangeIn activating previous p = ⊤
MayChangeIn activating draining p = ⊤
MayChangeIn rolling draining p = is_stopped p.world ≡ true
MayChangeIn f c p = ⊥

-- The items of the stage, made ready, with the recorded failures, of which none is the third.
pub record MayChange (d : Duty) (p : SessionState) (fitted : List Fitted) (counts : List ℕ) (steady : Bool) : Type 0 where
  pub phase : MayChangeIn d.phase p.generation p
  pub origin : Origin
  pub of_device : d.origin ≡ Some origin
  pub made : AreFitted origin d.items fitted
  pub recorded : counts ≡ d.counts
  pub few : has_three counts ≡ false
  pub mode : steady ≡ is_idle d.phase
  pub owes_none : list_any owes p.world.parts ≡ false
  pub answered : list_any is_unstarted p.world.parts ≡ false

-- before the first bootstrap of a stage
abbrev pub MayClear : Duty → SessionState → Type 0
MayClear d p = IsSome d.next_bootstrap × (p.boot ≡ None) × (p.boot_end ≡ None)

-- the inbox is closed, or was asked often enough, and what it gave last was waited for
abbrev pub MayLeave : SessionState → Type 0
MayLeave p = (p.opened ≡ true) × (has_ended p ≡ true)

-- A table by phase and generation: before the first bootstrap of a stage, where Rolling begins, and at the end of the call. What is not named is not allowed.
abbrev pub MayStopAll : Duty → Phase → Generation → SessionState → Type 0
MayStopAll d idle c p = p.serves ≡ true → MayLeave p
MayStopAll d booting previous p = MayClear d p
MayStopAll d booting draining p = MayClear d p
MayStopAll d backing previous p = MayClear d p
MayStopAll d backing draining p = MayClear d p
MayStopAll d rolling previous p = ⊤
MayStopAll d rolling draining p = ⊤
MayStopAll d f c p = ⊥

-- ---- an inbox

-- `serve` asks for a document: the set was brought up, every act was taken, and no earlier answer but a document that was refused stands open
pub record MayQuestion (d : Duty) (p : SessionState) : Type 0 where
  pub serves : p.serves ≡ true
  pub idle_is : is_idle d.phase ≡ true
  pub opened : p.opened ≡ true
  pub current : is_current p.generation ≡ true
  pub left : 1 ≤ p.turns
  pub quiet : IsQuiet p.world
  pub done : IfSome p.answer (λ a. is_document a ≡ true)

-- ---- all together

abbrev pub MayCome : Duty → SessionState → TraceEvent → Type 0
MayCome d p (Ran e k s) = MayRun d p e.seen k s × IsEntry p e × (may_drive d.phase p.generation p.serves ≡ true)
MayCome d p (Booted e m) = MayBooted d p e.seen m × IsEntry p e
MayCome d p (WaitElapsed e) = MaySleep d p e.seen × IsEntry p e
MayCome d p (KilledOnAbort e) = MayCut p e.seen × IsEntry p e
MayCome d p (Recorded r) = MayKeep p r
MayCome d p (Moved k e) = MayMove p.world k e × IsNext p.world k × (may_drive d.phase p.generation p.serves ≡ true)
MayCome d p (ReadClock m) = p.world.moment ≤ m
MayCome d p (Heard k) = (is_idle d.phase ≡ true) × At k (λ q. owes q ≡ true) p.world.parts
MayCome d p (InboxAsked a) = MayQuestion d p
MayCome d p (Changed f c b) = MayChange d p f c b
MayCome d p StopsAll = MayStopAll d d.phase p.generation p

-- once the call has given up, children are killed and nothing else is done
abbrev pub IsLast : TraceEvent → Type 0
IsLast (KilledOnAbort e) = ⊤
IsLast (ReadClock m) = ⊤
IsLast e = ⊥

-- It may come here; and after a bootstrap that asks for a restart nothing does.
abbrev pub MayFollow : SessionState → TraceEvent → Type 0
MayFollow p e = MayCome (duty_of p.device) p e × (p.cut ≡ true → IsLast e) × (p.over ≡ false)

-- each event could follow where it did
abbrev pub IsProper : SessionState → List TraceEvent → Type 0
IsProper p [] = ⊤
IsProper p (e ∷ h) = MayFollow (state_after p h) e × IsProper p h
