-- What each event of a part of a turn keeps, the part keeps.
use Rattle.std.specs.Prelude.{◌≡◌, ℕ, true, false, List, [], ◌∷◌}
use Rattle.std.proofs.Common.{refl}
use Rattle.nuc_base.specs.declared.kinds.Step.{Step}
use Rattle.lifecycle.specs.declared.kinds.LifeEvent.{LifeEvent}
use Rattle.step_runner.specs.declared.entries.RunnerEntry.{RunnerEntry}
use Rattle.step_runner.specs.declared.entries.Seen.{Seen}
use Rattle.step_runner.specs.declared.entries.Seen.TheVariants as seen
use Rattle.components.specs.Acts.{MayMove}
use Rattle.components.specs.Turns.{IsNext}
use Rattle.histories.specs.Phases.{duty_of}
use Rattle.histories.specs.TraceEvents.{TraceEvent, Ran, Booted, WaitElapsed, KilledOnAbort, Recorded, Moved, ReadClock, Heard, InboxAsked, Changed, StopsAll}
use Rattle.histories.specs.States.{SessionState, is_wait, leaves, says_no, state_after}
use Rattle.histories.specs.Follows.{IsProper, MayFollow, MayRun}
use Rattle.session_acts.specs.Traces.{AreActEvents, IsActEntry, IsActEvent}
use Rattle.session_acts.specs.Waits.{IsWaitEvent}

-- what a stage keeps of the state of the session, by each event of a turn's acts
pub record IsKept (stage : SessionState → Type 0) : Type 0 where
  pub asked : (p : SessionState) (m : ℕ) → stage p → stage (leaves p (ReadClock m))
  pub moved : (p : SessionState) (k : ℕ) (e : LifeEvent) → IsNext p.world k → MayMove p.world k e → stage p → stage (leaves p (Moved k e))
  pub ran : (p : SessionState) (e : RunnerEntry) (k : ℕ) (t : Step) → MayRun (duty_of p.device) p e.seen k t → IsActEntry p e.seen → stage p →
      stage (leaves p (Ran e k t))

module _ (stage : SessionState → Type 0) (kept : IsKept stage) where
  kept_by : (p : SessionState) (e : TraceEvent) → MayFollow p e → IsActEvent p e → stage p → stage (leaves p e)
  kept_by p (Ran e k s) may is here = kept.ran p e k s may.0.0 is here
  kept_by p (Booted e m) may is here = absurd is
  kept_by p (WaitElapsed e) may is here = absurd is
  kept_by p (KilledOnAbort e) may is here = absurd is
  kept_by p (Recorded r) may is here = absurd is
  kept_by p (Moved k e) may is here = kept.moved p k e may.0.1 may.0.0 here
  kept_by p (ReadClock m) may is here = kept.asked p m here
  kept_by p (Heard k) may is here = absurd is
  kept_by p (InboxAsked a) may is here = absurd is
  kept_by p (Changed f c b) may is here = absurd is
  kept_by p StopsAll may is here = absurd is

  pub kept_along : (p : SessionState) (h : List TraceEvent) → IsProper p h → AreActEvents p h → stage p → stage (state_after p h)
  kept_along p [] proper each here = here
  kept_along p (e ∷ h) proper each here = kept_by (state_after p h) e proper.0 each.0 (kept_along p h proper.1 each.1 here)

-- what a stage keeps by a wait
pub record IsKeptByWait (stage : SessionState → Type 0) : Type 0 where
  pub elapsed : (p : SessionState) (e : RunnerEntry) → is_wait e.seen ≡ true → stage p → stage (leaves p (WaitElapsed e))
  pub ended : (p : SessionState) (e : RunnerEntry) (k : ℕ) (t : Step) → MayRun (duty_of p.device) p e.seen k t → is_wait e.seen ≡ true → stage p →
      stage (leaves p (Ran e k t))

pub kept_by_wait : (stage : SessionState → Type 0) → IsKeptByWait stage → (p : SessionState) (e : TraceEvent) → MayFollow p e → IsWaitEvent e → stage p →
    stage (leaves p e)
kept_by_wait stage kept p (Ran e k s) may is here = kept.ended p e k s may.0.0 is here
kept_by_wait stage kept p (Booted e m) may is here = absurd is
kept_by_wait stage kept p (WaitElapsed e) may is here = kept.elapsed p e is here
kept_by_wait stage kept p (KilledOnAbort e) may is here = absurd is
kept_by_wait stage kept p (Recorded r) may is here = absurd is
kept_by_wait stage kept p (Moved k e) may is here = absurd is
kept_by_wait stage kept p (ReadClock m) may is here = absurd is
kept_by_wait stage kept p (Heard k) may is here = absurd is
kept_by_wait stage kept p (InboxAsked a) may is here = absurd is
kept_by_wait stage kept p (Changed f c b) may is here = absurd is
kept_by_wait stage kept p StopsAll may is here = absurd is

-- a wait leaves nothing probed
says_nothing : (s : Seen) → is_wait s ≡ true → says_no s ≡ false
says_nothing (seen.Started n c) is = refl
says_nothing (seen.Refused c) is = refl
says_nothing (seen.Killed n) is = refl
says_nothing (seen.Exists x found) is = absurd cc
says_nothing (seen.OnPath x found) is = absurd cc
says_nothing (seen.Ended n e limit) is = refl
says_nothing (seen.Elapsed limit) is = refl

pub wait_unprobed : (p : SessionState) (e : TraceEvent) → IsWaitEvent e → (leaves p e).probed ≡ false
wait_unprobed p (Ran e k s) is = says_nothing e.seen is
wait_unprobed p (Booted e m) is = absurd is
wait_unprobed p (WaitElapsed e) is = says_nothing e.seen is
wait_unprobed p (KilledOnAbort e) is = absurd is
wait_unprobed p (Recorded r) is = absurd is
wait_unprobed p (Moved k e) is = absurd is
wait_unprobed p (ReadClock m) is = absurd is
wait_unprobed p (Heard k) is = absurd is
wait_unprobed p (InboxAsked a) is = absurd is
wait_unprobed p (Changed f c b) is = absurd is
wait_unprobed p StopsAll is = absurd is
