-- One wait, and what it leaves.
use Rattle.std.specs.Prelude.{◌≡◌, ◌≤◌, ◌⊎◌, ◌+◌, ◌-◌, ◌^◌, ℕ, true, List, [], ◌∷◌, Option, IfSome, IsSome}
use Rattle.nuc_base.specs.declared.kinds.Exit.{Exit}
use Rattle.step_runner.specs.Entries.{Told}
use Rattle.step_runner.specs.declared.entries.RunnerEntry.{RunnerEntry}
use Rattle.step_runner.specs.declared.runner.Runner as a_runner
use Rattle.components.specs.Components.{Components, owner}
use Rattle.components.specs.Events.{ended, later}
use Rattle.components.specs.Views.{view_of}
use Rattle.histories.specs.Phases.{duty_of}
use Rattle.histories.specs.TraceEvents.{TraceEvent, Ran, WaitElapsed}
use Rattle.histories.specs.States.{SessionState, is_wait}
use Rattle.histories.specs.Waits.{MayWait}
use Rattle.session_boots.specs.Traces.{ActTrace}
use Rattle.session_acts.specs.Runs.{IsInTurn}

-- within a turn, so long at most may be waited
pub record IsReadyToWait (p : SessionState) (limit : ℕ) (world : Components) (told : Told) (living : List ℕ) : Type 0 where
  pub runs : IsInTurn p world told living
  pub may : MayWait (duty_of p.device) p limit

-- it elapsed, or the child of a component ended
abbrev pub IsWaitEvent : TraceEvent → Type 0
IsWaitEvent (WaitElapsed e) = is_wait e.seen ≡ true
IsWaitEvent (Ran e k s) = is_wait e.seen ≡ true
IsWaitEvent e = ⊥

-- A wait keeps no record.
pub record WaitsOnce (p : SessionState) (e : TraceEvent) (old new : Option (List RunnerEntry)) : Type 0 where
  pub acts : ActTrace p (e ∷ []) old new
  pub wait : IsWaitEvent e

-- a child ended, or nothing did before the limit, or the end of the clock, was reached
abbrev pub IsWaited : ℕ → ℕ → ℕ → ℕ → Components → Components → Type 0
IsWaited now limit before after w v = ((n : ℕ) × (x : Exit) × IsSome (owner n w.parts) × (v ≡ ended n x (later now w)))
    ⊎ ((v ≡ w) × ((before + limit ≤ after) ⊎ (after ≡ 2 ^ 62 - 1)))

-- what the runner was shown last, where it tells that, are these components
abbrev pub WasShownBy : {R : Type 0} → a_runner.Ghosts R → R → Components → Type 0
WasShownBy runner r world = IfSome (runner.shown r) (λ view. view ≡ view_of world)
