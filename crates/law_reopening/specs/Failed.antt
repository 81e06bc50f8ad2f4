-- Failures of components, and what starts behind them.
use Rattle.std.specs.Prelude.{◌≡◌, ℕ, Bool, true, false, List, ◌∷◌, ◌++◌, Some, is_some}
use Rattle.nuc_base.specs.declared.kinds.Step.{Step}
use Rattle.nuc_base.specs.declared.kinds.Exit.{Exit}
use Rattle.records.specs.Stored.{Record, StepFailed}
use Rattle.step_runner.specs.declared.entries.RunnerEntry.{RunnerEntry}
use Rattle.step_runner.specs.declared.entries.Seen.{Seen}
use Rattle.step_runner.specs.declared.entries.Seen.TheVariants as seen
use Rattle.components.specs.Components.{At, component_name}
use Rattle.histories.specs.TraceEvents.{TraceEvent, Ran, Booted, records_of}
use Rattle.histories.specs.States.{SessionState, state_after}
use Rattle.law_histories.specs.Stood.{IsHistory, HasHappened}

abbrev pub is_start : Seen → Bool
is_start (seen.Started n c) = true
is_start s = false

-- a step of a component starts, or a bootstrap
abbrev pub starts : TraceEvent → Bool
starts (Ran e k s) = is_start e.seen
starts (Booted e m) = is_start e.seen
starts e = false

-- While a deployment was pending a step of the component of this name failed so: from that entry on it owes the failure.
pub record HasFailed (p : SessionState) (h : List TraceEvent) (name : List ℕ) (s : Step) (e : Exit) : Type 0 where
  pub entry : RunnerEntry
  pub who : ℕ
  pub before : List TraceEvent
  pub stood : HasHappened h (Ran entry who s) before
  pub fails : At who (λ q. (component_name q ≡ name) × (q.owed ≡ Some (s, e))) (state_after p (Ran entry who s ∷ before)).world.parts
  pub pending : is_some (state_after p before).device.pending ≡ true

-- these records go on behind those, and this one is among what is more
abbrev pub HasBehind : List Record → List Record → Record → Type 0
HasBehind those records r = (earlier : List Record) × (after : List Record) × (records ≡ those ++ (earlier ++ r ∷ after))

-- Where something starts, each failure of before is recorded, behind what was recorded when it came.
abbrev pub FailuresComeFirst : Type 0
FailuresComeFirst = (p : SessionState) (h before : List TraceEvent) (e : TraceEvent) (name : List ℕ) (s : Step) (x : Exit) → IsHistory p h
    → HasHappened h e before →
    starts e ≡ true → (f : HasFailed p before name s x)
    → HasBehind (records_of f.before) (records_of before) (StepFailed name s x)
