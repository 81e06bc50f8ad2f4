-- Where a call is that serves, while nothing is pending.
use Rattle.std.specs.Prelude.{◌≡◌, ℕ, true, false, List, [], ◌∷◌, Option, Some, None, IfSome}
use Rattle.device.specs.Devices.{Device}
use Rattle.step_runner.specs.Entries.{Told}
use Rattle.components.specs.Components.{Components}
use Rattle.components.specs.Turns.{IsQuiet}
use Rattle.histories.specs.Phases.{current, duty_of, is_idle}
use Rattle.histories.specs.TraceEvents.{TraceEvent, Ran, WaitElapsed, is_document, nothing}
use Rattle.histories.specs.States.{SessionState, is_wait}
use Rattle.histories.specs.Courses.{IsStateOf}
use Rattle.law_supervisor.specs.Sound.{IsOrderly}
use Rattle.session_acts.specs.Runs.{IsInTurn}
use Rattle.session_steady.specs.declared.settling.Settled.{Settled}
use Rattle.session_steady.specs.Runs.{IsSame}

-- Nothing is pending, the set was brought up and its components are there, and no bootstrap is about.
pub record IsSteady (p : SessionState) : Type 0 where
  pub serves : p.serves ≡ true
  pub idle_is : is_idle (duty_of p.device).phase ≡ true
  pub generation : p.generation ≡ current
  pub opened : p.opened ≡ true
  pub boot : p.boot ≡ None
  pub boot_end : p.boot_end ≡ None
  pub over : p.over ≡ false
  pub cut : p.cut ≡ false

-- Between two turns: what the inbox gave last was waited for, or was a document that was handled.
pub record IsServing (p : SessionState) (d : Device) (world : Components) (told : Told) (living : List ℕ) : Type 0 where
  pub stands : IsStateOf p d world told living
  pub steady : IsSteady p
  pub done : IfSome p.answer (λ a. is_document a ≡ true)
  pub orderly : IsOrderly p.world

-- so it is, the moment was told and no act is left: the inbox may be asked
pub record IsAsking (p : SessionState) (d : Device) (world : Components) (told : Told) (living : List ℕ) : Type 0 where
  pub device_is : p.device ≡ d
  pub steady : IsSteady p
  pub done : IfSome p.answer (λ a. is_document a ≡ true)
  pub turn : IsInTurn p world told living
  pub quiet : IsQuiet p.world

-- it was asked, and had nothing: that is waited for
pub record IsWaiting (p : SessionState) (d : Device) (world : Components) (told : Told) (living : List ℕ) : Type 0 where
  pub device_is : p.device ≡ d
  pub steady : IsSteady p
  pub nothing_is : p.answer ≡ Some nothing
  pub turn : IsInTurn p world told living
  pub quiet : IsQuiet p.world

-- What settling leaves, from x on: every act was taken, or the clock stands at its end, where steps that are late as they
-- start could be tried again for ever.
abbrev pub SettledLeft : SessionState → Option Settled → SessionState → Device → Components → Told → List ℕ → Type 0
SettledLeft x None q d world told living = IsServing q d world told living × IsSame x q × (q.answer ≡ x.answer)
SettledLeft x (Some s) q d world told living = IsAsking q d world told living × IsSame x q × (q.answer ≡ x.answer)

-- one wait, which elapsed or in which the child of a component ended
abbrev pub IsOneWait : List TraceEvent → Type 0
IsOneWait (WaitElapsed e ∷ []) = is_wait e.seen ≡ true
IsOneWait (Ran e k s ∷ []) = is_wait e.seen ≡ true
IsOneWait h = ⊥

-- what a turn's wait leaves, from x on
pub record HasWaited (x q : SessionState) (h : List TraceEvent) (d : Device) (world : Components) (told : Told) (living : List ℕ) : Type 0 where
  pub serving : IsServing q d world told living
  pub same : IsSame x q
  pub answer : q.answer ≡ None
  pub one : IsOneWait h
