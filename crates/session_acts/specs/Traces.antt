-- A part of a turn: which events it has.
use Rattle.std.specs.Prelude.{◌≡◌, List, [], ◌∷◌, Option, None, ⊤}
use Rattle.step_runner.specs.declared.entries.RunnerEntry.{RunnerEntry}
use Rattle.step_runner.specs.declared.entries.Seen.{Seen}
use Rattle.step_runner.specs.declared.entries.Seen.TheVariants as seen
use Rattle.components.specs.Components.{owner}
use Rattle.histories.specs.TraceEvents.{TraceEvent, Ran, Moved, ReadClock}
use Rattle.histories.specs.States.{SessionState, state_after}
use Rattle.session_boots.specs.Traces.{ActTrace}

-- nothing is waited for, and a child that is started is new
abbrev pub IsActEntry : SessionState → Seen → Type 0
IsActEntry p (seen.Started n c) = owner n p.world.parts ≡ None
IsActEntry p (seen.Ended n e limit) = ⊥
IsActEntry p (seen.Elapsed limit) = ⊥
IsActEntry p s = ⊤

-- a component's step was run so, a component moved, or the moment was asked for
abbrev pub IsActEvent : SessionState → TraceEvent → Type 0
IsActEvent p (Ran e k s) = IsActEntry p e.seen
IsActEvent p (Moved k e) = ⊤
IsActEvent p (ReadClock m) = ⊤
IsActEvent p e = ⊥

-- from a state of the session on each event is one of these
abbrev pub AreActEvents : SessionState → List TraceEvent → Type 0
AreActEvents p [] = ⊤
AreActEvents p (e ∷ h) = IsActEvent (state_after p h) e × AreActEvents p h

-- A part of a turn: it keeps no record, and waits for nothing.
pub record ActsInTurn (p : SessionState) (h : List TraceEvent) (old new : Option (List RunnerEntry)) : Type 0 where
  pub acts : ActTrace p h old new
  pub each : AreActEvents p h
