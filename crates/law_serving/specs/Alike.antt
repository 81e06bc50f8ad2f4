-- One deployment in a call that serves, and in a call of its own.
use Rattle.std.specs.Prelude.{◌≡◌, ◌⊎◌, Bool, true, false, List, ◌∷◌, ◌++◌, Option, None, is_some}
use Rattle.std.specs.List.{AllByRecursion}
use Rattle.records.specs.Stored.{Record}
use Rattle.device.specs.Lawful.{Run}
use Rattle.histories.specs.Follows.{IsLast, IsProper, MayTake}
use Rattle.histories.specs.Phases.{is_shutting_down}
use Rattle.histories.specs.States.{SessionState, state_after}
use Rattle.histories.specs.TraceEvents.{Answer, TraceEvent, Recorded, records_of}

-- the state in a call of its own, in which a document was taken exactly where a deployment is pending
abbrev pub alone : SessionState → SessionState
alone p = record p { serves = false; taken = is_some p.device.pending }

-- A deployment is pending, or the document may be taken that the inbox gave.
pub record MayDeploy (p : SessionState) : Type 0 where
  pub serves : p.serves ≡ true
  pub going : is_shutting_down p.generation ≡ false
  pub takes : (is_some p.device.pending ≡ true) ⊎ ((is_some p.device.pending ≡ false) × MayTake p)

-- Behind the last record nothing was done but that children were killed and a moment was asked for.
pub record StopsAtRecord (h : List TraceEvent) : Type 0 where
  pub cuts : List TraceEvent
  pub last : Record
  pub before : List TraceEvent
  pub split : h ≡ cuts ++ Recorded last ∷ before
  pub kills : AllByRecursion IsLast cuts

-- The components were not all stopped for the end of the call: they are not, or the call gave up, or it ends for a restart.
abbrev pub EndsOnCourse : SessionState → List TraceEvent → Type 0
EndsOnCourse p h = (is_shutting_down (state_after p h).generation ≡ false) ⊎ AllByRecursion IsLast h ⊎ StopsAtRecord h ⊎ ((state_after p h).over ≡ true)

-- a state of a call of its own is one of the call that serves from p on, where the inbox's answer and whether a document was taken are these
abbrev pub beside : SessionState → Option Answer → Bool → SessionState → SessionState
beside p answer taken q = record q { serves = true; opened = p.opened; turns = p.turns; answer = answer; taken = taken }

-- So the same may happen in the call that serves. The inbox is not asked, and what it gave stands as before, or was taken or waited for.
pub record ServesAlike (p : SessionState) (h : List TraceEvent) : Type 0 where
  pub proper : IsProper p h
  pub answer : Option Answer
  pub taken : Bool
  pub state_is : state_after p h ≡ beside p answer taken (state_after (alone p) h)
  pub answered : (answer ≡ p.answer) ⊎ (answer ≡ None)

abbrev pub DeploymentsServeAlike : Type 0
DeploymentsServeAlike = (p : SessionState) (h : List TraceEvent) → MayDeploy p → p.over ≡ false → IsProper (alone p) h →
    Run p.device (records_of h) (state_after (alone p) h).device → EndsOnCourse (alone p) h → ServesAlike p h
