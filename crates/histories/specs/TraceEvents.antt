-- What happens in a session, and what of it is seen outside.
use Rattle.std.specs.Prelude.{ℕ, ◌+◌, Bool, true, false, List, [], ◌∷◌, ◌++◌}
use Rattle.nuc_base.specs.declared.kinds.Step.{Step}
use Rattle.lifecycle.specs.declared.kinds.LifeEvent.{LifeEvent}
use Rattle.records.specs.Stored.{Record}
use Rattle.step_runner.specs.declared.entries.RunnerEntry.{RunnerEntry}
use Rattle.components.specs.Fitted.{Fitted}
use Rattle.components.specs.declared.kinds.Prepared.{Prepared}

-- what an inbox answers when it is asked for a document
pub data Answer : Type 0 where
  document : Answer
  nothing : Answer
  closed : Answer  -- there will be none

abbrev pub is_document : Answer → Bool
is_document document = true
is_document a = false

abbrev pub is_nothing : Answer → Bool
is_nothing nothing = true
is_nothing a = false

abbrev pub is_closed : Answer → Bool
is_closed closed = true
is_closed a = false

pub data TraceEvent : Type 0 where
  Ran : (entry : RunnerEntry) (who : ℕ) (of : Step) → TraceEvent  -- an entry of the runner, for a component's step
  Booted : (entry : RunnerEntry) (made : Prepared) → TraceEvent  -- one for the bootstrap that is next
  WaitElapsed : (entry : RunnerEntry) → TraceEvent  -- a wait elapsed
  KilledOnAbort : (entry : RunnerEntry) → TraceEvent  -- a kill with which a call gives up
  Recorded : (kept : Record) → TraceEvent  -- a record is stable
  -- what leaves no trace outside
  Moved : (who : ℕ) (what : LifeEvent) → TraceEvent  -- a component begins, tries again, or is stopped with nothing to kill
  ReadClock : (moment : ℕ) → TraceEvent  -- the runner was asked for a moment
  Heard : (who : ℕ) → TraceEvent  -- a failure was handed out where nothing is pending: it is not recorded
  InboxAsked : (answer : Answer) → TraceEvent  -- the inbox was asked for a document
  Changed : (fitted : List Fitted) (counts : List ℕ) (steady : Bool) → TraceEvent  -- other items are to run
  StopsAll : TraceEvent  -- all components are to be stopped

-- Histories have the newest event first. The records, the first first:
abbrev pub records_of : List TraceEvent → List Record
records_of [] = []
records_of (Ran e k s ∷ h) = records_of h
records_of (Booted e m ∷ h) = records_of h
records_of (WaitElapsed e ∷ h) = records_of h
records_of (KilledOnAbort e ∷ h) = records_of h
records_of (Recorded r ∷ h) = records_of h ++ r ∷ []
records_of (Moved k e ∷ h) = records_of h
records_of (ReadClock m ∷ h) = records_of h
records_of (Heard k ∷ h) = records_of h
records_of (InboxAsked a ∷ h) = records_of h
records_of (Changed f c b ∷ h) = records_of h
records_of (StopsAll ∷ h) = records_of h

-- the entries of the runner, the first first
abbrev pub entries_of : List TraceEvent → List RunnerEntry
entries_of [] = []
entries_of (Ran e k s ∷ h) = entries_of h ++ e ∷ []
entries_of (Booted e m ∷ h) = entries_of h ++ e ∷ []
entries_of (WaitElapsed e ∷ h) = entries_of h ++ e ∷ []
entries_of (KilledOnAbort e ∷ h) = entries_of h ++ e ∷ []
entries_of (Recorded r ∷ h) = entries_of h
entries_of (Moved k e ∷ h) = entries_of h
entries_of (ReadClock m ∷ h) = entries_of h
entries_of (Heard k ∷ h) = entries_of h
entries_of (InboxAsked a ∷ h) = entries_of h
entries_of (Changed f c b ∷ h) = entries_of h
entries_of (StopsAll ∷ h) = entries_of h

-- how often the inbox gave this kind of answer
abbrev pub same_answer : Answer → Answer → ℕ
same_answer document document = 1
same_answer nothing nothing = 1
same_answer closed closed = 1
same_answer a b = 0

abbrev pub answers_of : Answer → List TraceEvent → ℕ
answers_of a [] = 0
answers_of a (Ran e k s ∷ h) = answers_of a h
answers_of a (Booted e m ∷ h) = answers_of a h
answers_of a (WaitElapsed e ∷ h) = answers_of a h
answers_of a (KilledOnAbort e ∷ h) = answers_of a h
answers_of a (Recorded r ∷ h) = answers_of a h
answers_of a (Moved k e ∷ h) = answers_of a h
answers_of a (ReadClock m ∷ h) = answers_of a h
answers_of a (Heard k ∷ h) = answers_of a h
answers_of a (InboxAsked b ∷ h) = answers_of a h + same_answer a b
answers_of a (Changed f c b ∷ h) = answers_of a h
answers_of a (StopsAll ∷ h) = answers_of a h
