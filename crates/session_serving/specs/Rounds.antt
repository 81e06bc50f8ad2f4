-- What came of each question to the inbox in a call that serves.
use Rattle.std.specs.Prelude.{◌≡◌, ◌≢◌, ◌⊎◌, ℕ, true, false, List, [], ◌∷◌, ◌++◌, Option, Some, None, ⊤, codes}
use Rattle.nuc_base.specs.Faults.{Rose}
use Rattle.nuc_base.specs.declared.status.Status.{Status}
use Rattle.nuc_base.specs.declared.status.Status.TheVariants as statuses
use Rattle.edges.specs.declared.answered.Answered.{Answered}
use Rattle.edges.specs.declared.answered.Kind.TheVariants.{Document, Nothing}
use Rattle.edges.specs.declared.inbox.Incoming.TheVariants.{Document as GivesDocument, Nothing as GivesNothing}
use Rattle.edges.specs.Inboxes.{after_answer, after_done}
use Rattle.edges.specs.Waiting.{Waiting, next_of, without_first}
use Rattle.library_core.specs.Library.{Content}
use Rattle.device.specs.Devices.{Device}
use Rattle.device.specs.Lawful.{Run}
use Rattle.records.specs.Stored.{Record}
use Rattle.session.specs.Declines.{disk_line}
use Rattle.histories.specs.Courses.{gives_up, is_restart}
use Rattle.histories.specs.TraceEvents.{Answer, TraceEvent, Ran, Booted, WaitElapsed, KilledOnAbort, Recorded, Moved, ReadClock, Heard, InboxAsked}
use Rattle.histories.specs.TraceEvents.{Changed, StopsAll}
use Rattle.histories.specs.TraceEvents.{document, nothing}
use Rattle.session_serving.specs.Libraries.{LibraryState}

-- ---- one document

-- A document that the inbox gave, and what came of it: the device of that moment, the records that were kept, those whose line is
-- written and then those whose line is not, the device behind them, the lines, the status that the last of them tells, what is seen of the
-- library as the inbox gave it and behind it, what the library told of its content between, directly behind the refresh, the disk's count
-- of faults before and behind it, and from where an entry of so many bytes would be written in the journal then.
pub record Handled : Type 0 where
  pub bytes : List ℕ
  pub device : Device
  pub records : List Record
  pub printed_records : List Record
  pub unprinted_records : List Record
  pub behind : Device
  pub lines : List ℕ
  pub status : Status
  pub before : LibraryState
  pub content : Content
  pub after : LibraryState
  pub disk_before : ℕ
  pub disk_after : ℕ
  pub start : ℕ → ℕ

-- ---- the rounds behind which the call goes on

-- The call goes on behind it. Its line says that the disk failed only where the disk's count rose since the inbox gave it, and with another
-- line that count is as it was. Where it says a fault, of the disk or want of memory, nothing was recorded.
pub record GoesOn (x : Handled) : Type 0 where
  pub edge : x.status ≢ statuses.Edge
  pub restart : is_restart x.status ≡ false
  pub disk : x.status ≡ statuses.Disk → Rose x.disk_before x.disk_after
  pub quiet : x.status ≢ statuses.Disk → x.disk_after ≡ x.disk_before
  pub unmoved : gives_up x.status ≡ true → x.records ≡ []

pub data Round : Type 0 where
  Waited : Round  -- the inbox had nothing, and the turn waited once
  Took : (handled : Handled) → Round  -- it gave a document, which was handled and is done

abbrev pub records_of_rounds : List Round → List Record
records_of_rounds [] = []
records_of_rounds (Waited ∷ rounds) = records_of_rounds rounds
records_of_rounds (Took x ∷ rounds) = x.records ++ records_of_rounds rounds

abbrev pub lines_of_rounds : List Round → List ℕ
lines_of_rounds [] = []
lines_of_rounds (Waited ∷ rounds) = lines_of_rounds rounds
lines_of_rounds (Took x ∷ rounds) = x.lines ++ lines_of_rounds rounds

-- what was asked of the inbox, the first first
abbrev pub questions_of : List TraceEvent → List Answer
questions_of [] = []
questions_of (InboxAsked a ∷ h) = questions_of h ++ a ∷ []
questions_of (Ran e k s ∷ h) = questions_of h
questions_of (Booted e m ∷ h) = questions_of h
questions_of (WaitElapsed e ∷ h) = questions_of h
questions_of (KilledOnAbort e ∷ h) = questions_of h
questions_of (Recorded r ∷ h) = questions_of h
questions_of (Moved k e ∷ h) = questions_of h
questions_of (ReadClock m ∷ h) = questions_of h
questions_of (Heard k ∷ h) = questions_of h
questions_of (Changed f c b ∷ h) = questions_of h
questions_of (StopsAll ∷ h) = questions_of h

abbrev pub questions_of_rounds : List Round → List Answer
questions_of_rounds [] = []
questions_of_rounds (Waited ∷ rounds) = nothing ∷ questions_of_rounds rounds
questions_of_rounds (Took x ∷ rounds) = document ∷ questions_of_rounds rounds

-- how the inbox has answered behind them: each document is done once, before the next question
abbrev pub answered_by : List Round → Answered → Answered
answered_by [] a = a
answered_by (Waited ∷ rounds) a = answered_by rounds (after_answer Nothing a)
answered_by (Took x ∷ rounds) a = answered_by rounds (after_done (after_answer Document a))

-- the documents come in the inbox's order, and it has nothing only where all that it held are done and it was not closed
abbrev pub AreGiven : Waiting → List Round → Type 0
AreGiven w [] = ⊤
AreGiven w (Waited ∷ rounds) = (next_of w.documents w.closed ≡ GivesNothing) × AreGiven w rounds
AreGiven w (Took x ∷ rounds) = (next_of w.documents w.closed ≡ GivesDocument x.bytes) × AreGiven (without_first w) rounds

abbrev pub waiting_behind : List Round → Waiting → Waiting
waiting_behind [] w = w
waiting_behind (Waited ∷ rounds) w = waiting_behind rounds w
waiting_behind (Took x ∷ rounds) w = waiting_behind rounds (without_first w)

-- what waits behind the rounds, where the inbox tells it
abbrev pub WaitingLeft : Option Waiting → Option Waiting → List Round → Type 0
WaitingLeft None new rounds = new ≡ None
WaitingLeft (Some w) new rounds = AreGiven w rounds × (new ≡ Some (waiting_behind rounds w))

-- ---- each document by what is promised of one, for the device of its turn

module _ (Clause : Handled → Type 0) where
  -- From this device, this library and this count of the disk on, one document after another, to this device, library and count: between two
  -- documents the library stays as it is.
  abbrev pub AreHandled : Device → LibraryState → ℕ → List Round → Device → LibraryState → ℕ → Type 0
  AreHandled d n f [] e m g = (e ≡ d) × (m ≡ n) × (g ≡ f)
  AreHandled d n f (Waited ∷ rounds) e m g = AreHandled d n f rounds e m g
  AreHandled d n f (Took x ∷ rounds) e m g =
      (x.device ≡ d) × (x.before ≡ n) × (x.disk_before ≡ f) × GoesOn x × Clause x × Run d x.records x.behind
      × AreHandled x.behind x.after x.disk_after rounds e m g

-- each document began so
abbrev pub AreStarted : (Handled → Type 0) → List Round → Type 0
AreStarted Started [] = ⊤
AreStarted Started (Waited ∷ rounds) = AreStarted Started rounds
AreStarted Started (Took x ∷ rounds) = Started x × AreStarted Started rounds

-- ---- the last round

pub data LastRound : Type 0 where
  Spent : LastRound  -- the inbox was asked as often as it is to be
  Shut : LastRound  -- it is closed
  StoppedBy : (handled : Handled) → LastRound  -- the handling of a document ends the call, or the document could not be done
  SweepFailed : LastRound  -- the disk failed while stray files were swept that an earlier document or close had left
  InboxFailed : LastRound  -- it could not be asked
  WantOfMemory : LastRound  -- there is no memory for an answer or to bring the set up, or the clock stands at its end

abbrev pub records_of_last : LastRound → List Record
records_of_last Spent = []
records_of_last Shut = []
records_of_last (StoppedBy x) = x.records
records_of_last SweepFailed = []
records_of_last InboxFailed = []
records_of_last WantOfMemory = []

-- the document of the last round
abbrev pub round_of_last : LastRound → List Round
round_of_last (StoppedBy x) = Took x ∷ []
round_of_last Spent = []
round_of_last Shut = []
round_of_last SweepFailed = []
round_of_last InboxFailed = []
round_of_last WantOfMemory = []

-- how often the inbox answered in it
abbrev pub asked_of_last : LastRound → ℕ
asked_of_last Spent = 0
asked_of_last Shut = 1
asked_of_last (StoppedBy x) = 1
asked_of_last SweepFailed = 0
asked_of_last InboxFailed = 0
asked_of_last WantOfMemory = 0

abbrev pub inbox_fault_line : List ℕ
inbox_fault_line = codes "fault 6 inbox\n"

-- the lines of its document, and that of the inbox where that could not be done
abbrev pub SaysStopped : Handled → Status → List ℕ → Type 0
SaysStopped x status lines = (lines ≡ x.lines) ⊎ ((lines ≡ x.lines ++ inbox_fault_line) × (status ≡ statuses.Edge))

-- what it says, but that the turns are over
abbrev pub SaysLast : LastRound → Status → List ℕ → Type 0
SaysLast Spent status lines = ⊤
SaysLast Shut status lines = lines ≡ []
SaysLast (StoppedBy x) status lines = SaysStopped x status lines
SaysLast SweepFailed status lines = lines ≡ disk_line
SaysLast InboxFailed status lines = lines ≡ inbox_fault_line
SaysLast WantOfMemory status lines = lines ≡ []

abbrev pub unprinted_of_last : LastRound → List Record
unprinted_of_last (StoppedBy x) = x.unprinted_records
unprinted_of_last Spent = []
unprinted_of_last Shut = []
unprinted_of_last SweepFailed = []
unprinted_of_last InboxFailed = []
unprinted_of_last WantOfMemory = []
