-- A whole call of the program: what it reads, what it prints, and its status.
use Rattle.std.specs.Prelude.{◌≡◌, ◌⊎◌, ℕ, ◌+◌, ◌<◌, ◌≤◌, true, List, [], ◌∷◌, ◌++◌, take, IfSome, MatchOption, Result, Err, MatchResult}
use Rattle.std.specs.declared.option.Option.{Option}
use Rattle.std.specs.Io.KnownBytes.{Appends}
use Rattle.nuc_base.specs.declared.status.Status.{Status}
use Rattle.nuc_base.specs.declared.status.Status.TheVariants as statuses
use Rattle.nuc_base.specs.Faults.{Rose}
use Rattle.edges.specs.Pieces.{WriteOutcome}
use Rattle.fleet_core.specs.declared.happening.Reply.{Reply}
use Rattle.fleet_core.specs.declared.happening.StepFault.{StepFault}
use Rattle.fleet_core.specs.declared.happening.StepFault.TheVariants.{NoDevice, NoPacket, NoReport, Document, NoRevision, Full, NoMemory}
use Rattle.fleet_core.specs.Events.{Event}
use Rattle.fleet_core.specs.Fleets.{FleetState, StandsFor}
use Rattle.fleet_core.specs.Replies.{IsReply}
use Rattle.fleet.specs.Commands.{Line, IsBeginning}
use Rattle.fleet.specs.Course.{FleetCourse, InputCourse, Course, IsTaken, shown, usage_line, refused_line, full_line, most_bytes}

-- what a stream holds, where it tells that, and its count of faults, before the call and after it
pub record Stream : Type 0 where
  pub before : Option (List ℕ)
  pub after : Option (List ℕ)
  pub faults_before : ℕ
  pub faults_after : ℕ

abbrev pub stream_of : {T : Type 0} → (T → Option (List ℕ)) → (T → ℕ) → T → T → Stream
stream_of held faults old new = record { before = held old; after = held new; faults_before = faults old; faults_after = faults new }

-- a sink that fails has taken a prefix of these bytes
abbrev pub WritesInPart : Option (List ℕ) → Option (List ℕ) → List ℕ → Type 0
WritesInPart before after bytes = WriteOutcome {E = Unit {0}} before after bytes (Err tt)

-- these lines are printed, and the call ends so; or the sink fails, with a prefix of them printed
abbrev pub PrintedEnd : Stream → List ℕ → Status → Status → Type 0
PrintedEnd sink printed status result =
    (result ≡ status) × Appends sink.before sink.after printed × (sink.faults_after ≡ sink.faults_before)
    ⊎ (result ≡ statuses.Edge) × Rose sink.faults_before sink.faults_after × WritesInPart sink.before sink.after printed

-- so it is, or memory was refused and nothing is printed
abbrev pub EndOrMemory : Stream → List ℕ → Status → Status → Type 0
EndOrMemory sink printed status result = PrintedEnd sink printed status result ⊎ PrintedEnd sink [] statuses.Memory result

-- The line with this number is refused by this fault, and the call ends.
abbrev pub EndsAtFault : ℕ → Stream → Status → StepFault → Type 0
EndsAtFault number sink result Full = PrintedEnd sink full_line statuses.Limit result
EndsAtFault number sink result NoMemory = PrintedEnd sink [] statuses.Memory result
EndsAtFault number sink result NoDevice = EndOrMemory sink (refused_line number) statuses.BadInput result
EndsAtFault number sink result NoPacket = EndOrMemory sink (refused_line number) statuses.BadInput result
EndsAtFault number sink result NoReport = EndOrMemory sink (refused_line number) statuses.BadInput result
EndsAtFault number sink result NoRevision = EndOrMemory sink (refused_line number) statuses.BadInput result
EndsAtFault number sink result (Document f) = EndOrMemory sink (refused_line number) statuses.BadInput result

-- The line with this number is taken, its reply is printed, and the fleet stands for the events with its event at their end;
-- or the call ends with a course that whatever lines stand behind it have.
abbrev pub LineOutcome : ℕ → ℕ → List Event → List ℕ → FleetState → Stream → Result (Unit {0}) Status → Type 0
LineOutcome devices number past text fleet sink result = MatchResult result
    (λ _. (event : Event) × (reply : Reply) × IsTaken devices past (record { text = text; is_ended = true }) event × IsReply past event reply
    × StandsFor fleet (past ++ event ∷ []) × Appends sink.before sink.after (shown reply) × (sink.faults_after ≡ sink.faults_before))
    (λ ended. (lines : List Line) → (printed : List ℕ) × (status : Status) × Course devices number past (record { text = text; is_ended = true } ∷ lines)
    printed status
    × PrintedEnd sink printed status ended)

-- the call comes to the end of these lines
abbrev pub EndOfLines : ℕ → List Line → Stream → Status → Type 0
EndOfLines devices lines sink result = (printed : List ℕ) × (status : Status) × Course devices 2 [] lines printed status × PrintedEnd sink printed status result

-- the call comes to the end of all the lines
abbrev pub StartsOff : List Line → Stream → Status → Type 0
StartsOff lines sink result = (printed : List ℕ) × (status : Status) × FleetCourse lines printed status × PrintedEnd sink printed status result

abbrev pub BeginsWith : List ℕ → Option ℕ → Type 0
BeginsWith text result = MatchOption result ((devices : ℕ) → IsBeginning (record { text = text; is_ended = true }) devices → ⊥)
    (IsBeginning (record { text = text; is_ended = true }))

-- The call with so many words. With no word but its name it reads at most one byte more than it may.
abbrev pub ProgramOutcome : ℕ → Stream → Stream → Status → Type 0
ProgramOutcome words source sink result =
    (1 < words) × PrintedEnd sink usage_line statuses.Usage result
    ⊎ (words ≤ 1) × (result ≡ statuses.Edge) × Rose source.faults_before source.faults_after × PrintedEnd sink [] statuses.Edge result
    ⊎ (words ≤ 1) × PrintedEnd sink [] statuses.Memory result
    ⊎ (words ≤ 1) × ((bytes : List ℕ) × (printed : List ℕ) × (status : Status) × IfSome source.before (λ left. bytes ≡ take (most_bytes + 1) left)
    × InputCourse bytes printed status × PrintedEnd sink printed status result)
