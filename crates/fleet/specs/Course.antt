-- What an input comes to: what is printed, and with which status the program ends.
use Rattle.std.specs.Prelude.{◌≡◌, ◌≢◌, ◌⊎◌, ℕ, ◌+◌, ◌<◌, ◌≤◌, List, [], ◌∷◌, ◌++◌, length, codes, decimal}
use Rattle.std.specs.List.{flat_map}
use Rattle.nuc_base.specs.declared.status.Status.{Status}
use Rattle.nuc_base.specs.declared.status.Status.TheVariants as statuses
use Rattle.fleet_core.specs.declared.happening.Happening.{Happening}
use Rattle.fleet_core.specs.declared.happening.Reply.{Reply}
use Rattle.fleet_core.specs.declared.happening.Reply.TheVariants.{Sent, Taken, Stale, Again, Gone, Lost, Restarted, Reported, Known}
use Rattle.fleet_core.specs.declared.happening.StepFault.{StepFault}
use Rattle.fleet_core.specs.declared.happening.StepFault.TheVariants as fault
use Rattle.fleet_core.specs.Events.{Event}
use Rattle.fleet_core.specs.Replies.{MayHappenAs, IsRefused, IsReply}
use Rattle.fleet.specs.Commands.{Line, lines_of, IsCommand, IsBeginning}

-- ---- what is printed

-- a word and a number
abbrev pub number_line : List ℕ → ℕ → List ℕ
number_line word n = word ++ 32 ∷ decimal n ++ 10 ∷ []

-- a word, a device, a group and a revision
abbrev pub revision_line : List ℕ → ℕ → List ℕ → ℕ → List ℕ
revision_line word device group revision = word ++ 32 ∷ decimal device ++ 32 ∷ group ++ 32 ∷ decimal revision ++ 10 ∷ []

-- a line for each group that is known, or one for none
abbrev pub known_lines : ℕ → List (List ℕ × ℕ) → List ℕ
known_lines device [] = number_line (codes "known") device
known_lines device (e ∷ es) = flat_map (λ e. revision_line (codes "known") device e.0 e.1) (e ∷ es)

-- the lines of a reply
abbrev pub shown : Reply → List ℕ
shown (Sent n) = number_line (codes "sent") n
shown (Taken d group revision) = revision_line (codes "taken") d group revision
shown (Stale d group revision) = revision_line (codes "stale") d group revision
shown (Again d group revision) = revision_line (codes "again") d group revision
shown (Gone n) = number_line (codes "gone") n
shown (Lost n) = number_line (codes "lost") n
shown (Restarted d) = number_line (codes "restarted") d
shown (Reported n) = number_line (codes "reported") n
shown (Known d list) = known_lines d list

abbrev pub usage_line : List ℕ
usage_line = codes "usage: fleet\n"

abbrev pub refused_line : ℕ → List ℕ
refused_line number = number_line (codes "refused 2 line") number

abbrev pub full_line : List ℕ
full_line = codes "refused 14 Full 65536\n"

abbrev pub long_line : List ℕ
long_line = codes "refused 14 TooLong 1048576\n"

-- ---- what a line comes to

-- the line is a command that comes behind these events, and it is this event
abbrev pub IsTaken : ℕ → List Event → Line → Event → Type 0
IsTaken devices past line event = (happening : Happening) × IsCommand line happening × MayHappenAs devices past happening event

-- the line is no command, or one that is refused
abbrev pub IsRejected : ℕ → List Event → Line → Type 0
IsRejected devices past line =
    ((happening : Happening) → IsCommand line happening → ⊥)
    ⊎ ((happening : Happening) × (f : StepFault) × IsCommand line happening × IsRefused devices past happening f × (f ≢ fault.Full) × (f ≢ fault.NoMemory))

-- the line sends one packet or report too many
abbrev pub IsTooMany : ℕ → List Event → Line → Type 0
IsTooMany devices past line = (happening : Happening) × IsCommand line happening × IsRefused devices past happening fault.Full

-- The line with this number, behind these events, ends the program so. Want of memory may end it at any line.
abbrev pub StopAt : ℕ → ℕ → List Event → Line → List ℕ → Status → Type 0
StopAt devices number past line printed status =
    IsRejected devices past line × (printed ≡ refused_line number) × (status ≡ statuses.BadInput)
    ⊎ IsTooMany devices past line × (printed ≡ full_line) × (status ≡ statuses.Limit)
    ⊎ (printed ≡ []) × (status ≡ statuses.Memory)

-- What the lines from this number on come to, behind these events: line by line a reply, up to the first that is refused.
abbrev pub Course : ℕ → ℕ → List Event → List Line → List ℕ → Status → Type 0
Course devices number past [] printed status = (printed ≡ []) × (status ≡ statuses.Done)
Course devices number past (line ∷ lines) printed status =
    ((event : Event) × (reply : Reply) × (more : List ℕ) × IsTaken devices past line event × IsReply past event reply × (printed ≡ shown reply ++ more)
    × Course devices (number + 1) (past ++ event ∷ []) lines more status)
    ⊎ StopAt devices number past line printed status

-- What the lines of an input come to. The first one begins the fleet.
abbrev pub FleetCourse : List Line → List ℕ → Status → Type 0
FleetCourse [] printed status = (printed ≡ refused_line 1) × (status ≡ statuses.BadInput) ⊎ (printed ≡ []) × (status ≡ statuses.Memory)
FleetCourse (line ∷ lines) printed status =
    ((devices : ℕ) × IsBeginning line devices × Course devices 2 [] lines printed status)
    ⊎ ((devices : ℕ) → IsBeginning line devices → ⊥) × (printed ≡ refused_line 1) × (status ≡ statuses.BadInput)
    ⊎ (printed ≡ []) × (status ≡ statuses.Memory)

abbrev pub most_bytes : ℕ
most_bytes = 1048576

-- What an input comes to.
abbrev pub InputCourse : List ℕ → List ℕ → Status → Type 0
InputCourse bytes printed status =
    (most_bytes < length bytes) × (printed ≡ long_line) × (status ≡ statuses.Limit)
    ⊎ (length bytes ≤ most_bytes) × FleetCourse (lines_of bytes) printed status
