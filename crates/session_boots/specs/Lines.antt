-- The lines that are printed for records.
use Rattle.std.specs.Prelude.{ℕ, List, [], ◌∷◌, ◌++◌, codes, Some, None, if◌then◌else◌}
use Rattle.std.specs.Fmt.{signed_decimal}
use Rattle.nuc_base.specs.declared.kinds.Exit.{Exit}
use Rattle.nuc_base.specs.declared.kinds.Exit.TheVariants as exits
use Rattle.nuc_base.specs.declared.kinds.Outcome.{Outcome}
use Rattle.nuc_base.specs.declared.kinds.Step.{Step}
use Rattle.nuc_base.specs.declared.kinds.Step.TheVariants as steps
use Rattle.recipe_reader.specs.Spelled.{spelled}
use Rattle.recipe_reader.specs.Steps.{key_of}
use Rattle.records.specs.Stored.{Record, Accepted, BootEnded, StepFailed, Closed}
use Rattle.device.specs.Devices.{Device}
use Rattle.device.specs.Lawful.{applied, goes_on}
use Rattle.status_text.specs.Words.{outcome_text}

abbrev pub exit_text : Exit → List ℕ
exit_text (exits.Code z) = codes "code " ++ signed_decimal z
exit_text exits.Signal = codes "signal"
exit_text exits.TimedOut = codes "timeout"
exit_text exits.NotStarted = codes "notstarted"
exit_text exits.Lost = codes "lost"

abbrev pub step_text : Step → List ℕ
step_text s = spelled (key_of s)

abbrev pub accepted_line : List ℕ → List ℕ
accepted_line id = codes "accepted " ++ id ++ codes "\n"

-- a step of the component of this name failed
abbrev pub failed_line : List ℕ → List ℕ → Step → Exit → List ℕ
failed_line id name s e = codes "failed " ++ id ++ codes " " ++ name ++ codes " " ++ step_text s ++ codes " " ++ exit_text e ++ codes "\n"

abbrev pub closed_line : List ℕ → Outcome → List ℕ
closed_line id o = codes "closed " ++ id ++ codes " " ++ outcome_text o ++ codes "\n"

-- the id of the pending deployment
abbrev pub id_of : Device → List ℕ
id_of d = elim d.pending [ None ↦ [] | Some q ↦ q.plan.id ]

-- the line of a record that is taken by the device: of an acceptance, a failure, a bootstrap that failed, and a close
abbrev pub line_of : Device → Record → List ℕ
line_of d (Accepted p) = accepted_line p.id
line_of d (BootEnded n e) = if goes_on e then [] else failed_line (id_of d) n steps.Bootstrap e
line_of d (StepFailed n s e) = failed_line (id_of d) n s e
line_of d (Closed o) = closed_line (id_of d) o
line_of d r = []

-- the lines of records, one after another from this device on
abbrev pub lines_of : Device → List Record → List ℕ
lines_of d [] = []
lines_of d (r ∷ records) = line_of d r ++ lines_of (applied d r) records
