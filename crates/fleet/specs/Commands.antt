-- The lines of the input, and the commands that they are.
use Rattle.std.specs.Prelude.{◌≡◌, ℕ, ◌<◌, ◌≤◌, ◌^◌, ◌==◌, Bool, true, false, List, [], ◌∷◌, ◌++◌, if◌then◌else◌, codes, decimal}
use Rattle.fleet_core.specs.declared.happening.Happening.{Happening}
use Rattle.fleet_core.specs.declared.happening.Happening.TheVariants.{Send, Deliver, Lose, Restart, Report, Hear}

-- a line: its text, and whether a line feed ends it, as of every one but a last one without
pub record Line : Type 0 where
  pub text : List ℕ
  pub is_ended : Bool

-- the lines with one byte more at their beginning
abbrev pub beginning : ℕ → List Line → List Line
beginning byte [] = record { text = byte ∷ []; is_ended = false } ∷ []
beginning byte (line ∷ lines) = record line { text = byte ∷ line.text } ∷ lines

-- the lines of the bytes, each up to its line feed (10)
abbrev pub lines_of : List ℕ → List Line
lines_of [] = []
lines_of (byte ∷ bytes) = if byte == 10 then record { text = []; is_ended = true } ∷ lines_of bytes else beginning byte (lines_of bytes)

-- the lines of bytes without a line feed: none, or one that is not ended
abbrev pub IsUnended : List ℕ → List Line → Type 0
IsUnended [] lines = lines ≡ []
IsUnended (byte ∷ bytes) lines = lines ≡ record { text = byte ∷ bytes; is_ended = false } ∷ []

-- how a command is written: a blank (32) stands behind its word, and behind the device that a document is sent to
abbrev pub written : Happening → List ℕ
written (Send d document) = codes "send " ++ decimal d ++ 32 ∷ document
written (Deliver n) = codes "deliver " ++ decimal n
written (Lose n) = codes "lose " ++ decimal n
written (Restart d) = codes "restart " ++ decimal d
written (Report d) = codes "report " ++ decimal d
written (Hear n) = codes "hear " ++ decimal n

abbrev pub number_of : Happening → ℕ
number_of (Send d document) = d
number_of (Deliver n) = n
number_of (Lose n) = n
number_of (Restart d) = d
number_of (Report d) = d
number_of (Hear n) = n

-- the bytes are this command
pub record IsWritten (bytes : List ℕ) (happening : Happening) : Type 0 where
  pub text : bytes ≡ written happening
  pub small : number_of happening < 2 ^ 32

-- the line is this command
abbrev pub IsCommand : Line → Happening → Type 0
IsCommand line happening = (line.is_ended ≡ true) × IsWritten line.text happening

-- the line begins a fleet of so many devices
pub record IsBeginning (line : Line) (devices : ℕ) : Type 0 where
  pub ended : line.is_ended ≡ true
  pub text : line.text ≡ codes "devices " ++ decimal devices
  pub some : 1 ≤ devices
  pub few : devices ≤ 1024
