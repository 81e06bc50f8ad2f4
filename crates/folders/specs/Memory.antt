-- What a folder in memory keeps.
use Rattle.std.specs.Prelude.{◌≡◌, ℕ, List, [], ◌∷◌, ◌++◌}
use Rattle.nuc_base.specs.declared.failing.Failing.{Failing}
use Rattle.folders.specs.declared.lines.Change.{Change}
use Rattle.folders.specs.declared.lines.Side.TheVariants.{Open}
use Rattle.folders.specs.declared.lines.Line.{Line}
use Rattle.folders.specs.declared.lines.Line.TheVariants.{Looked}
use Rattle.folders.specs.declared.memory.MemoryFolder.{MemoryFolder}
use Rattle.folders.specs.Lines.{with_changes, stands_in, history_of}
use Rattle.folders.specs.History.{Event, Found}

abbrev pub folder_lines : MemoryFolder → List Line
folder_lines m = m.lines.items

-- what others will do before each of the coming looks
abbrev pub folder_script : MemoryFolder → List (List Change)
folder_script m = m.script.items

-- which listings fail
abbrev pub folder_failing : MemoryFolder → Failing
folder_failing m = m.failing

-- which calls fail that take away or make stable
abbrev pub folder_refusing : MemoryFolder → Failing
folder_refusing m = m.refusing

abbrev pub folder_missed : MemoryFolder → ℕ
folder_missed m = m.missed

abbrev pub folder_history : MemoryFolder → List Event
folder_history m = history_of (folder_lines m)

-- others did what came now, and a call looked
abbrev pub stirred : List (List Change) → List Line → List Line
stirred [] lines = Looked ∷ lines
stirred (changes ∷ script) lines = Looked ∷ with_changes changes lines

abbrev pub script_after : List (List Change) → List (List Change)
script_after [] = []
script_after (changes ∷ script) = script

pub record IsStirred (old new : MemoryFolder) : Type 0 where
  pub lines : folder_lines new ≡ stirred (folder_script old) (folder_lines old)
  pub script : folder_script new ≡ script_after (folder_script old)

-- the call saw what stands there now
abbrev pub HasLooked : MemoryFolder → MemoryFolder → Type 0
HasLooked old new = folder_history new ≡ folder_history old ++ Found (stands_in Open (folder_lines new)) ∷ []
