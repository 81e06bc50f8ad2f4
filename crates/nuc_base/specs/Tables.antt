-- A table of lines in order: what each line asks, and the fault where that fails.
use Rattle.std.specs.Prelude.{◌≡◌, List, [], ◌∷◌, ◌++◌, Result, MatchResult, ⊤, ◌⊎◌, Option, Some, None}
use Rattle.std.specs.List.{AllZip}

-- a line of a table
pub record Line (Fault : Type 0) : Type 1 where
  pub holds : Type 0
  pub fault : Fault

abbrev pub Table : Type 0 → Type 1
Table Fault = List (Line Fault)

-- the fault is that of the first line that fails
abbrev pub IsFirst : {Fault : Type 0} → Table Fault → Fault → Type 0
IsFirst [] fault = ⊥
IsFirst (line ∷ lines) fault = ((line.holds → ⊥) × (fault ≡ line.fault)) ⊎ (line.holds × IsFirst lines fault)

-- no line fails
abbrev pub AllHold : {Fault : Type 0} → Table Fault → Type 0
AllHold [] = ⊤
AllHold (line ∷ lines) = line.holds × AllHold lines

-- what reading by a table answers, where want of memory is free
abbrev pub AnswerBy : {A Fault : Type 0} → Fault → Table Fault → (A → Type 0) → Result A Fault → Type 0
AnswerBy memory lines Is result = MatchResult result (λ value. AllHold lines × Is value) (λ fault. (fault ≡ memory) ⊎ IsFirst lines fault)

-- the fault of the first line that fails, or want of memory
abbrev pub IsFaultBy : {Fault : Type 0} → Fault → Table Fault → Fault → Type 0
IsFaultBy memory lines fault = (fault ≡ memory) ⊎ IsFirst lines fault

-- lines on a value that is there
abbrev pub on : {A Fault : Type 0} → Option A → (A → Table Fault) → Table Fault
on None lines = []
on (Some value) lines = lines value

-- the lines of each value in turn
abbrev pub each : {A Fault : Type 0} → (A → Table Fault) → List A → Table Fault
each lines [] = []
each lines (value ∷ values) = lines value ++ each lines values

-- what a loop over values keeps: all of them, those that are left, and what was read of the others
pub record IsPass {A B Fault : Type 0} (lines : A → Table Fault) (Is : A → B → Type 0) (all rest : List A) (done : List B) : Type 0 where
  pub faults : (fault : Fault) → IsFirst (each lines rest) fault → IsFirst (each lines all) fault
  pub holds : AllHold (each lines rest) → AllHold (each lines all)
  pub values : (more : List B) → AllZip Is rest more → AllZip Is all (done ++ more)
