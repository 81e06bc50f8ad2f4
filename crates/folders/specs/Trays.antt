-- What the calls of a tray answer, by what was taken before and the events of the call.
use Rattle.std.specs.Prelude.{◌≡◌, ◌⊎◌, ◌↔◌, ℕ, List, Bool, true, false, Option, Some, None, Result, Ok, Err, IsSome, Contains, take}
use Rattle.nuc_base.specs.declared.memory.NoMemory.{NoMemory}
use Rattle.folders.specs.History.{File, Content, Event, Through, Once, IsUntouched, with_file, taken_after}
use Rattle.folders.specs.Calls.{Stands, IsThere, IsReadable}

abbrev pub ListsTaken : Content → List (List ℕ) → Type 0
ListsTaken taken names = (name : List ℕ) → Contains names name ↔ IsSome (taken name)

-- one file that can be read did not stand there all the time, or one of its name was taken before
abbrev pub IsNotTaken : List ℕ → Content → List Event → Type 0
IsNotTaken name taken found = (f : File) → IsReadable f → Through (Stands name f) found → taken name ≡ None → ⊥

-- a file that stood there is among the taken ones, where none of its name was
pub record IsTaken (name : List ℕ) (taken : Content) (found : List Event) : Type 0 where
  pub file : File
  pub stood : Once (Stands name file) found
  pub was : taken name ≡ None
  pub now : (n : List ℕ) → taken_after taken found n ≡ with_file name (Some file) taken n

abbrev pub Takes : List ℕ → Result Bool NoMemory → Content → List Event → Type 0
Takes name (Ok true) taken found = IsTaken name taken found
Takes name (Ok false) taken found = IsUntouched found × IsNotTaken name taken found
Takes name (Err e) taken found = IsUntouched found

-- the first bytes of the file that was taken
pub record IsReadFrom (file : Option File) (most : ℕ) (bytes : List ℕ) : Type 0 where
  pub from : File
  pub is : file ≡ Some from
  pub plain : from.is_plain ≡ true
  pub what : bytes ≡ take most from.bytes

abbrev pub OpensTaken : Content → List ℕ → ℕ → Option (List ℕ) → Type 0
OpensTaken taken name most (Some bytes) = IsReadFrom (taken name) most bytes
OpensTaken taken name most None = (f : File) → IsReadable f → taken name ≡ Some f → ⊥

-- it is not taken any more
abbrev pub IsGone : List ℕ → Content → List Event → Type 0
IsGone name taken found = (n : List ℕ) → taken_after taken found n ≡ with_file name None taken n

-- it is back under its name; or it stays where it is, since another stood there, or none was taken
abbrev pub PutsBack : List ℕ → Result Bool NoMemory → Content → List Event → Type 0
PutsBack name (Ok true) taken found = IsGone name taken found
PutsBack name (Ok false) taken found = IsUntouched found × (Once (IsThere name) found ⊎ (taken name ≡ None))
PutsBack name (Err e) taken found = IsUntouched found

abbrev pub EndsIt : {E : Type 0} → List ℕ → Result (Unit {0}) E → Content → List Event → Type 0
EndsIt name (Ok u) taken found = IsGone name taken found
EndsIt name (Err e) taken found = IsUntouched found
