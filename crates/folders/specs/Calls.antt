-- What the calls of a folder answer, by the moments that they saw.
use Rattle.std.specs.Prelude.{◌≡◌, ◌≤◌, ℕ, List, Bool, true, false, Option, Some, None, Result, Ok, Err, IsSome, Contains, take, length, ⊤}
use Rattle.folders.specs.declared.identity.Identity.{Identity}
use Rattle.folders.specs.declared.folder.Opened.{Opened}
use Rattle.folders.specs.declared.folder.FolderFault.{FolderFault}
use Rattle.folders.specs.declared.folder.FolderFault.TheVariants.{Failed, NoMemory}
use Rattle.folders.specs.History.{File, Content, Event, Through, Once}

-- ---- what stands under a name at one moment

abbrev pub Stands : List ℕ → File → Content → Type 0
Stands name f c = c name ≡ Some f

abbrev pub IsThere : List ℕ → Content → Type 0
IsThere name c = IsSome (c name)

pub record HasPlain (name : List ℕ) (c : Content) : Type 0 where
  pub file : File
  pub stands : Stands name file c
  pub plain : file.is_plain ≡ true

-- the plain file of this identity
pub record Has (name : List ℕ) (identity : Identity) (c : Content) : Type 0 where
  pub file : File
  pub stands : Stands name file c
  pub plain : file.is_plain ≡ true
  pub same : file.identity ≡ identity

-- ---- what the calls answer

-- a plain file that can be opened and read
abbrev pub IsReadable : File → Type 0
IsReadable f = (f.is_plain ≡ true) × (f.is_readable ≡ true)

-- it is no answer where one file that can be read stood there all the time
abbrev pub IsPassed : List ℕ → List Event → Type 0
IsPassed name found = (f : File) → IsReadable f → Through (Stands name f) found → ⊥

-- the plain file that was opened stood there, and its first bytes were read if it stood there all the time
pub record Gave (name : List ℕ) (most : ℕ) (found : List Event) (o : Opened) : Type 0 where
  pub stood : Once (Has name o.identity) found
  pub bytes : (f : File) → Through (Stands name f) found → o.bytes ≡ take most f.bytes

abbrev pub Opens : List ℕ → ℕ → List Event → Result (Option Opened) FolderFault → Type 0
Opens name most found (Ok (Some o)) = Gave name most found o
Opens name most found (Ok None) = IsPassed name found
Opens name most found (Err Failed) = IsPassed name found
Opens name most found (Err NoMemory) = ⊤

abbrev pub IsShort : ℕ → Option Opened → Type 0
IsShort most (Some o) = length o.bytes ≤ most
IsShort most None = ⊤

-- what stands all the time is listed, and what is listed stood there
pub record IsListing (found : List Event) (names : List (List ℕ)) : Type 0 where
  pub all : (name : List ℕ) → Through (IsThere name) found → Contains names name
  pub only : (name : List ℕ) → Contains names name → Once (IsThere name) found

abbrev pub LooksUp : List ℕ → List Event → Bool → Type 0
LooksUp name found true = Once (HasPlain name) found
LooksUp name found false = Through (HasPlain name) found → ⊥
