-- The two slots of a journal that turns, and what the first payload of one says.
use Rattle.std.specs.Prelude.{◌≡◌, ◌⊎◌, ℕ, zero, suc, ◌<◌, ◌≤◌, ◌%◌, List, ◌∷◌, ◌++◌, codes}
use Rattle.std.specs.Int.{w64, to_be_bytes}
use Rattle.gate_log.specs.Entries.{journal, entry, IsGood, HoldsNone}
use Rattle.gate_log.specs.Turned.{BeginsStore}

-- the second slot
abbrev pub second : List ℕ
second = codes "journal.b"

abbrev pub named : ℕ → List ℕ
named zero = journal
named (suc k) = second

-- the slot of a number: even ones stand in the first, odd ones in the second
abbrev pub slot : ℕ → List ℕ
slot n = named (n % 2)

-- the payload begins a store, or a turn with this number
pub record BeginsAs (payload : List ℕ) (number : ℕ) : Type 0 where
  pub some : 1 ≤ number
  pub small : number < 18446744073709551616
  pub rest : List ℕ
  pub is : payload ≡ 25 ∷ to_be_bytes w64 number ++ rest

abbrev pub HasNumber : List ℕ → ℕ → Type 0
HasNumber payload number = (BeginsStore payload × (number ≡ 0)) ⊎ BeginsAs payload number

-- the slot's first entry is whole, and its payload begins as that of this number
pub record HasFirstEntry (file : List ℕ) (number : ℕ) : Type 0 where
  pub first : ℕ × List ℕ
  pub more : List ℕ
  pub good : IsGood first
  pub file_is : file ≡ entry first ++ more
  pub says : HasNumber first.1 number

-- the first of these payloads begins as that of this number
pub record FirstSays (payloads : List (List ℕ)) (number : ℕ) : Type 0 where
  pub first : List ℕ
  pub others : List (List ℕ)
  pub is : payloads ≡ first ∷ others
  pub says : HasNumber first number

-- this slot holds no entry, or begins with a number of its own that is smaller
abbrev pub IsOlder : List ℕ → List ℕ → ℕ → Type 0
IsOlder name file number = HoldsNone file ⊎ ((m : ℕ) × (m < number) × (slot m ≡ name) × HasFirstEntry file m)

-- it holds an entry whose payload has no beginning that it may have
pub record IsBadSlot (name file : List ℕ) : Type 0 where
  pub some : ¬ (HoldsNone file)
  pub none : (m : ℕ) → slot m ≡ name → ¬ (HasFirstEntry file m)
