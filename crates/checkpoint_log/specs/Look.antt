-- What a look at a slot's beginning answers.
use Rattle.std.specs.Prelude.{◌≡◌, ◌+◌, ◌<◌, ℕ, List, Result, Ok, Err, Option, Some, None, ⊤}
use Rattle.std.proofs.Common.{get_or}
use Rattle.disk_model.specs.Disk.{Image}
use Rattle.gate_log.specs.Entries.{HoldsNone}
use Rattle.gate_log.specs.declared.find.FindFault.{FindFault}
use Rattle.gate_log.specs.declared.find.FindFault.TheVariants.{Disk, NotInitialised, Damaged}
use Rattle.checkpoint_log.specs.Beginnings.{slot, HasFirstEntry, IsOlder, IsBadSlot}
use Rattle.checkpoint_log.specs.Slots.{slots_none, slots_damaged}

-- these bytes are the file's first fourteen, with zeros behind its end
abbrev pub IsHead : List ℕ → List ℕ → Type 0
IsHead head file = (i : ℕ) → i < 14 → get_or head i 0 ≡ get_or file i 0

-- what the first entry of a slot that holds one begins as
abbrev pub IsBeginning : List ℕ → List ℕ → Option ℕ → Type 0
IsBeginning name file (Some number) = HasFirstEntry file number × (slot number ≡ name)
IsBeginning name file None = (m : ℕ) → slot m ≡ name → ¬ (HasFirstEntry file m)

abbrev pub IsLook : List ℕ → List ℕ → Result (Option ℕ) FindFault → Type 0
IsLook name file (Ok None) = HoldsNone file
IsLook name file (Ok (Some number)) = IsBeginning name file (Some number)
IsLook name file (Err Disk) = ⊤
IsLook name file (Err NotInitialised) = ⊥
IsLook name file (Err (Damaged at)) = (at ≡ 0) × IsBadSlot name file

-- the number of the live slot, where its beginning and that of the other one are good
abbrev pub IsNumber : Image → Result ℕ FindFault → Type 0
IsNumber image (Ok number) = HasFirstEntry (image (slot number)) number × IsOlder (slot (number + 1)) (image (slot (number + 1))) number
IsNumber image (Err Disk) = ⊤
IsNumber image (Err NotInitialised) = slots_none image
IsNumber image (Err (Damaged at)) = slots_damaged image at
