-- What is told of the live entries of an image without replaying them.
use Rattle.std.specs.Prelude.{◌≡◌, ℕ, List, length, Option, Some, None, Result, Ok, Err, ⊤}
use Rattle.disk_model.specs.Disk.{Image}
use Rattle.gate_log.specs.declared.entry.EntryFault.{EntryFault}
use Rattle.checkpoint_log.specs.Slots.{slots_entries}
use Rattle.store_root.specs.Kinds.{unknown_from}
use Rattle.store_root.specs.declared.tally.Tally.{Tally}
use Rattle.store_root.specs.declared.tally.UnknownRecord.{UnknownRecord}

-- this is the first live entry of an unknown kind, or there is none
abbrev pub IsFirstUnknown : Image → Option UnknownRecord → Type 0
IsFirstUnknown image (Some u) = (payloads : List (List ℕ)) × slots_entries image payloads × (unknown_from 0 payloads ≡ Some u)
IsFirstUnknown image None = (payloads : List (List ℕ)) → slots_entries image payloads → unknown_from 0 payloads ≡ None

-- there are so many live entries
abbrev pub HasRecords : Image → ℕ → Type 0
HasRecords image n = (payloads : List (List ℕ)) → slots_entries image payloads → n ≡ length payloads

abbrev pub TallyAnswer : Image → Result Tally EntryFault → Type 0
TallyAnswer image (Ok tally) = HasRecords image tally.records × IsFirstUnknown image tally.unknown
TallyAnswer image (Err f) = ⊤
