-- The folder that a journal names: that of the first record of its live slot.
use Rattle.std.specs.Prelude.{◌≡◌, ℕ, List, ◌∷◌, Option, Some, None, Result, Ok, Err, ⊤, codes, ◌++◌}
use Rattle.disk_model.specs.Disk.{Image}
use Rattle.checkpoint_log.specs.Slots.{slots_entries}
use Rattle.records.specs.Layout.{Spelled}
use Rattle.records.specs.Stored.{Record, Genesis, Turned}
use Rattle.store_root.specs.declared.root.RootFault.{RootFault}
use Rattle.store_root.specs.declared.root.RootFault.TheVariants.{Disk, NoMemory}

-- a record that begins a store, or a turn of it, names the folder in which steps run
abbrev pub root_named : Record → Option (List ℕ)
root_named (Genesis origin) = Some origin.root
root_named (Turned number origin groups items closed) = Some origin.root
root_named _ = None

-- the first of these payloads spells a record that names this folder
pub record NamesRoot (payloads : List (List ℕ)) (root : List ℕ) : Type 0 where
  pub first : List ℕ
  pub others : List (List ℕ)
  pub is : payloads ≡ first ∷ others
  pub entry : Record
  pub spelled : Spelled first entry
  pub named : root_named entry ≡ Some root

-- this root, or none, is what the payload names
abbrev pub NamedBy : List ℕ → Option (List ℕ) → Type 0
NamedBy payload (Some root) = (entry : Record) × Spelled payload entry × (root_named entry ≡ Some root)
NamedBy payload None = (entry : Record) → Spelled payload entry → root_named entry ≡ None

-- what is answered of an image: the folder that its live entries begin with, or that they name none
abbrev pub RootAnswer : Image → Result (Option (List ℕ)) RootFault → Type 0
RootAnswer image (Ok (Some root)) = (payloads : List (List ℕ)) → slots_entries image payloads → NamesRoot payloads root
RootAnswer image (Ok None) = (payloads : List (List ℕ)) (root : List ℕ) → slots_entries image payloads → NamesRoot payloads root → ⊥
RootAnswer image (Err Disk) = ⊤
RootAnswer image (Err NoMemory) = ⊤

-- the refusal of a store that is not where it was made
abbrev pub moved_line : List ℕ → List ℕ
moved_line root = codes "refused 21 Moved " ++ root ++ codes "\n"
