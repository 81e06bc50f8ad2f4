-- Staging and sweeping leave alone what the device needs.
use Rattle.std.specs.Prelude.{◌≡◌, ℕ, List, None, codes}
use Rattle.std.specs.List.{AllByRecursion}
use Rattle.nuc_base.specs.Names.{IsName}
use Rattle.npm_ranges.specs.Versions.{IsVersion}
use Rattle.disk_model.specs.Disk.{Image}
use Rattle.disk_model.specs.Listing.{artifacts, IsBelow}
use Rattle.disk_model.specs.Spares.{IsSameBut}
use Rattle.records.specs.Stored.{Item, Draft}
use Rattle.device.specs.Devices.{Device}
use Rattle.artifact_store.specs.Holding.{HoldsDevice, HoldsItems}
use Rattle.artifact_store.specs.Paths.{path, IsNamed, IsNamedDraft}
use Rattle.artifact_store.specs.Staged.{IsStaged}
use Rattle.artifact_store.specs.Swept.{items_of, IsStray}

-- two artifacts have one path only where they are one: neither names nor versions have a slash
abbrev pub PathsDiffer : Type 0
PathsDiffer = (n v f m w g : List ℕ) → IsName n → IsVersion v → IsName m → IsVersion w → path n v f ≡ path m w g → (n ≡ m) × (v ≡ w) × (f ≡ g)

-- what an image holds of the kept items stays, whatever becomes of the files that are staged
abbrev pub StagingKeeps : Type 0
StagingKeeps = (kept : List Item) (draft : Draft) (old new : Image) → AllByRecursion IsNamed kept → AllByRecursion IsNamedDraft draft.items
    → IsSameBut (IsStaged kept draft) old new → HoldsItems old kept → HoldsItems new kept

-- and what it holds of a device, whatever becomes of the files that it does not name
abbrev pub SweepingKeeps : Type 0
SweepingKeeps = (d : Device) (old new : Image) → IsSameBut (IsStray (items_of d)) old new → HoldsDevice old d → HoldsDevice new d

-- where nothing is pending a device's files are those of its set
abbrev pub HoldsTheSet : Type 0
HoldsTheSet = (d : Device) (image : Image) → d.pending ≡ None → HoldsItems image d.set → HoldsDevice image d

-- every file that is staged or swept lies in the folder of the artifacts
abbrev pub StaysBelow : Type 0
StaysBelow = (kept : List Item) (draft : Draft) (items : List Item) (file : List ℕ) → (IsStaged kept draft file → IsBelow artifacts file) ×
    (IsStray items file → IsBelow artifacts file)

-- in which no journal lies
abbrev pub JournalsLieElsewhere : Type 0
JournalsLieElsewhere = (IsBelow artifacts (codes "journal") → ⊥) × (IsBelow artifacts (codes "journal.b") → ⊥)
