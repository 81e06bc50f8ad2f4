-- Which files a sweep removes.
use Rattle.std.specs.Prelude.{◌≡◌, ◌≢◌, ℕ, Bool, false, List, [], ◌++◌, Option, Some, None}
use Rattle.disk_model.specs.Disk.{Image}
use Rattle.disk_model.specs.Listing.{artifacts, IsBelow}
use Rattle.records.specs.Stored.{Item}
use Rattle.device.specs.Devices.{Device, Pending}
use Rattle.artifact_store.specs.Paths.{IsFileAmong}

abbrev pub pending_items : Option Pending → List Item
pending_items None = []
pending_items (Some q) = q.plan.items

-- the items of the set and of the pending plan
abbrev pub items_of : Device → List Item
items_of d = d.set ++ pending_items d.pending

-- a file in the folder of the artifacts that none of the items names
abbrev pub IsStray : List Item → List ℕ → Type 0
IsStray items file = IsBelow artifacts file × (IsFileAmong items file → ⊥)

-- no stray file is there
abbrev pub IsSwept : List Item → Image → Type 0
IsSwept items image = (file : List ℕ) → IsBelow artifacts file → image file ≢ [] → IsFileAmong items file

-- the file, where it is not needed
abbrev pub IsUnneeded : Bool → List ℕ → List ℕ → Type 0
IsUnneeded needed file name = (needed ≡ false) × (name ≡ file)
