-- The files of artifacts have the digests that are kept of them.
use Rattle.std.specs.Prelude.{◌≡◌, ℕ, List}
use Rattle.std.specs.List.{AllByRecursion}
use Rattle.std.specs.Option.{IfSome}
use Rattle.sha2.specs.Sha256.{sha256}
use Rattle.disk_model.specs.Disk.{Image}
use Rattle.records.specs.Stored.{Item}
use Rattle.records.specs.declared.record.Held.{Held}
use Rattle.device.specs.Devices.{Device}
use Rattle.artifact_store.specs.Paths.{path}

-- the file of this name, version and artifact has bytes with the kept digest (FIPS 180-4)
abbrev pub HoldsFile : Image → List ℕ → List ℕ → Held → Type 0
HoldsFile image name version h = sha256 (image (path name version h.file)) ≡ h.digest

abbrev pub HoldsFiles : Image → List ℕ → List ℕ → List Held → Type 0
HoldsFiles image name version helds = AllByRecursion (HoldsFile image name version) helds

abbrev pub HoldsItem : Image → Item → Type 0
HoldsItem image i = HoldsFiles image i.name i.version i.artifacts

abbrev pub HoldsItems : Image → List Item → Type 0
HoldsItems image items = AllByRecursion (HoldsItem image) items

-- the image has each artifact of the set and of the pending plan
pub record HoldsDevice (image : Image) (d : Device) : Type 0 where
  pub set : HoldsItems image d.set
  pub pending : IfSome d.pending (λ q. HoldsItems image q.plan.items)

-- each of these images has those of the items
abbrev pub AllHoldItems : (Image → Type 0) → List Item → Type 0
AllHoldItems images items = (c : Image) → images c → HoldsItems c items

-- each of these images has those of the device
abbrev pub AllHoldDevice : (Image → Type 0) → Device → Type 0
AllHoldDevice images d = (c : Image) → images c → HoldsDevice c d
