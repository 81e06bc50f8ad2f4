-- Journals that stand for no device.
use Rattle.std.specs.Prelude.{◌⊎◌, ℕ, List}
use Rattle.disk_model.specs.Disk.{Image}
use Rattle.device.specs.Devices.{Device}
use Rattle.device.specs.Standing.{StandsFor, IsDamagedAt}

abbrev pub StandsForNone : (Image → List (List ℕ) → Type 0) → Image → Type 0
StandsForNone entries image = (d : Device) → StandsFor entries image d → ⊥

-- at this place is what keeps the image from standing for a device: the journal itself is damaged there, or what its entries say
abbrev pub IsDamagedIn : (Image → List (List ℕ) → Type 0) → (Image → ℕ → Type 0) → Image → ℕ → Type 0
IsDamagedIn entries is_damaged image at = is_damaged image at ⊎ ((payloads : List (List ℕ)) × entries image payloads × IsDamagedAt payloads at)

-- the image stands for no device, by the fault at this place
pub record IsDamage (entries : Image → List (List ℕ) → Type 0) (is_damaged : Image → ℕ → Type 0) (image : Image) (at : ℕ) : Type 0 where
  pub place : IsDamagedIn entries is_damaged image at
  pub none : StandsForNone entries image
