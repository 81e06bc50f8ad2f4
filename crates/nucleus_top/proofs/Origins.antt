-- A device has an origin exactly where its journal has an entry.
use Rattle.std.proofs.Common.{◌≡◌, ℕ, List, [], ◌∷◌, refl, Option, None, Some, ap, subst}
use Rattle.std.proofs.lemmas.Bool.{false≢true}
use Rattle.std.specs.Option.{IsSome}
use Rattle.disk_model.specs.Disk.{Image}
use Rattle.checkpoint_log.specs.Slots.{slots_entries, slots_none}
use Rattle.records.specs.declared.record.Origin.{Origin}
use Rattle.device.specs.Devices.{Device, no_device}
use Rattle.device.specs.Standing.{IsMeant}
use Rattle.device.proofs.Origins.{has_origin}
use Rattle.nucleus_top.specs.Opening.{HasEntry, IsFoundAs, IsImageOf}
use Rattle.nucleus_top.proofs.Standing.{none_of, same_device, none_stands}

-- what means the device before its first record is no payload
no_payload : (ps : List (List ℕ)) → IsMeant ps no_device → ps ≡ []
no_payload [] means = refl
no_payload (p ∷ ps) means = let origin = has_origin (p ∷ ps) no_device (λ is. cc) means in absurd cc

-- a journal that stands for it holds no entry
pub none_held : (image : Image) → IsImageOf image no_device → slots_none image
none_held image stands = none_of image (subst (λ (ps : List (List ℕ)). slots_entries image ps) (no_payload stands.payloads stands.means) stands.live)

some_origin : (x : Option Origin) → x ≡ None → IsSome x → ⊥
some_origin None is some = false≢true some
some_origin (Some o) is some = absurd cc

-- one that stands for a device with an origin holds some
pub has_entry : (image : Image) (d : Device) → IsImageOf image d → IsSome d.origin → HasEntry image
has_entry image d stands some = λ none.
    let same : d ≡ no_device = same_device image d no_device stands (none_stands image none) in
    some_origin d.origin (ap (λ (x : Device). x.origin) same) some

-- ---- what is found

pub are_found : (image : Image) (d : Device) → IsImageOf image d → IsSome d.origin → IsFoundAs image d
are_found image d stands some = record {
  some = has_entry image d stands some;
  one = λ e other. same_device image e d other stands;
  whole = λ none. none d stands;
}
