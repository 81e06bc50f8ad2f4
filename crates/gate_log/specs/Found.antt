-- What `find` answers.
use Rattle.std.specs.Prelude.{◌≢◌, ℕ, List, [], Result, Ok, Err, ⊤}
use Rattle.disk_model.specs.Disk.{Image}
use Rattle.gate_log.specs.declared.find.FindFault.{FindFault}
use Rattle.gate_log.specs.declared.find.FindFault.TheVariants.{Disk, NotInitialised, Damaged}

-- the answer that an image calls for, where the disk does not fail
abbrev pub FindsBy : {J : Type 0} → (Image → Type 0) → (Image → ℕ → Type 0) → (J → Image → List (List ℕ) → Type 0) → Image → Result J FindFault → Type 0
FindsBy none damaged stands image (Ok log) = (payloads : List (List ℕ)) × stands log image payloads × (payloads ≢ [])
FindsBy none damaged stands image (Err Disk) = ⊤
FindsBy none damaged stands image (Err NotInitialised) = none image
FindsBy none damaged stands image (Err (Damaged at)) = damaged image at
