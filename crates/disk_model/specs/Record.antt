-- What a record of calls tells: what the files read as after it, and which images a crash may leave.
use Rattle.std.specs.Prelude.{◌≡◌, ℕ, ◌≤◌, min, List, [], ◌∷◌, ◌++◌, length, take}
use Rattle.disk_model.specs.Disk.{Image, Torn, Cut, Step, IsAfter}
use Rattle.disk_model.specs.Put.{put, overwritten}
use Rattle.disk_model.specs.declared.record.Call.{Call}
use Rattle.disk_model.specs.declared.record.Call.TheVariants.{Write as Written, Cut as CutTo, Sync as Synced}

-- what a call makes of what is read
abbrev pub seen_step : Call → Image → Image
seen_step (Written file at bytes) image = put file (overwritten at bytes (image file)) image
seen_step (CutTo file n) image = put file (take n (image file)) image
seen_step (Synced file) image = image

-- what a call makes of the images that a crash may leave, where this is what is read before it
abbrev pub images_step : Call → Image → (Image → Type 0) → Image → Type 0
images_step (Written file at bytes) image images = IsAfter images (Step file (Torn (min at (length (image file))) (length bytes)))
images_step (CutTo file n) image images = IsAfter images (Step file (Cut n))
images_step (Synced file) image images = λ c. images c × (c file ≡ image file)

abbrev pub seen_after : List Call → Image → Image
seen_after [] image = image
seen_after (call ∷ calls) image = seen_after calls (seen_step call image)

abbrev pub images_after : List Call → Image → (Image → Type 0) → Image → Type 0
images_after [] image images = images
images_after (call ∷ calls) image images = images_after calls (seen_step call image) (images_step call image images)

-- what a crash may leave after these calls
abbrev pub left_after : List Call → Image → Image → Type 0
left_after calls start = images_after calls start (λ c. c ≡ start)

-- what a crash at some moment from t on might have left
abbrev pub left_from : List Call → Image → ℕ → Image → Type 0
left_from calls start t c = (k : ℕ) × (t ≤ k) × (k ≤ length calls) × left_after (take k calls) start c

-- the files changed by this call, and the record has it
pub record Recorded (call : Call) (files later : Image) (old new : List Call) : Type 0 where
  pub reads : (name : List ℕ) → later name ≡ seen_step call files name
  pub calls : new ≡ old ++ call ∷ []

-- nothing changed
pub record Kept (files later : Image) (old new : List Call) : Type 0 where
  pub reads : (name : List ℕ) → later name ≡ files name
  pub calls : new ≡ old
