-- What a crash may leave of a file, in one sentence: since the file was last made stable, any byte in a written range
-- or past the old end, any length from the least to the greatest that it had, and every other byte as it was.
use Rattle.std.specs.Prelude.{◌≡◌, ◌⊎◌, ℕ, ◌+◌, ◌<◌, ◌≤◌, min, max, if◌then◌else◌, List, [], ◌∷◌, length, take, slice_index}
use Rattle.std.specs.Str.{bytes_eq}
use Rattle.disk_model.specs.Disk.{Image}
use Rattle.disk_model.specs.Put.{overwritten}
use Rattle.disk_model.specs.Record.{seen_step}
use Rattle.disk_model.specs.declared.record.Call.{Call}
use Rattle.disk_model.specs.declared.record.Call.TheVariants.{Write as Written, Cut as CutTo, Sync as Synced}

-- a file since it was last made stable
pub record Unsynced : Type 0 where
  -- what it held then
  pub held : List ℕ
  -- the least and the greatest length that it has had since then
  pub least : ℕ
  pub greatest : ℕ
  -- the ranges that were written since then, each by its place and its length
  pub written : List (ℕ × ℕ)

-- it was made stable just now
abbrev pub stable : List ℕ → Unsynced
stable bytes = record { held = bytes; least = length bytes; greatest = length bytes; written = [] }

-- some range has this place
abbrev pub IsWritten : List (ℕ × ℕ) → ℕ → Type 0
IsWritten [] i = ⊥
IsWritten (range ∷ ranges) i = ((range.0 ≤ i) × (i < range.0 + range.1)) ⊎ IsWritten ranges i

-- the byte at this place isn't stable: it stands past the old end, or was written
abbrev pub IsLoose : Unsynced → ℕ → Type 0
IsLoose u i = (length u.held ≤ i) ⊎ IsWritten u.written i

-- what a crash may leave of the file
pub record MayHold (u : Unsynced) (bytes : List ℕ) : Type 0 where
  pub no_shorter : u.least ≤ length bytes
  pub no_longer : length bytes ≤ u.greatest
  pub stays : (i : ℕ) → i < length bytes → ¬ (IsLoose u i) → slice_index bytes i ≡ slice_index u.held i

-- each byte that isn't stable is this one, at the greatest length
pub record IsFilled (byte : ℕ) (u : Unsynced) (bytes : List ℕ) : Type 0 where
  pub longest : length bytes ≡ u.greatest
  pub loose : (i : ℕ) → i < length bytes → IsLoose u i → slice_index bytes i ≡ byte
  pub firm : (i : ℕ) → i < length bytes → ¬ (IsLoose u i) → slice_index bytes i ≡ slice_index u.held i

-- a change to this length
abbrev pub resized : ℕ → Unsynced → Unsynced
resized len u = record { held = u.held; least = min u.least len; greatest = max u.greatest len; written = u.written }

-- and a write to this range
abbrev pub rewritten : ℕ → ℕ → ℕ → Unsynced → Unsynced
rewritten len at n u = record { held = u.held; least = min u.least len; greatest = max u.greatest len; written = (at, n) ∷ u.written }

-- what a call makes of each file, where this is what is read before it
abbrev pub unsynced_step : Call → Image → (List ℕ → Unsynced) → List ℕ → Unsynced
unsynced_step (Written file at bytes) seen of name = if bytes_eq name file then rewritten (length (overwritten at bytes (seen file)))
    (min at (length (seen file))) (length bytes) (of file) else of name
unsynced_step (CutTo file n) seen of name = if bytes_eq name file then resized (length (take n (seen file))) (of file) else of name
unsynced_step (Synced file) seen of name = if bytes_eq name file then stable (seen file) else of name

abbrev pub unsynced_after : List Call → Image → (List ℕ → Unsynced) → List ℕ → Unsynced
unsynced_after [] seen of = of
unsynced_after (call ∷ calls) seen of = unsynced_after calls (seen_step call seen) (unsynced_step call seen of)

-- every file as at the start
abbrev pub all_stable : Image → List ℕ → Unsynced
all_stable start name = stable (start name)
