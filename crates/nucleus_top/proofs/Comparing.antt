-- The first file that differs stands in the folder of the artifacts.
use Rattle.std.proofs.Common.{◌≡◌, ◌∙◌, ◌⊎◌, inl, inr, ℕ, List, [], ◌∷◌, ◌++◌, ap, subst, Result, Ok, Err}
use Rattle.std.specs.Result.{IfOk}
use Rattle.hex.specs.Hex.{encode_lower}
use Rattle.status_text.specs.Status.{line}
use Rattle.std.specs.Prelude.{codes}
use Rattle.nuc_base.specs.Tables.{Table, IsFirst, each}
use Rattle.disk_model.specs.Disk.{Image}
use Rattle.disk_model.specs.Listing.{artifacts}
use Rattle.records.specs.Stored.{Item}
use Rattle.records.specs.declared.record.Held.{Held}
use Rattle.device.specs.Devices.{Device}
use Rattle.artifact_store.specs.Audited.{held_line, items_lines}
use Rattle.artifact_store.specs.Holding.{HoldsDevice}
use Rattle.artifact_store.specs.Swept.{items_of}
use Rattle.nucleus_top.specs.Audits.{NamesDifferent, differs_line}

abbrev IsInFolder : List ℕ → Type 0
IsInFolder name = (file : List ℕ) × (name ≡ artifacts ++ file)

first_in : (image : Image) (i : Item) (helds : List Held) (rest : Table (List ℕ × List ℕ)) (found : List ℕ × List ℕ)
    → IsFirst (each (held_line image i) helds ++ rest) found → IsInFolder found.0 ⊎ IsFirst rest found
first_in image i [] rest found first = inr first
first_in image i (h ∷ helds) rest found (inl here) = inl (
  i.name ++ (codes "/" ++ (i.version ++ (codes "/" ++ h.file))),
  ap (λ (f : List ℕ × List ℕ). f.0) here.1,
)
first_in image i (h ∷ helds) rest found (inr later) = first_in image i helds rest found later.1

in_folder : (image : Image) (items : List Item) (found : List ℕ × List ℕ) → IsFirst (items_lines image items) found → IsInFolder found.0
in_folder image [] found first = absurd first
in_folder image (i ∷ items) found first = elim (first_in image i i.artifacts (items_lines image items) found first) [
  | inl here ↦ here
  | inr later ↦ in_folder image items found later
]

pub names_different : (image : Image) (d : Device) (found : List ℕ × List ℕ) (text : List ℕ) → IsFirst (items_lines image (items_of d)) found →
    (HoldsDevice image d → ⊥)
    → ((rest : List ℕ) → found.0 ≡ artifacts ++ rest → text ≡ differs_line rest found.1) → NamesDifferent image d text
names_different image d found text first unlike line =
    let file = in_folder image (items_of d) found first in
    record {
      file = file.0;
      digest = found.1;
      first = subst (λ (f : List ℕ × List ℕ). IsFirst (items_lines image (items_of d)) f) (λ i. (file.1 i, found.1)) first;
      text_is = line file.0 file.1;
      unlike = unlike;
    }

-- the line of a file as it is shown and of its digest
pub paired_differs : {E : Type 0} (file digest shown digits : List ℕ) (result : Result (List ℕ) E) →
    ((rest : List ℕ) → file ≡ artifacts ++ rest → shown ≡ rest) → digits ≡ encode_lower digest
    → IfOk result (λ text. text ≡ line (codes "refused 20 Differs") (shown ∷ digits ∷ []))
    → IfOk result (λ text. (rest : List ℕ) → file ≡ artifacts ++ rest → text ≡ differs_line rest digest)
paired_differs file digest shown digits (Ok text) shows spelled is = λ rest stands.
    is ∙ ap (λ (l : List ℕ). line (codes "refused 20 Differs") (l ∷ digits ∷ [])) (shows rest stands) ∙ ap
    (λ (l : List ℕ). line (codes "refused 20 Differs") (rest ∷ l ∷ [])) spelled
paired_differs file digest shown digits (Err e) shows spelled is = tt
