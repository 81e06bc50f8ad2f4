-- A draft whose artifacts have their digests.
use Rattle.std.specs.Prelude.{◌≡◌, ℕ, List, Option, Some, None}
use Rattle.std.specs.List.{AllZip}
use Rattle.sha2.specs.Sha256.{sha256}
use Rattle.nuc_base.specs.declared.artifact.Artifact.{Artifact}
use Rattle.library_core.specs.Library.{Artifacts}
use Rattle.records.specs.Stored.{Item, Plan, DraftItem, Draft}
use Rattle.records.specs.declared.record.Held.{Held}
use Rattle.device.specs.Filled.{PlanFilled}

-- ---- by the bytes of a library

-- the digest of what the library has for the file
abbrev pub IsDigestOf : Option (List ℕ) → List ℕ → Type 0
IsDigestOf None digest = ⊥
IsDigestOf (Some bytes) digest = digest ≡ sha256 bytes

-- a digest that the draft has not is that of the library's bytes
abbrev pub FillsFile : Artifacts → DraftItem → Artifact → Held → Type 0
FillsFile l i a h = (a.digest ≡ None) → IsDigestOf (l i.name i.version a.file) h.digest

abbrev pub FillsFiles : Artifacts → DraftItem → Item → Type 0
FillsFiles l i item = AllZip (FillsFile l i) i.artifacts item.artifacts

pub record Filled (l : Artifacts) (draft : Draft) (plan : Plan) : Type 0 where
  pub fills : PlanFilled draft plan
  pub files : AllZip (FillsFiles l) draft.items plan.items
