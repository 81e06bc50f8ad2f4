-- Where the files of artifacts stand.
use Rattle.std.specs.Prelude.{◌≡◌, ℕ, List, ◌++◌, codes}
use Rattle.std.specs.List.{Contains}
use Rattle.nuc_base.specs.Names.{IsName}
use Rattle.npm_ranges.specs.Versions.{IsVersion}
use Rattle.disk_model.specs.Listing.{artifacts}
use Rattle.records.specs.Stored.{Item, DraftItem}
use Rattle.records.specs.declared.record.Held.{Held}

-- `packages/artifacts/NAME/VERSION/FILE`
abbrev pub path : List ℕ → List ℕ → List ℕ → List ℕ
path name version file = artifacts ++ (name ++ (codes "/" ++ (version ++ (codes "/" ++ file))))

-- a name and a version, neither of which has a slash
abbrev pub IsNamed : Item → Type 0
IsNamed i = IsName i.name × IsVersion i.version

abbrev pub IsNamedDraft : DraftItem → Type 0
IsNamedDraft i = IsName i.name × IsVersion i.version

-- it is the file of an artifact of the item
abbrev pub IsFileOf : Item → List ℕ → Type 0
IsFileOf i file = (h : Held) × Contains i.artifacts h × (file ≡ path i.name i.version h.file)

-- of an artifact of one of the items
abbrev pub IsFileAmong : List Item → List ℕ → Type 0
IsFileAmong items file = (i : Item) × Contains items i × IsFileOf i file
