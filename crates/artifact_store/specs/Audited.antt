-- Which file an audit names.
use Rattle.std.specs.Prelude.{ℕ, List, Option, Some, None}
use Rattle.sha2.specs.Sha256.{sha256}
use Rattle.nuc_base.specs.Tables.{Table, IsFirst, AllHold, each}
use Rattle.tree_core.specs.Parts.{check}
use Rattle.disk_model.specs.Disk.{Image}
use Rattle.records.specs.Stored.{Item}
use Rattle.records.specs.declared.record.Held.{Held}
use Rattle.artifact_store.specs.Holding.{HoldsFile}
use Rattle.artifact_store.specs.Paths.{path}

-- the file of each artifact has its digest; where it has not, the file and the digest that it has
abbrev pub held_line : Image → Item → Held → Table (List ℕ × List ℕ)
held_line image i h = check (HoldsFile image i.name i.version h) (path i.name i.version h.file, sha256 (image (path i.name i.version h.file)))

abbrev pub item_line : Image → Item → Table (List ℕ × List ℕ)
item_line image i = each (held_line image i) i.artifacts

abbrev pub items_lines : Image → List Item → Table (List ℕ × List ℕ)
items_lines image items = each (item_line image) items

-- none where each has its digest, else the first that has another
abbrev pub AuditOutcome : Table (List ℕ × List ℕ) → Option (List ℕ × List ℕ) → Type 0
AuditOutcome lines None = AllHold lines
AuditOutcome lines (Some found) = IsFirst lines found
