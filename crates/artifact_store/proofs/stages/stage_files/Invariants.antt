use Rattle.std.proofs.Common.{◌≡◌, IsTrue, map, drop, Some}
use Rattle.disk_model.specs.Disk.{Image, HasLeft, IsAfter}
use Rattle.disk_model.specs.Spares.{IsSameBut}
use Rattle.nuc_base.specs.Tables.{IsPass}
use Rattle.library_core.specs.Library.{Artifacts}
use Rattle.records.specs.Stored.{draft_item_view}
use Rattle.records.specs.declared.record.Held.{Held}
use Rattle.device.specs.Plans.{IsHeldFor}
use Rattle.artifact_store.specs.Filled.{FillsFile}
use Rattle.artifact_store.specs.Holding.{HoldsFiles}
use Rattle.recipe_reader.specs.Sound.{artifact_file}
use Rattle.artifact_store.specs.Staged.{IsFileOfDraft, artifact_lines}
use Rattle.artifact_store.proofs.Staging.{Apart, Differ, no_lines}
use Rattle.artifact_store.proofs.stages.stage_files.Given as goal

abbrev pub invariant-loop-artifact : goal.invariant-loop-artifact
invariant-loop-artifact g l = record {
  goes : HasLeft g.D.Disk.moment g.D.Disk.left_since l.fn.disk l.disk
      (IsAfter (g.D.Disk.may_leave l.fn.disk) (IsSameBut (IsFileOfDraft (draft_item_view l.item))));
  others : IsTrue g.D.Disk.is_modelled → IsSameBut (IsFileOfDraft (draft_item_view l.item)) (g.D.Disk.seen l.fn.disk) (g.D.Disk.seen l.disk);
  disk_faults : g.D.Disk.faults l.disk ≡ g.D.Disk.faults l.fn.disk;
  content : g.L.Library.content l.library ≡ g.L.Library.content l.fn.library;
  coming : g.L.Library.coming l.library ≡ g.L.Library.coming l.fn.library;
  library_faults : g.L.Library.faults l.library ≡ g.L.Library.faults l.fn.library;
  differ : Differ (map artifact_file (drop l.artifact-index l.item.artifacts));
  apart : Apart (λ (h : Held). h.file) artifact_file l.helds.items (drop l.artifact-index l.item.artifacts);
  held : (c : Image) → g.D.Disk.may_leave l.disk c → HoldsFiles c l.item.name l.item.version l.helds.items;
  given : IsPass no_lines IsHeldFor l.item.artifacts (drop l.artifact-index l.item.artifacts) l.helds.items;
  passes : (c : Artifacts) → (g.L.Library.content l.fn.library).artifacts ≡ Some c →
      IsPass (artifact_lines c (draft_item_view l.item)) (FillsFile c (draft_item_view l.item)) l.item.artifacts (drop l.artifact-index l.item.artifacts)
      l.helds.items;
}
