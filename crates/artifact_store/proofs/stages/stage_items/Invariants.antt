use Rattle.std.proofs.Common.{◌≡◌, IsTrue, map, Some}
use Rattle.std.specs.List.{AllByRecursion, Contains}
use Rattle.std.specs.Vec.Iter.{into_iter_items}
use Rattle.disk_model.specs.Disk.{HasLeft, IsAfter}
use Rattle.disk_model.specs.Spares.{IsSameBut}
use Rattle.nuc_base.specs.Tables.{IsPass}
use Rattle.library_core.specs.Library.{Artifacts}
use Rattle.records.specs.Stored.{DraftItem, item_view, draft_item_view}
use Rattle.device.specs.Filled.{ItemFilled}
use Rattle.artifact_store.specs.Filled.{FillsFiles}
use Rattle.artifact_store.specs.Holding.{AllHoldItems}
use Rattle.artifact_store.specs.Paths.{IsNamed, IsNamedDraft}
use Rattle.artifact_store.specs.Staged.{IsStagedAmong, HasItsFiles, KeepsFiles, draft_name, item_lines}
use Rattle.artifact_store.proofs.Staging.{Apart, Differ, item_named, no_lines}
use Rattle.artifact_store.proofs.stages.stage_items.Given as goal

abbrev pub invariant-loop-draft : goal.invariant-loop-draft
invariant-loop-draft g l = record {
  can_next : (goal.iterator-loop-draft g).can_next l.draft-iterator;
  is_finite : (goal.iterator-loop-draft g).is_finite l.draft-iterator;
  goes : HasLeft g.D.Disk.moment g.D.Disk.left_since l.fn.disk l.disk
      (IsAfter (g.D.Disk.may_leave l.fn.disk) (IsSameBut (IsStagedAmong (map item_view l.kept) (map draft_item_view l.fn.drafts))));
  others : IsTrue g.D.Disk.is_modelled → IsSameBut (IsStagedAmong (map item_view l.kept) (map draft_item_view l.fn.drafts)) (g.D.Disk.seen l.fn.disk)
      (g.D.Disk.seen l.disk);
  disk_faults : g.D.Disk.faults l.disk ≡ g.D.Disk.faults l.fn.disk;
  content : g.L.Library.content l.library ≡ g.L.Library.content l.fn.library;
  coming : g.L.Library.coming l.library ≡ g.L.Library.coming l.fn.library;
  library_faults : g.L.Library.faults l.library ≡ g.L.Library.faults l.fn.library;
  inside : (i : DraftItem) → Contains (map draft_item_view (into_iter_items l.draft-iterator)) i → Contains (map draft_item_view l.fn.drafts) i;
  drafted : AllByRecursion IsNamedDraft (map draft_item_view (into_iter_items l.draft-iterator));
  differ : AllByRecursion HasItsFiles (map draft_item_view (into_iter_items l.draft-iterator));
  keeps : AllByRecursion (KeepsFiles (map item_view l.kept)) (map draft_item_view (into_iter_items l.draft-iterator));
  names : Differ (map draft_name (map draft_item_view (into_iter_items l.draft-iterator)));
  apart : Apart item_named draft_name (map item_view l.items.items) (map draft_item_view (into_iter_items l.draft-iterator));
  named : AllByRecursion IsNamed (map item_view l.items.items);
  kept : AllHoldItems (g.D.Disk.may_leave l.fn.disk) (map item_view l.kept) → AllHoldItems (g.D.Disk.may_leave l.disk) (map item_view l.kept);
  held : AllHoldItems (g.D.Disk.may_leave l.fn.disk) (map item_view l.kept) → AllHoldItems (g.D.Disk.may_leave l.disk) (map item_view l.items.items);
  filled : IsPass no_lines ItemFilled (map draft_item_view l.fn.drafts) (map draft_item_view (into_iter_items l.draft-iterator)) (map item_view l.items.items);
  passes : (c : Artifacts) → (g.L.Library.content l.fn.library).artifacts ≡ Some c →
      IsPass (item_lines c (map item_view l.kept)) (FillsFiles c) (map draft_item_view l.fn.drafts) (map draft_item_view (into_iter_items l.draft-iterator))
      (map item_view l.items.items);
}
