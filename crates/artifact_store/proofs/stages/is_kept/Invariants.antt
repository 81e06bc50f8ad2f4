use Rattle.std.proofs.Common.{◌≡◌, drop, map}
use Rattle.records.specs.Stored.{item_view, draft_item_view}
use Rattle.artifact_store.specs.Staged.{is_kept}
use Rattle.artifact_store.proofs.stages.is_kept.Given as goal

abbrev pub invariant-loop-other : goal.invariant-loop-other
invariant-loop-other l = is_kept (map item_view (drop l.other-index l.kept)) (draft_item_view l.item) ≡ is_kept (map item_view l.kept) (draft_item_view l.item)
