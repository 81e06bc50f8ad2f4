use Rattle.std.proofs.Common.{◌≡◌, drop}
use Rattle.std.specs.List.{list_any}
use Rattle.records.specs.Stored.{item_view}
use Rattle.library_core.specs.SoFar.{is_of}
use Rattle.library_core.proofs.taken.keeps.Given as goal

abbrev pub invariant-loop-item : goal.invariant-loop-item
invariant-loop-item l = list_any (λ item. is_of l.candidate (item_view item)) l.kept ≡ list_any (λ item. is_of l.candidate (item_view item))
    (drop l.item-index l.kept)
