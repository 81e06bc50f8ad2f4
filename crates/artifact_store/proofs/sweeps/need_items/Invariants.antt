use Rattle.std.proofs.Common.{◌≡◌, ℕ, List, map, take}
use Rattle.std.specs.Prelude.{◌||◌}
use Rattle.std.specs.Ordering.{nat_cmp}
use Rattle.std.specs.Cmp.Lexicographic.{slice_cmp}
use Rattle.std.specs.BTreeSet.{contains}
use Rattle.records.specs.Stored.{item_view}
use Rattle.artifact_store.specs.Needed.{is_file_among}
use Rattle.artifact_store.proofs.sweeps.need_items.Given as goal

abbrev pub invariant-loop-item : goal.invariant-loop-item
invariant-loop-item l = (file : List ℕ) → contains (slice_cmp nat_cmp) l.needed file ≡ (contains (slice_cmp nat_cmp) l.fn.needed file ||
    is_file_among (map item_view (take l.item-index l.items)) file)
