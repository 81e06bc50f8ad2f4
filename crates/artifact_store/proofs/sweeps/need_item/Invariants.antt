use Rattle.std.proofs.Common.{◌≡◌, ℕ, List, take}
use Rattle.std.specs.Prelude.{◌||◌}
use Rattle.std.specs.List.{list_any}
use Rattle.std.specs.Str.{bytes_eq}
use Rattle.std.specs.Ordering.{nat_cmp}
use Rattle.std.specs.Cmp.Lexicographic.{slice_cmp}
use Rattle.std.specs.BTreeSet.{contains}
use Rattle.artifact_store.specs.Paths.{path}
use Rattle.artifact_store.proofs.sweeps.need_item.Given as goal

abbrev pub invariant-loop-held : goal.invariant-loop-held
invariant-loop-held l = (file : List ℕ) → contains (slice_cmp nat_cmp) l.needed file ≡ (contains (slice_cmp nat_cmp) l.fn.needed file ||
    list_any (λ h. bytes_eq (path l.item.name l.item.version h.file) file) (take l.held-index l.item.artifacts))
