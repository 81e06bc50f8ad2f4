-- What every call that takes a document may rest on.
use Rattle.std.specs.Prelude.{ℕ, ◌≤◌, List, map, length, IfSome}
use Rattle.std.specs.List.{All}
use Rattle.std.specs.List.Sorted.{IsStrictlySortedBy}
use Rattle.std.specs.Ordering.{nat_cmp}
use Rattle.std.specs.Cmp.Lexicographic.{slice_cmp}
use Rattle.tree_core.specs.Parts.{IsObject}
use Rattle.tree_core.specs.Regular.{IsRegular}
use Rattle.tree_core.specs.View.{view}
use Rattle.config_ops.specs.declared.update.Update.{Update}
use Rattle.deployment_doc.specs.declared.document.Root.{Root}

abbrev pub root_name : Root → List ℕ
root_name root = root.name

-- what an update merges is a regular object
abbrev pub MergesObject : Update → Type 0
MergesObject update = IfSome update.merge (λ t. IsObject (view t) × IsRegular (view t))

abbrev pub UpdatesByObject : Root → Type 0
UpdatesByObject root = IfSome root.update MergesObject

-- at most 128, with names that rise strictly in byte order, and objects to merge
pub record AreSound (roots : List Root) : Type 0 where
  pub few : length roots ≤ 128
  pub rising : IsStrictlySortedBy (slice_cmp nat_cmp) (map root_name roots)
  pub merges : All UpdatesByObject roots
