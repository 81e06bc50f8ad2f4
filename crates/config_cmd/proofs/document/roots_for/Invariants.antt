use Rattle.std.proofs.Common.{◌≡◌, ◌++◌, false, Some, map, take, drop}
use Rattle.std.specs.List.{list_any}
use Rattle.std.specs.Str.{bytes_eq}
use Rattle.config_cmd.specs.Documents.{root_for}
use Rattle.config_cmd.proofs.document.roots_for.Given as goal

abbrev pub invariant-loop-requirement : goal.invariant-loop-requirement
invariant-loop-requirement l = record {
  made : l.roots.items ++ map (root_for l.name l.fn.update) (drop l.requirement-index l.requirements) ≡ map (root_for l.name l.fn.update) l.requirements;
  left : list_any (λ r. bytes_eq l.name r.name) (take l.requirement-index l.requirements) ≡ false → l.left ≡ Some l.fn.update;
}
