use Rattle.std.proofs.Common.{◌≡◌, ◌==◌, map, ap, true, vec_len, arith}
use Rattle.nuc_base.proofs.Tables.{handed_on}
use Rattle.recipe_reader.specs.declared.fault.RecipeFault.TheVariants.{NoMemory}
use Rattle.tree_core.specs.View.{view}
use Rattle.recipe_reader.proofs.Walks.{choice_found, choice_missing, choice_fault, some_tree}
use Rattle.recipe_reader.proofs.platform.choice_among.Goals as goal

pub returns-in-Some : goal.returns-in-Some
returns-in-Some c =
    let h = rw c.in-Some.is at c.in_ok-manifest.ensures in
    (choice_found c.args.platform.now (map view c.args.manifests.now.items) (view c.in-Some.manifest.now) h.0 h.1.0, (h.1.0, h.1.1))

pub returns-else-is_empty : goal.returns-else-is_empty
returns-else-is_empty c =
    let h = rw c.in-None.is at c.in_ok-manifest.ensures in
    choice_missing c.args.platform.now (map view c.args.manifests.now.items) h.0 h.1.0 (some_tree c.args.manifests.now.items (λ e.
    let none : vec_len c.args.manifests.now ≡ 0 = omega (arith, e) in
    let both : (vec_len c.args.manifests.now == 0) ≡ true = ap (λ n. n == 0) none in
    cc))

pub returns-in_err-manifest : goal.returns-in_err-manifest
returns-in_err-manifest c = handed_on NoMemory _ _ _ c.in_err-manifest.field-0.0 c.from_residual.ensures.1 (choice_fault c.args.platform.now
    (map view c.args.manifests.now.items) c.in_err-manifest.field-0.0 c.in_err-manifest.ensures)
