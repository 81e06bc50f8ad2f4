use Rattle.std.proofs.Common.{◌≡◌, ◌∙◌, sym, true}
use Rattle.tree_core.specs.View.{view}
use Rattle.workload.specs.Documents.{is_root}
use Rattle.workload.proofs.Roots.{root_pair}
use Rattle.workload.proofs.documents.put_root.Goals as goal

pub returns : goal.returns
returns c =
    let is : is_root c.args.roots.now c.args.component ≡ true = sym c.contains.ensures.value ∙ c.if-not-contains.false in
    rw is
    (rw (root_pair c.args.component c.in_ok-name.name c.as_str.result.now (view c.in_ok-asked.asked) c.in_ok-name.ensures c.as_str.ensures
    c.in_ok-asked.ensures)
    at c.put_field.ensures.put)
