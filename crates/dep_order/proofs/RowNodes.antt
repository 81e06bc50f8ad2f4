-- The places of needs are nodes.
use Rattle.std.proofs.Common.{◌≡◌, ℕ, ◌<◌, eqb, List, get_or, sym, subst}
use Rattle.std.specs.List.{All, filter}
use Rattle.std.proofs.lemmas.List.Elements.{All-filter}
use Rattle.std.proofs.lemmas.List.Sorted.{All-permutation}
use Rattle.dep_order.specs.declared.Need.{Need}
use Rattle.dep_order.specs.declared.Edges.{Edges}
use Rattle.dep_order.specs.Orders.{AreNodes}
use Rattle.dep_order.specs.Rows.{AreRows}

-- in whatever order
pub rows_nodes : (edges : Edges) (rows : List Need) (n : ℕ) → AreNodes edges → AreRows edges.needs rows → n ≡ edges.nodes → All (λ (e : Need). e.from < n) rows
rows_nodes edges rows n nodes r same =
    let each : All (λ (e : Need). e.from < n) edges.needs = λ k d lt. (let here = nodes k d lt in
    subst (λ m. (get_or edges.needs k d).from < m) (sym same) here.0) in
    All-permutation (λ (e : Need). e.from < n) edges.needs rows r.same each

-- those to one place
pub row_nodes : (edges : Edges) (rows row : List Need) (p n : ℕ) → AreNodes edges → AreRows edges.needs rows → n ≡ edges.nodes →
    row ≡ filter (λ e. eqb e.to p) rows → All (λ (e : Need). e.from < n) row
row_nodes edges rows row p n nodes r same e =
    subst (All (λ (e : Need). e.from < n)) (sym e) (All-filter (λ (e : Need). eqb e.to p) (λ (e : Need). e.from < n) rows (rows_nodes edges rows n nodes r
    same))
