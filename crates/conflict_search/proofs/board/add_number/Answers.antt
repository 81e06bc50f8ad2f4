use Rattle.std.proofs.Common.{sym, subst, inl, inr}
use Rattle.std.specs.List.{Contains}
use Rattle.std.specs.Ordering.{nat_cmp}
use Rattle.std.specs.BTreeSet.{insert_key}
use Rattle.dep_order.proofs.Ready.{in_insert, insert_keeps, insert_has}
use Rattle.conflict_search.proofs.board.add_number.Goals as goal

pub returns : goal.returns
returns c = λ q.
    let old = c.args.numbers.now.keys in
    let e = c.in_ok-insert.ensures.keys in (
      λ i. in_insert old c.args.number q (subst (λ l. Contains l q) e i),
      λ h. subst (λ l. Contains l q) (sym e) (elim h [
        | inl i ↦ insert_keeps old c.args.number q i
        | inr s ↦ subst (Contains (insert_key nat_cmp old c.args.number)) (sym s) (insert_has old c.args.number)
      ]),
    )
