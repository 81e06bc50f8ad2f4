use Rattle.std.proofs.Common.{◌≡◌, ◌-◌, true, false, leb, ltb, length, take, drop, rules, subst, sym, ap, ◌∙◌}
use Rattle.std.specs.List.Sorted.{IsPartitionPoint, IsNonDecreasingBy}
use Rattle.std.proofs.lemmas.List.{take_rest}
use Rattle.std.proofs.lemmas.List.Sorted.{IsPartitionPoint-from_clause, IsPartitionedBy-ltb, IsPartitionedBy-leb, IsNonDecreasingBy-drop}
use Rattle.dep_order.specs.declared.Need.{Need}
use Rattle.dep_order.proofs.RowParts.{row_is}
use Rattle.dep_order.proofs.rows.row_to.Goals as goal

pub returns : goal.returns
returns c =
    let rows = c.args.rows.now in
    let i = c.partition_point-start.result in
    let n = c.partition_point-len.result in
    let whole = take_rest rows i in
    let parted = IsPartitionedBy-ltb (λ (e : Need). e.to) rows c.args.place c.requires in
    let first = IsPartitionPoint-from_clause (λ (e : Need). ltb e.to c.args.place) rows i c.partition_point-start.ensures.partitioned parted
    (λ a r q k. search rules) in
    let rising = subst (IsNonDecreasingBy (λ (e : Need). e.to)) (sym whole) (IsNonDecreasingBy-drop (λ (e : Need). e.to) i rows c.requires) in
    let parted_rest = IsPartitionedBy-leb (λ (e : Need). e.to) (take (length rows - i) (drop i rows)) c.args.place rising in
    let second = IsPartitionPoint-from_clause (λ (e : Need). leb e.to c.args.place) (take (length rows - i) (drop i rows)) n
    c.partition_point-len.ensures.partitioned parted_rest (λ a r q k. search rules) in
    let second' = subst (λ l. IsPartitionPoint (λ (e : Need). leb e.to c.args.place ≡ true) (λ (e : Need). leb e.to c.args.place ≡ false) l n) whole second in
    ap (take n) whole ∙ sym (row_is rows c.args.place i n first.0 first.1 second'.0 second'.1)
