use Rattle.std.proofs.Common.{List, map, subst, inl}
use Rattle.records.specs.Stored.{item_view}
use Rattle.records.specs.declared.record.Item.{Item}
use Rattle.library_core.specs.Sources.{own, IsSkipped}
use Rattle.library_core.specs.SoFar.{IsOther, IsJoined}
use Rattle.library_core.proofs.Readings.{skipped_whole}
use Rattle.library_core.proofs.Sifting.{takes, skips, other_whole, passes_taken, joined_length, joined_other, stops_at}
use Rattle.library_core.proofs.taken.take_in.Goals as goal

pub returns-in-Ok-Some-clause-next : goal.returns-in-Ok-Some-clause-next
returns-in-Ok-Some-clause-next c =
    let p = c.args.origin.now.platform in
    let one = c.in-Ok-Some.candidate in
    let other : IsOther p c.args.bytes one = rw c.in-Ok-Some.field-0-is at c.in-Ok-Some.ensures in
    λ b before e so.
    let whole = other_whole b c.args.bytes p one e other in (
      passes_taken p b one whole,
      takes c.tree_laws.ensures.one_tree c.args.origin.now (map item_view c.args.kept.now) p before b one c.args.gathered c.join.result so whole
          (subst (λ (kept : List Item). IsJoined (map item_view kept) one c.args.gathered c.join.result) c.as_slice.ensures c.join.ensures),
    )

pub returns-in-Ok-Some-clause-few : goal.returns-in-Ok-Some-clause-few
returns-in-Ok-Some-clause-few c = λ n few. joined_length (map item_view c.as_slice.result.now) c.in-Ok-Some.candidate c.args.gathered c.join.result n
    c.join.ensures few

pub returns-in-Ok-Some-clause-held : goal.returns-in-Ok-Some-clause-held
returns-in-Ok-Some-clause-held c = λ held. joined_other (map item_view c.as_slice.result.now) c.in-Ok-Some.candidate c.args.gathered c.join.result
    c.join.ensures held

pub returns-in-Ok-None-clause-next : goal.returns-in-Ok-None-clause-next
returns-in-Ok-None-clause-next c =
    let p = c.args.origin.now.platform in
    let skipped : IsSkipped p c.args.bytes = rw c.in-Ok-None.field-0-is at c.in-Ok-None.ensures in
    λ b before e so.
    let whole = skipped_whole b p (subst (IsSkipped p) e skipped) in
    (inl whole, skips c.tree_laws.ensures.one_tree (own c.args.origin.now (map item_view c.args.kept.now)) p before b c.args.gathered so whole)

pub returns-in-Err-clause-next : goal.returns-in-Err-clause-next
returns-in-Err-clause-next c = λ b before e so.
    stops_at c.args.origin.now.platform b c.args.bytes c.args.at c.in-Err.fault c.stopped.result e c.in-Err.ensures c.stopped.ensures
