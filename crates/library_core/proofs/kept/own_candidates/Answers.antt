use Rattle.std.proofs.Common.{◌<◌, ◌≤◌, List, [], length, map, ap, arith}
use Rattle.records.specs.declared.record.Item.{Item}
use Rattle.records.specs.Stored.{item_view}
use Rattle.library_core.specs.Sources.{own}
use Rattle.library_core.proofs.Owning.{own_start, own_next, own_end, own_clash, kept_at, handed_so, seen_below, seen_at, seen_past}
use Rattle.library_core.proofs.kept.own_candidates.Goals as goal

pub loop-item-init : goal.loop-item-init
loop-item-init c =
    let n = c.in_ok-candidates.ensures in
    own_start c.args.origin.now.nucleus c.args.origin.now.platform (map item_view c.as_slice-item-items.result.now) c.in_ok-candidates.candidates n.0 n.1 n.2

pub candidate_of-requires : goal.candidate_of-requires
candidate_of-requires c =
    let items : List Item = c.as_slice-item-items.result.now in
    let i = c.loop-item.item-index in
    let below : i < length items = omega arith in
    kept_at c.args.origin.now.platform (map item_view c.args.kept.now) (map item_view items) i (item_view c.item-item.result)
    (ap (map item_view) c.as_slice-item-items.ensures)
    (seen_below items i below) (seen_at items i c.item-item.result below c.item-item.is) c.requires.read

pub returns-in_err-keep-clause-so_far : goal.returns-in_err-keep-clause-so_far
returns-in_err-keep-clause-so_far c =
    let o = c.args.origin.now in
    let items : List Item = c.as_slice-item-items.result.now in
    let i = c.loop-item.item-index in
    let below : i < length items = omega arith in
    let f = c.in_err-keep.field-0.0 in
    handed_so (own o (map item_view c.args.kept.now)) o.platform [] _ f c.from_residual-in_err-keep.ensures.1
    (own_clash o (map item_view c.args.kept.now) (map item_view items) i (item_view c.item-item.result) c.loop-item.candidates c.in_ok-candidate.candidate f
    (ap (map item_view) c.as_slice-item-items.ensures)
    (seen_below items i below) (seen_at items i c.item-item.result below c.item-item.is) c.loop-item.invariant c.in_ok-candidate.ensures.source
    c.in_err-keep.ensures.refused)

pub loop-item-preserved : goal.loop-item-preserved
loop-item-preserved c =
    let o = c.args.origin.now in
    let items : List Item = c.as_slice-item-items.result.now in
    let i = c.loop-item.item-index in
    let below : i < length items = omega arith in
    own_next o.nucleus o.platform (map item_view items) i (item_view c.item-item.result) c.loop-item.candidates c.keep.new.candidates
    c.in_ok-candidate.candidate
    (seen_below items i below) (seen_at items i c.item-item.result below c.item-item.is) c.loop-item.invariant c.in_ok-keep.ensures.added
    c.in_ok-keep.ensures.rising c.in_ok-candidate.ensures.read c.in_ok-candidate.ensures.source

pub returns-clause-so_far : goal.returns-clause-so_far
returns-clause-so_far c =
    let o = c.args.origin.now in
    let items : List Item = c.as_slice-item-items.result.now in
    let past : length items ≤ c.loop-item.item-index = omega arith in
    own_end o (map item_view c.args.kept.now) (map item_view items) c.loop-item.item-index c.loop-item.candidates
    (ap (map item_view) c.as_slice-item-items.ensures) (seen_past items c.loop-item.item-index past) c.loop-item.invariant
