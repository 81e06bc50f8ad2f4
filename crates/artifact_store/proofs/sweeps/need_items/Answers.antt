use Rattle.std.proofs.Common.{◌+◌, ◌<◌, ◌≤◌, List, length, map, take, ap, sym, ◌∙◌, arith}
use Rattle.std.specs.Prelude.{◌||◌, Bool}
use Rattle.std.specs.Ordering.{nat_cmp}
use Rattle.std.specs.Cmp.Lexicographic.{slice_cmp}
use Rattle.std.specs.BTreeSet.{contains}
use Rattle.std.proofs.lemmas.List.{take_all}
use Rattle.records.specs.Stored.{item_view}
use Rattle.records.specs.Stored as stored
use Rattle.records.specs.declared.record.Item.{Item}
use Rattle.artifact_store.specs.Needed.{is_file_of, is_file_among}
use Rattle.artifact_store.proofs.Needing.{need_also, any_map, or_none}
use Rattle.artifact_store.proofs.sweeps.need_items.Goals as goal

pub loop-item-init : goal.loop-item-init
loop-item-init c = λ file. or_none (contains (slice_cmp nat_cmp) c.args.needed.now file)

pub loop-item-preserved : goal.loop-item-preserved
loop-item-preserved c = λ file.
    let all : List Item = c.args.items.now in
    let i = c.loop-item.item-index in
    let x : Item = c.item-item.result in
    let P : Item → Bool = λ o. is_file_of (item_view o) file in
    let Q : stored.Item → Bool = λ o. is_file_of o file in
    let was = contains (slice_cmp nat_cmp) c.args.needed.now file in
    let below : i < length all = omega arith in
    need_also P all i x was (contains (slice_cmp nat_cmp) c.loop-item.needed file) (contains (slice_cmp nat_cmp) c.need_item.new.needed file) below
    c.item-item.is (c.in_ok-need_item.ensures file)
    (c.loop-item.invariant file ∙ ap (λ b. was || b) (any_map item_view Q (take i all)))
    ∙ ap (λ b. was || b) (sym (any_map item_view Q (take (i + 1) all)))

pub returns : goal.returns
returns c = λ file.
    let all : List Item = c.args.items.now in
    let i = c.loop-item.item-index in
    let past : length all ≤ i = omega arith in
    c.loop-item.invariant file ∙ ap (λ (ys : List Item). contains (slice_cmp nat_cmp) c.args.needed.now file || is_file_among (map item_view ys) file)
    (take_all i all past)
