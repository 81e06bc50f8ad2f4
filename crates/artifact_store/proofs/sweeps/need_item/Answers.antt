use Rattle.std.proofs.Common.{◌<◌, ◌≤◌, ℕ, List, length, ap, ◌∙◌, arith}
use Rattle.std.specs.Str.{bytes_eq}
use Rattle.std.specs.Ordering.{nat_cmp}
use Rattle.std.specs.Cmp.Lexicographic.{slice_cmp}
use Rattle.std.specs.BTreeSet.{contains}
use Rattle.std.proofs.lemmas.Map.Text.{is_eq-slice_cmp}
use Rattle.records.specs.declared.record.Held.{Held}
use Rattle.artifact_store.specs.Paths.{path}
use Rattle.artifact_store.proofs.Needing.{need_next, or_none, placed, any_whole}
use Rattle.artifact_store.proofs.sweeps.need_item.Goals as goal

pub loop-held-init : goal.loop-held-init
loop-held-init c = λ file. or_none (contains (slice_cmp nat_cmp) c.args.needed.now file)

pub loop-held-preserved : goal.loop-held-preserved
loop-held-preserved c = λ file.
    let all : List Held = c.args.item.now.artifacts in
    let xs : List Held = c.as_slice-held-items.result.now in
    let i = c.loop-held.held-index in
    let x : Held = c.held-item.result in
    let below : i < length xs = omega arith in
    let at = placed xs all i x c.as_slice-held-items.ensures below c.held-item.is in
    need_next (λ (h : Held). bytes_eq (path c.args.item.now.name c.args.item.now.version h.file) file) all i x
    (contains (slice_cmp nat_cmp) c.args.needed.now file) (contains (slice_cmp nat_cmp) c.loop-held.needed file) _ _ at.0 at.1
    (is_eq-slice_cmp c.in_ok-file.file file ∙ ap (λ (k : List ℕ). bytes_eq k file) c.in_ok-file.ensures) (c.in_ok-insert.ensures.updates.0 file)
    (c.loop-held.invariant file)

pub returns : goal.returns
returns c = λ file.
    let all : List Held = c.args.item.now.artifacts in
    let xs : List Held = c.as_slice-held-items.result.now in
    let past : length xs ≤ c.loop-held.held-index = omega arith in
    any_whole (λ (h : Held). bytes_eq (path c.args.item.now.name c.args.item.now.version h.file) file) xs all c.loop-held.held-index _ _
    c.as_slice-held-items.ensures past (c.loop-held.invariant file)
