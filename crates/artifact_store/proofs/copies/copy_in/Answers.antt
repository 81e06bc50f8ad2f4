use Rattle.std.proofs.Common.{◌≡◌, ℕ, ◌≤◌, ◌<◌, ◌+◌, List, [], ◌++◌, length, take, None, refl, sym, ap, subst, ◌∙◌, inl, arith, length-append}
use Rattle.std.proofs.lemmas.List.{length-take-le}
use Rattle.sha2.specs.Sha256.{sha256}
use Rattle.disk_model.specs.Moments.{at_start, weaker, then_spares, none_spares}
use Rattle.disk_model.specs.Spares.{IsFile}
use Rattle.artifact_store.specs.Filled.{IsDigestOf}
use Rattle.artifact_store.specs.Staged.{found_lines}
use Rattle.artifact_store.proofs.Copying.{IsFoundPrefix, prefix_kept}
use Rattle.artifact_store.proofs.Copying.{within_room, prefix_none, prefix_next, written_more, copied_missing, copied_long, copied_all}
use Rattle.artifact_store.proofs.Copying.{file_step, file_seen}
use Rattle.artifact_store.proofs.Counting.{counts_good, counts_memory, counts_missing, counts_long, counts_disk, counts_library, counts_after, stages_err}
use Rattle.artifact_store.proofs.Counting.{outside_of}
use Rattle.artifact_store.proofs.Walking.{same_artifacts}
use Rattle.artifact_store.proofs.copies.copy_in.Goals as goal

pub pieces-init : goal.pieces-init
pieces-init g c = record {
  short = omega arith;
  room = c.in_ok-piece.ensures.len;
  goes = weaker g.met.D.Disk.laws c.args.disk.now c.args.disk.now _ _ (none_spares (g.D.Disk.may_leave c.args.disk.now) (IsFile c.args.target.now))
      (at_start g.met.D.Disk.laws c.args.disk.now);
  others = λ told name spared. refl;
  disk_faults = refl;
  content = refl;
  coming = refl;
  library_faults = refl;
  copied = (
    [],
    c.new-hasher.ensures,
    refl,
    c.requires.empty,
    λ l e. prefix_none (l c.args.item.now.name c.args.item.now.version c.args.artifact.now.file),
  );
}

pub returns-in_err-artifact-clause-copied : goal.returns-in_err-artifact-clause-copied
returns-in_err-artifact-clause-copied g c = λ l e.
    let found = l c.args.item.now.name c.args.item.now.version c.args.artifact.now.file in
    stages_err (found_lines c.args.target.now None found) (IsDigestOf found) _ _ c.from_residual-in_err-artifact.ensures.1
    (inl (outside_of c.in_err-artifact.field-0.0))

pub returns-in_err-artifact-clause-counts : goal.returns-in_err-artifact-clause-counts
returns-in_err-artifact-clause-counts g c =
    let so = c.pieces.invariant in
    let failed = c.in_err-artifact.ensures in
    counts_after _ _ _ _ _ _ _ so.disk_faults so.library_faults
    (counts_library (g.D.Disk.faults c.pieces.disk) (g.D.Disk.faults c.pieces.disk) (g.L.Library.faults c.pieces.library)
    (g.L.Library.faults c.artifact.new.self) _ c.in_err-artifact.field-0.0
    c.from_residual-in_err-artifact.ensures.1 failed.cause failed.quiet failed.later refl)

pub returns-in_err-copy-in-Missing-clause-counts : goal.returns-in_err-copy-in-Missing-clause-counts
returns-in_err-copy-in-Missing-clause-counts g c =
    let so = c.pieces.invariant in
    counts_memory _ _ _ _ _ c.from_residual-in_err-copy-in-Missing.ensures.1 so.disk_faults (c.in_ok-artifact.ensures.quiet (λ e. cc e) ∙ so.library_faults)

pub returns-in-Missing-clause-copied : goal.returns-in-Missing-clause-copied
returns-in-Missing-clause-copied g c = λ l e.
    let so = c.pieces.invariant in
    let found = l c.args.item.now.name c.args.item.now.version c.args.artifact.now.file in
    copied_missing (IsDigestOf found) found c.args.target.now c.in_ok-copy-in-Missing.field-0 _ _ c.pieces.at c.in_ok-artifact.field-0
    (c.in_ok-artifact.ensures.told l (same_artifacts so.content e)) c.in-Missing.is c.in_ok-copy-in-Missing.ensures

pub returns-in-Missing-clause-counts : goal.returns-in-Missing-clause-counts
returns-in-Missing-clause-counts g c =
    let so = c.pieces.invariant in
    counts_missing _ _ _ _ _ so.disk_faults (c.in_ok-artifact.ensures.quiet (λ e. cc e) ∙ so.library_faults)

pub returns-in_err-copy-in-Bytes-clause-counts : goal.returns-in_err-copy-in-Bytes-clause-counts
returns-in_err-copy-in-Bytes-clause-counts g c =
    let so = c.pieces.invariant in
    counts_memory _ _ _ _ _ c.from_residual-in_err-copy-in-Bytes.ensures.1 so.disk_faults (c.in_ok-artifact.ensures.quiet (λ e. cc e) ∙ so.library_faults)

pub returns-then-at-count-gt-MOST_BYTES-clause-copied : goal.returns-then-at-count-gt-MOST_BYTES-clause-copied
returns-then-at-count-gt-MOST_BYTES-clause-copied g c = λ l e.
    let so = c.pieces.invariant in
    let found = l c.args.item.now.name c.args.item.now.version c.args.artifact.now.file in
    let m = so.copied.0 in
    let long : length m ≡ c.pieces.at = so.copied.2 in
    let more : 67108864 < length m + c.in-Bytes.count = omega (arith, long, c.if-at-count-gt-MOST_BYTES.true) in
    copied_long found c.args.target.now c.in_ok-copy-in-Bytes.field-0 m _ _ c.pieces.at c.in-Bytes.count c.in_ok-artifact.field-0
    (c.in_ok-artifact.ensures.told l (same_artifacts so.content e)) c.in-Bytes.is long (so.copied.4 l e) more
    c.in_ok-copy-in-Bytes.ensures

pub returns-then-at-count-gt-MOST_BYTES-clause-counts : goal.returns-then-at-count-gt-MOST_BYTES-clause-counts
returns-then-at-count-gt-MOST_BYTES-clause-counts g c =
    let so = c.pieces.invariant in
    counts_long _ _ _ _ _ _ so.disk_faults (c.in_ok-artifact.ensures.quiet (λ e. cc e) ∙ so.library_faults)

pub returns-in_err-write_at-in-Bytes-clause-moments : goal.returns-in_err-write_at-in-Bytes-clause-moments
returns-in_err-write_at-in-Bytes-clause-moments g c =
    let so = c.pieces.invariant in
    then_spares g.met.D.Disk.laws (IsFile c.args.target.now) c.args.disk.now c.pieces.disk c.write_at.new.self so.goes
    (weaker g.met.D.Disk.laws c.pieces.disk c.write_at.new.self _ _ (file_step _ c.as_str.result.now c.args.target.now _ c.as_str.ensures)
    c.write_at.ensures.moments)

pub returns-in_err-write_at-in-Bytes-clause-others : goal.returns-in_err-write_at-in-Bytes-clause-others
returns-in_err-write_at-in-Bytes-clause-others g c = λ told name spared.
    file_seen _ _ c.as_str.result.now c.args.target.now _ c.as_str.ensures (c.write_at.ensures.told told) name spared ∙ c.pieces.invariant.others told name
    spared

pub returns-in_err-write_at-in-Bytes-clause-counts : goal.returns-in_err-write_at-in-Bytes-clause-counts
returns-in_err-write_at-in-Bytes-clause-counts g c =
    let so = c.pieces.invariant in
    counts_after _ (g.D.Disk.faults c.pieces.disk) _ _ (g.L.Library.faults c.pieces.library) _ _ so.disk_faults so.library_faults
    (counts_disk _ _ _ _ _ c.in_err-write_at-in-Bytes.field-0.0 c.from_residual-in_err-write_at-in-Bytes.ensures.1 c.in_err-write_at-in-Bytes.ensures.cause
    (c.in_ok-artifact.ensures.quiet (λ e. cc e)))

pub pieces-preserved : goal.pieces-preserved
pieces-preserved g c =
    let so = c.pieces.invariant in
    let m = so.copied.0 in
    let long : length m ≡ c.pieces.at = so.copied.2 in
    let n = c.in-Bytes.count in
    let bytes = take n c.deref.result.now in
    let given : c.deref.result.now ≡ c.artifact.new.into = prefix_kept c.artifact.new.into _ _ _ c.deref.ensures.value
    (c.artifact.auto.into ∙ c.deref_mut.ensures.len) in
    let within : n ≤ length c.deref.result.now = omega (
      arith,
      ap length given,
      c.artifact.auto.into,
      within_room (length c.deref_mut.result.now) n c.in_ok-artifact.field-0 c.in_ok-artifact.ensures.bound c.in-Bytes.is,
    ) in
    record {
      short = omega (arith, c.if-at-count-gt-MOST_BYTES.false);
      room = so.room;
      goes = then_spares g.met.D.Disk.laws (IsFile c.args.target.now) c.args.disk.now c.pieces.disk c.write_at.new.self so.goes
          (weaker g.met.D.Disk.laws c.pieces.disk c.write_at.new.self _ _ (file_step _ c.as_str.result.now c.args.target.now _ c.as_str.ensures)
          c.write_at.ensures.moments);
      others = λ told name spared. file_seen _ _ c.as_str.result.now c.args.target.now _ c.as_str.ensures (c.write_at.ensures.told told) name spared ∙
          so.others told name spared;
      disk_faults = c.in_ok-write_at-in-Bytes.ensures.quiet ∙ so.disk_faults;
      content = c.artifact.ensures.kept.0 ∙ so.content;
      coming = c.artifact.ensures.kept.1 ∙ so.coming;
      library_faults = c.in_ok-artifact.ensures.quiet (λ e. cc e) ∙ so.library_faults;
      copied = (
        m ++ bytes,
        c.update.ensures m so.copied.1,
        length-append m bytes ∙ ap (λ k. length m + k) (length-take-le n c.deref.result.now within) ∙ ap (λ k. k + n) long,
        λ told. written_more (g.D.Disk.seen c.pieces.disk) (g.D.Disk.seen c.write_at.new.self) c.as_str.result.now c.args.target.now m _ c.pieces.at
            c.as_str.ensures long (so.copied.3 told) (c.in_ok-write_at-in-Bytes.ensures.told told).here ∙ ap (λ (r : List ℕ). m ++ take n r)
            (c.deref-in-Bytes.ensures.value ∙ sym c.deref.ensures.value),
        λ l e.
            let found = l c.args.item.now.name c.args.item.now.version c.args.artifact.now.file in
            subst (λ (r : List ℕ). IsFoundPrefix found (m ++ take n r)) (sym given)
            (prefix_next found m _ c.artifact.new.into c.pieces.at n c.in_ok-artifact.field-0 (c.in_ok-artifact.ensures.told l (same_artifacts so.content e)) c.in-Bytes.is
            long (so.copied.4 l e)),
      );
    }

pub returns-clause-written : goal.returns-clause-written
returns-clause-written g c = λ told.
    let so = c.pieces.invariant in
    c.finalize.ensures so.copied.0 so.copied.1 ∙ ap sha256 (sym (so.copied.3 told))

pub returns-clause-copied : goal.returns-clause-copied
returns-clause-copied g c = λ l e.
    let so = c.pieces.invariant in
    let found = l c.args.item.now.name c.args.item.now.version c.args.artifact.now.file in
    let m = so.copied.0 in
    let long : length m ≡ c.pieces.at = so.copied.2 in
    let room : 0 < length c.deref_mut.result.now = omega (arith, c.deref_mut.ensures.len, so.room) in
    copied_all found c.args.target.now m _ _ c.finalize.result c.pieces.at c.in-Bytes-eq0.field-0 c.in_ok-artifact.field-0
    (c.in_ok-artifact.ensures.told l (same_artifacts so.content e)) c.in-Bytes-eq0.is c.in-Bytes-eq0.field-0-test long
    (so.copied.4 l e) room (omega (arith, long, so.short)) (c.finalize.ensures m so.copied.1)

pub returns-clause-counts : goal.returns-clause-counts
returns-clause-counts g c =
    let so = c.pieces.invariant in
    counts_good _ _ _ _ _ so.disk_faults (c.in_ok-artifact.ensures.quiet (λ e. cc e) ∙ so.library_faults)
