use Rattle.std.proofs.Common.{◌≡◌, ℕ, List, refl, ap, ◌∙◌}
use Rattle.sha2.specs.Sha256.{sha256}
use Rattle.disk_model.specs.Moments.{at_start, weaker, then_spares, then_same, none_spares, spares_more, tells_of}
use Rattle.disk_model.specs.Spares.{IsFile}
use Rattle.artifact_store.specs.Filled.{IsDigestOf}
use Rattle.artifact_store.specs.Paths.{path}
use Rattle.artifact_store.specs.Staged.{found_lines}
use Rattle.artifact_store.proofs.Copying.{file_step, file_seen, cut_empty, held_digest, given_fault, agreed_staged, agreed_given, agreed_held, agreed_counts}
use Rattle.artifact_store.proofs.Counting.{counts_memory, counts_disk, counts_handed, counts_after, still_disk, still_library, stages_err, stages_memory}
use Rattle.artifact_store.proofs.Counting.{stages_disk}
use Rattle.artifact_store.proofs.Walking.{same_artifacts}
use Rattle.artifact_store.proofs.copies.stage_file.Goals as goal

pub copy_in-requires : goal.copy_in-requires
copy_in-requires g c = record {
  empty = λ told. cut_empty (g.D.Disk.seen c.args.disk.now) (g.D.Disk.seen c.cut.new.self) c.as_str.result.now
      c.in_ok-target.target c.as_str.ensures (c.in_ok-cut.ensures.told told);
}

pub returns-in_err-target-clause-moments : goal.returns-in_err-target-clause-moments
returns-in_err-target-clause-moments g c =
    let place = path c.args.item.now.name c.args.item.now.version c.args.artifact.now.file in
    weaker g.met.D.Disk.laws c.args.disk.now c.args.disk.now _ _ (none_spares (g.D.Disk.may_leave c.args.disk.now) (IsFile place))
    (at_start g.met.D.Disk.laws c.args.disk.now)

pub returns-in_err-target-clause-staged : goal.returns-in_err-target-clause-staged
returns-in_err-target-clause-staged g c = λ l e. stages_memory _ _ _ c.from_residual.ensures.1

pub returns-in_err-target-clause-counts : goal.returns-in_err-target-clause-counts
returns-in_err-target-clause-counts g c = counts_memory _ _ _ _ _ c.from_residual.ensures.1 refl refl

pub returns-in_err-check_size-clause-moments : goal.returns-in_err-check_size-clause-moments
returns-in_err-check_size-clause-moments g c =
    let place = path c.args.item.now.name c.args.item.now.version c.args.artifact.now.file in
    weaker g.met.D.Disk.laws c.args.disk.now c.args.disk.now _ _ (none_spares (g.D.Disk.may_leave c.args.disk.now) (IsFile place))
    (at_start g.met.D.Disk.laws c.args.disk.now)

pub returns-in_err-check_size-clause-staged : goal.returns-in_err-check_size-clause-staged
returns-in_err-check_size-clause-staged g c = λ l e.
    let place = path c.args.item.now.name c.args.item.now.version c.args.artifact.now.file in
    let found = l c.args.item.now.name c.args.item.now.version c.args.artifact.now.file in
    stages_err (found_lines place c.args.artifact.now.digest found) (IsDigestOf found) _ _ c.from_residual-in_err-check_size.ensures.1
    (given_fault found c.in_ok-target.target place c.args.artifact.now.digest _ c.in_ok-target.ensures (c.in_err-check_size.ensures.sized l e))

pub returns-in_err-check_size-clause-counts : goal.returns-in_err-check_size-clause-counts
returns-in_err-check_size-clause-counts g c =
    counts_handed _ _ _ _ _ _ c.from_residual-in_err-check_size.ensures.1 (c.in_err-check_size.ensures.counts (g.D.Disk.faults c.args.disk.now))

pub returns-in_err-cut-clause-moments : goal.returns-in_err-cut-clause-moments
returns-in_err-cut-clause-moments g c =
    let place = path c.args.item.now.name c.args.item.now.version c.args.artifact.now.file in
    weaker g.met.D.Disk.laws c.args.disk.now c.cut.new.self _ _ (file_step _ c.as_str.result.now place _ (c.as_str.ensures ∙ c.in_ok-target.ensures))
    c.cut.ensures.moments

pub returns-in_err-cut-clause-others : goal.returns-in_err-cut-clause-others
returns-in_err-cut-clause-others g c = λ told.
    let place = path c.args.item.now.name c.args.item.now.version c.args.artifact.now.file in
    file_seen _ _ c.as_str.result.now place _ (c.as_str.ensures ∙ c.in_ok-target.ensures) (c.cut.ensures.told told)

pub returns-in_err-cut-clause-staged : goal.returns-in_err-cut-clause-staged
returns-in_err-cut-clause-staged g c = λ l e. stages_disk _ _ _ c.from_residual-in_err-cut.ensures.1

pub returns-in_err-cut-clause-counts : goal.returns-in_err-cut-clause-counts
returns-in_err-cut-clause-counts g c = counts_disk _ _ _ _ _ c.in_err-cut.field-0.0 c.from_residual-in_err-cut.ensures.1 c.in_err-cut.ensures.cause
    (still_library _ _ _ _ _ (c.in_ok-check_size.ensures.counts 0))

pub returns-in_err-digest-clause-moments : goal.returns-in_err-digest-clause-moments
returns-in_err-digest-clause-moments g c =
    let target = c.in_ok-target.target in
    let place = path c.args.item.now.name c.args.item.now.version c.args.artifact.now.file in
    then_spares g.met.D.Disk.laws (IsFile place) c.args.disk.now c.cut.new.self c.copy_in.new.disk
    (weaker g.met.D.Disk.laws c.args.disk.now c.cut.new.self _ _ (file_step _ c.as_str.result.now place _ (c.as_str.ensures ∙ c.in_ok-target.ensures))
    c.cut.ensures.moments)
    (weaker g.met.D.Disk.laws c.cut.new.self c.copy_in.new.disk _ _ (spares_more _ (IsFile target) (IsFile place) (λ name is. is ∙ c.in_ok-target.ensures))
    c.copy_in.ensures.moments)

pub returns-in_err-digest-clause-others : goal.returns-in_err-digest-clause-others
returns-in_err-digest-clause-others g c = λ told name spared.
    let place = path c.args.item.now.name c.args.item.now.version c.args.artifact.now.file in
    c.copy_in.ensures.others told name (λ is. spared (is ∙ c.in_ok-target.ensures))
    ∙ file_seen _ _ c.as_str.result.now place _ (c.as_str.ensures ∙ c.in_ok-target.ensures) (c.in_ok-cut.ensures.told told) name spared

pub returns-in_err-digest-clause-staged : goal.returns-in_err-digest-clause-staged
returns-in_err-digest-clause-staged g c = λ l e.
    let place = path c.args.item.now.name c.args.item.now.version c.args.artifact.now.file in
    let found = l c.args.item.now.name c.args.item.now.version c.args.artifact.now.file in
    stages_err (found_lines place c.args.artifact.now.digest found) (IsDigestOf found) _ _ c.from_residual-in_err-digest.ensures.1
    (given_fault found c.in_ok-target.target place c.args.artifact.now.digest _ c.in_ok-target.ensures
    (c.in_err-digest.ensures.copied l (same_artifacts c.check_size.ensures.kept.0 e)))

pub returns-in_err-digest-clause-counts : goal.returns-in_err-digest-clause-counts
returns-in_err-digest-clause-counts g c =
    counts_after (g.D.Disk.faults c.args.disk.now) (g.D.Disk.faults c.cut.new.self) _ _ (g.L.Library.faults c.check_size.new.library) _ _
    c.in_ok-cut.ensures.quiet (still_library _ _ _ _ _ (c.in_ok-check_size.ensures.counts 0))
    (counts_handed _ _ _ _ _ _ c.from_residual-in_err-digest.ensures.1 c.in_err-digest.ensures.counts)

pub returns-in_err-sync-clause-moments : goal.returns-in_err-sync-clause-moments
returns-in_err-sync-clause-moments g c =
    let target = c.in_ok-target.target in
    let place = path c.args.item.now.name c.args.item.now.version c.args.artifact.now.file in
    then_same g.met.D.Disk.laws c.args.disk.now c.copy_in.new.disk c.sync.new.self _
    (then_spares g.met.D.Disk.laws (IsFile place) c.args.disk.now c.cut.new.self c.copy_in.new.disk
    (weaker g.met.D.Disk.laws c.args.disk.now c.cut.new.self _ _ (file_step _ c.as_str.result.now place _ (c.as_str.ensures ∙ c.in_ok-target.ensures))
    c.cut.ensures.moments)
    (weaker g.met.D.Disk.laws c.cut.new.self c.copy_in.new.disk _ _ (spares_more _ (IsFile target) (IsFile place) (λ name is. is ∙ c.in_ok-target.ensures))
    c.copy_in.ensures.moments))
    c.sync.ensures.moments

pub returns-in_err-sync-clause-others : goal.returns-in_err-sync-clause-others
returns-in_err-sync-clause-others g c = λ told name spared.
    let place = path c.args.item.now.name c.args.item.now.version c.args.artifact.now.file in
    ap (λ (i : List ℕ → List ℕ). i name) c.sync.ensures.seen
    ∙ c.copy_in.ensures.others told name (λ is. spared (is ∙ c.in_ok-target.ensures))
    ∙ file_seen _ _ c.as_str.result.now place _ (c.as_str.ensures ∙ c.in_ok-target.ensures) (c.in_ok-cut.ensures.told told) name spared

pub returns-in_err-sync-clause-staged : goal.returns-in_err-sync-clause-staged
returns-in_err-sync-clause-staged g c = λ l e. stages_disk _ _ _ c.from_residual-in_err-sync.ensures.1

pub returns-in_err-sync-clause-counts : goal.returns-in_err-sync-clause-counts
returns-in_err-sync-clause-counts g c =
    let counts = c.in_ok-digest.ensures.counts in
    counts_after (g.D.Disk.faults c.args.disk.now) (g.D.Disk.faults c.copy_in.new.disk) _ _ (g.L.Library.faults c.check_size.new.library) _ _
    (still_disk _ _ _ _ _ counts ∙ c.in_ok-cut.ensures.quiet) (still_library _ _ _ _ _ (c.in_ok-check_size.ensures.counts 0))
    (counts_disk _ _ _ _ _ c.in_err-sync.field-0.0 c.from_residual-in_err-sync.ensures.1 c.in_err-sync.ensures.cause (still_library _ _ _ _ _ counts))

pub returns-clause-moments : goal.returns-clause-moments
returns-clause-moments g c =
    let target = c.in_ok-target.target in
    let place = path c.args.item.now.name c.args.item.now.version c.args.artifact.now.file in
    then_same g.met.D.Disk.laws c.args.disk.now c.copy_in.new.disk c.sync.new.self _
    (then_spares g.met.D.Disk.laws (IsFile place) c.args.disk.now c.cut.new.self c.copy_in.new.disk
    (weaker g.met.D.Disk.laws c.args.disk.now c.cut.new.self _ _ (file_step _ c.as_str.result.now place _ (c.as_str.ensures ∙ c.in_ok-target.ensures))
    c.cut.ensures.moments)
    (weaker g.met.D.Disk.laws c.cut.new.self c.copy_in.new.disk _ _ (spares_more _ (IsFile target) (IsFile place) (λ name is. is ∙ c.in_ok-target.ensures))
    c.copy_in.ensures.moments))
    c.sync.ensures.moments

pub returns-clause-others : goal.returns-clause-others
returns-clause-others g c = λ told name spared.
    let place = path c.args.item.now.name c.args.item.now.version c.args.artifact.now.file in
    ap (λ (i : List ℕ → List ℕ). i name) c.sync.ensures.seen
    ∙ c.copy_in.ensures.others told name (λ is. spared (is ∙ c.in_ok-target.ensures))
    ∙ file_seen _ _ c.as_str.result.now place _ (c.as_str.ensures ∙ c.in_ok-target.ensures) (c.in_ok-cut.ensures.told told) name spared

pub returns-clause-held : goal.returns-clause-held
returns-clause-held g c =
    let place = path c.args.item.now.name c.args.item.now.version c.args.artifact.now.file in
    agreed_held (λ digest. (image : List ℕ → List ℕ) → g.D.Disk.may_leave c.sync.new.self image → sha256 (image place) ≡ digest) _ c.in_ok-digest.digest
    c.agreed.result c.agreed.ensures.agree
    (λ image left.
    held_digest image _ _ c.as_str-2.result.now c.in_ok-target.target place c.in_ok-digest.digest (c.as_str-2.ensures ∙ c.in_ok-target.ensures)
    c.in_ok-target.ensures (c.in_ok-sync.ensures.durable image left) c.sync.ensures.seen
    (c.in_ok-digest.ensures.written (tells_of g.met.D.Disk.laws c.sync.new.self image left)))

pub returns-clause-given : goal.returns-clause-given
returns-clause-given g c = agreed_given c.args.artifact.now.digest c.in_ok-digest.digest c.agreed.result c.agreed.ensures.agree

pub returns-clause-staged : goal.returns-clause-staged
returns-clause-staged g c = λ l e.
    let place = path c.args.item.now.name c.args.item.now.version c.args.artifact.now.file in
    let found = l c.args.item.now.name c.args.item.now.version c.args.artifact.now.file in
    agreed_staged found c.in_ok-target.target place c.args.artifact.now.digest c.in_ok-digest.digest c.agreed.result c.in_ok-target.ensures
    (c.in_ok-digest.ensures.copied l (same_artifacts c.check_size.ensures.kept.0 e)) c.agreed.ensures.agree c.agreed.ensures.differ

pub returns-clause-counts : goal.returns-clause-counts
returns-clause-counts g c =
    let counts = c.in_ok-digest.ensures.counts in
    agreed_counts _ _ _ _ c.in_ok-target.target c.in_ok-digest.digest _ c.agreed.result c.agreed.ensures.differ
    (c.in_ok-sync.ensures.quiet ∙ still_disk _ _ _ _ _ counts ∙ c.in_ok-cut.ensures.quiet)
    (still_library _ _ _ _ _ counts ∙ still_library _ _ _ _ _ (c.in_ok-check_size.ensures.counts 0))
