use Rattle.std.proofs.Common.{◌<◌, ℕ, [], ◌∷◌, length, None, refl, inl, arith}
use Rattle.std.specs.Prelude.{⊤}
use Rattle.artifact_store.specs.Staged.{found_lines}
use Rattle.artifact_store.proofs.Copying.{copied_missing, sized_good, sized_long}
use Rattle.artifact_store.proofs.Counting.{counts_memory, counts_library, stages_err, outside_of}
use Rattle.artifact_store.proofs.copies.check_size.Goals as goal

pub returns-in_err-artifact-clause-sized : goal.returns-in_err-artifact-clause-sized
returns-in_err-artifact-clause-sized g c = λ l e.
    let found = l c.args.item.now.name c.args.item.now.version c.args.artifact.now.file in
    stages_err (found_lines c.args.target.now None found) (λ _. ⊤) _ _ c.from_residual.ensures.1 (inl (outside_of c.in_err-artifact.field-0.0))

pub returns-in_err-artifact-clause-counts : goal.returns-in_err-artifact-clause-counts
returns-in_err-artifact-clause-counts g c = λ n.
    let failed = c.in_err-artifact.ensures in
    counts_library n n (g.L.Library.faults c.args.library.now) (g.L.Library.faults c.artifact.new.self) _ c.in_err-artifact.field-0.0
    c.from_residual.ensures.1 failed.cause failed.quiet failed.later refl

pub returns-in_err-copy-in-Missing-clause-counts : goal.returns-in_err-copy-in-Missing-clause-counts
returns-in_err-copy-in-Missing-clause-counts g c = λ n. counts_memory _ _ _ _ _ c.from_residual-in_err-copy-in-Missing.ensures.1 refl
    (c.in_ok-artifact.ensures.quiet (λ e. cc e))

pub returns-in_ok-copy-in-Missing-clause-sized : goal.returns-in_ok-copy-in-Missing-clause-sized
returns-in_ok-copy-in-Missing-clause-sized g c = λ l e.
    let found = l c.args.item.now.name c.args.item.now.version c.args.artifact.now.file in
    copied_missing {A = ⊤} (λ _. ⊤) found c.args.target.now c.in_ok-copy-in-Missing.field-0 _ _ 67108864 c.in_ok-artifact.field-0
    (c.in_ok-artifact.ensures.told l e) c.in-Missing.is c.in_ok-copy-in-Missing.ensures

pub returns-in-Bytes-eq0-clause-sized : goal.returns-in-Bytes-eq0-clause-sized
returns-in-Bytes-eq0-clause-sized g c = λ l e.
    let found = l c.args.item.now.name c.args.item.now.version c.args.artifact.now.file in
    let room : 0 < length {A = ℕ} (0 ∷ []) = omega arith in
    sized_good {A = ⊤} tt found c.args.target.now _ _ 67108864 c.in-Bytes-eq0.field-0 c.in_ok-artifact.field-0 refl (c.in_ok-artifact.ensures.told l e)
    c.in-Bytes-eq0.is c.in-Bytes-eq0.field-0-test room

pub returns-in_ok-copy-in-Bytes-clause-sized : goal.returns-in_ok-copy-in-Bytes-clause-sized
returns-in_ok-copy-in-Bytes-clause-sized g c = λ l e.
    let found = l c.args.item.now.name c.args.item.now.version c.args.artifact.now.file in
    sized_long {A = ⊤} (λ _. ⊤) found c.args.target.now c.in_ok-copy-in-Bytes.field-0 _ _ 67108864 c.in-Bytes.field-0 c.in_ok-artifact.field-0 refl
    (c.in_ok-artifact.ensures.told l e) c.in-Bytes.is c.in-Bytes.field-0-test.1 c.in_ok-copy-in-Bytes.ensures
