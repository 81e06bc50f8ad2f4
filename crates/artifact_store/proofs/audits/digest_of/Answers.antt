use Rattle.std.proofs.Common.{◌≡◌, ◌++◌, min, length, take, drop, ◌∙◌, subst}
use Rattle.disk_model.specs.Disk.{Image}
use Rattle.disk_model.specs.Moments.{then_same}
use Rattle.artifact_store.proofs.Auditing.{read_more}
use Rattle.artifact_store.proofs.audits.digest_of.Goals as goal

pub loop-at-preserved : goal.loop-at-preserved
loop-at-preserved g c =
    let so = c.loop-at.invariant in
    let n = c.in_ok-count.count in
    record {
      goes = then_same g.met.D.Disk.laws c.args.disk.now c.loop-at.disk c.read.new.self _ so.goes c.read.ensures.moments;
      seen = c.read.ensures.seen ∙ so.seen;
      faults = c.in_ok-count.ensures.quiet ∙ so.faults;
      long = c.read.auto.into ∙ so.long;
      read = (
        so.read.0 ++ take n c.read.new.into,
        c.update.ensures so.read.0 so.read.1,
        λ told.
            read_more so.read.0 (g.D.Disk.seen c.args.disk.now c.args.file.now) c.loop-at.piece c.read.new.into c.loop-at.at n c.in_ok-end.end c.min-at.result
            (so.read.2 told)
            (subst (λ (i : Image). (n ≡ min (length c.loop-at.piece) (length (drop c.loop-at.at (i c.args.file.now)))) ×
            (c.read.new.into ≡ take n (drop c.loop-at.at (i c.args.file.now)) ++ drop n c.loop-at.piece)) so.seen
            (c.in_ok-count.ensures.told told))
            (c.in_ok-end.ensures.told told) c.min-at.ensures,
      );
    }

pub returns-then-count-eq0-clause-moments : goal.returns-then-count-eq0-clause-moments
returns-then-count-eq0-clause-moments g c = then_same g.met.D.Disk.laws c.args.disk.now c.loop-at.disk c.read.new.self _ c.loop-at.invariant.goes
    c.read.ensures.moments
