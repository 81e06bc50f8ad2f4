use Rattle.std.proofs.Common.{length, ap, arith}
use Rattle.disk_model.specs.Memory.{seen_by}
use Rattle.disk_model.specs.Laws.MemoryLaws.{memory_laws}
use Rattle.disk_model.specs.Moments.{weaker, after_more}
use Rattle.disk_model.proofs.Wider.{torn_wider}
use Rattle.disk_model.proofs.half.reserve_half.Goals as goal

pub returns-clause-moments : goal.returns-clause-moments
returns-clause-moments c =
    weaker memory_laws c.args.disk.now c.reserve.new.self _ _
    (after_more _ c.args.file.now _ _ (torn_wider (length (seen_by c.args.disk.now c.args.file.now)) _ _
    (omega (arith, ap length c.file.ensures, c.saturating_sub.ensures))))
    c.reserve.ensures.moments
