use Rattle.std.proofs.Common.{arith}
use Rattle.disk_model.specs.Laws.MemoryLaws.{memory_laws}
use Rattle.disk_model.specs.Moments.{weaker, after_more}
use Rattle.disk_model.proofs.Wider.{cut_wider}
use Rattle.disk_model.proofs.half.cut_half.Goals as goal

pub returns-clause-moments : goal.returns-clause-moments
returns-clause-moments c =
    weaker memory_laws c.args.disk.now c.cut.new.self _ _ (after_more _ c.args.file.now _ _ (cut_wider c.args.len _ (omega arith))) c.cut.ensures.moments
