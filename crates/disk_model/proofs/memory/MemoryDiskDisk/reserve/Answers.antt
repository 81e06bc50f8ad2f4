use Rattle.std.proofs.Common.{◌-◌, length, ◌∙◌, ap}
use Rattle.std.proofs.lemmas.Result.{on_ok_weaker, on_err_weaker}
use Rattle.disk_model.specs.Disk.{Torn}
use Rattle.disk_model.specs.Memory.{seen_by, left_by}
use Rattle.disk_model.specs.Moments.{at_start, weaker}
use Rattle.disk_model.specs.Laws.MemoryLaws.{memory_laws}
use Rattle.disk_model.specs.Laws.Replay.{unchanged, torn_none}
use Rattle.disk_model.proofs.Room.{lengthened}
use Rattle.disk_model.proofs.memory.MemoryDiskDisk.reserve.Goals as goal

pub returns-then-to-length-clause-moments : goal.returns-then-to-length-clause-moments
returns-then-to-length-clause-moments c =
    let disk = c.args.self.now in
    let end = length (seen_by disk c.args.file.now) in
    weaker memory_laws disk disk _ _ (unchanged (left_by disk) c.args.file.now (Torn end (c.args.to - end)) (torn_none end (c.args.to - end)))
    (at_start memory_laws disk)

pub returns-in-Ok-clause-told : goal.returns-in-Ok-clause-told
returns-in-Ok-clause-told c =
    lengthened c.write_at.result c.args.file.now c.args.to _ _ _ _ (ap length c.file.ensures) (c.deref.ensures.value ∙ c.in-Ok.ensures)
    (on_ok_weaker c.write_at.result (λ done. done.reads) c.write_at.ensures.ok) (on_err_weaker c.write_at.result (λ none. none.reads) c.write_at.ensures.err)
