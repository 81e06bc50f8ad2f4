use Rattle.folders.specs.Memory.{folder_lines}
use Rattle.folders.proofs.Recorded.{ended}
use Rattle.folders.proofs.memory.MemoryFolder.end_now.Goals as goal

pub returns-clause-told : goal.returns-clause-told
returns-clause-told c = ended (folder_lines c.args.self.now) c.insert.new.self.items c.args.name.now c.in_ok-own.own c.in_ok-insert.ensures.items c.in_ok-own.ensures
