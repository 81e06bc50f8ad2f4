use Rattle.std.proofs.Common.{[], ◌∷◌}
use Rattle.folders.specs.History.{Synced}
use Rattle.folders.specs.Memory.{folder_lines}
use Rattle.folders.proofs.Recorded.{made_stable}
use Rattle.folders.proofs.memory.MemoryFolder.sync_now.Goals as goal

pub returns-clause-told : goal.returns-clause-told
returns-clause-told c = (Synced ∷ [], made_stable (folder_lines c.args.self.now) c.insert.new.self.items c.in_ok-insert.ensures.items, (tt, tt))
