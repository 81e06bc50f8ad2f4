use Rattle.std.proofs.Common.{[], sym}
use Rattle.std.proofs.lemmas.List.{append-nil}
use Rattle.folders.specs.Memory.{folder_history}
use Rattle.folders.proofs.memory_tray.MemoryFolderTray.sync.Goals as goal

pub returns-then-fails-clause-told : goal.returns-then-fails-clause-told
returns-then-fails-clause-told c = ([], sym (append-nil (folder_history c.args.self.now)), (tt, tt))
