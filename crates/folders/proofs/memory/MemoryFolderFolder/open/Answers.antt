use Rattle.std.proofs.Common.{[], sym, ◌∙◌}
use Rattle.std.proofs.lemmas.List.{append-nil}
use Rattle.folders.specs.Memory.{folder_history}
use Rattle.folders.proofs.memory.MemoryFolderFolder.open.Goals as goal

pub returns-in-Err-clause-told : goal.returns-in-Err-clause-told
returns-in-Err-clause-told c = ([], c.in-Err.ensures.unseen ∙ sym (append-nil (folder_history c.args.self.now)), (tt, tt))
