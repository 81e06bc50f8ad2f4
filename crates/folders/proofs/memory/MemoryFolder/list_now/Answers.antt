use Rattle.std.proofs.Common.{[], sym, ◌∙◌}
use Rattle.std.proofs.lemmas.List.{append-nil}
use Rattle.folders.specs.Memory.{folder_history}
use Rattle.folders.proofs.memory.MemoryFolder.list_now.Goals as goal

pub returns-then-fails-clause-told : goal.returns-then-fails-clause-told
returns-then-fails-clause-told c = ([], sym (append-nil (folder_history c.args.self.now)), (tt, tt))

pub returns-in-Err-clause-told : goal.returns-in-Err-clause-told
returns-in-Err-clause-told c = ([], c.in-Err.ensures.unseen ∙ sym (append-nil (folder_history c.args.self.now)), (tt, tt))
