use Rattle.std.proofs.Common.{take}
use Rattle.disk_model.proofs.Named.{AreSame}
use Rattle.disk_model.proofs.files.Files.copy.Given as goal

abbrev pub invariant-loop-file : goal.invariant-loop-file
invariant-loop-file l = AreSame l.files.items (take l.file-index l.self.files.items)
