use Rattle.std.proofs.Common.{◌≡◌, drop}
use Rattle.disk_model.specs.Files.{contents}
use Rattle.disk_model.proofs.files.held.Given as goal

abbrev pub invariant-loop-file : goal.invariant-loop-file
invariant-loop-file l = contents l.files l.name ≡ contents (drop l.file-index l.files) l.name
