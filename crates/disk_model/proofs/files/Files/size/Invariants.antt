use Rattle.std.proofs.Common.{◌≡◌, ◌-◌, ◌^◌, min, take, length}
use Rattle.std.specs.List.{sum_by}
use Rattle.disk_model.proofs.files.Files.size.Given as goal

abbrev pub invariant-loop-file : goal.invariant-loop-file
invariant-loop-file l = l.size ≡ min (sum_by (λ file. length file.bytes.items) (take l.file-index l.self.files.items)) (2 ^ 64 - 1)
