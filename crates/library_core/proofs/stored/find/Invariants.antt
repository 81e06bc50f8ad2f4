use Rattle.std.proofs.Common.{◌≡◌, drop}
use Rattle.library_core.specs.Memory.{stored_in}
use Rattle.library_core.proofs.stored.find.Given as goal

abbrev pub invariant-loop-one : goal.invariant-loop-one
invariant-loop-one l = stored_in l.stored l.name l.version l.file ≡ stored_in (drop l.one-index l.stored) l.name l.version l.file
