use Rattle.std.proofs.Common.{◌≡◌, ◌++◌, take}
use Rattle.nucleus_top.specs.Gets.{escaped}
use Rattle.nucleus_top.proofs.config_getting.put_bytes.Given as goal

abbrev pub invariant-loop-byte : goal.invariant-loop-byte
invariant-loop-byte l = l.out ≡ l.fn.out ++ escaped (take l.byte-index l.bytes)
