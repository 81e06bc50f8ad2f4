use Rattle.std.proofs.Common.{◌≤◌, length}
use Rattle.host_files.proofs.window.read_full.Given as goal

abbrev pub invariant-filling : goal.invariant-filling
invariant-filling l = (l.filled ≤ length l.into) × (length l.into ≤ length l.fn.into)
