-- What the real disk counts.
use Rattle.std.specs.Prelude.{ℕ}
use Rattle.host_disk.specs.declared.disk.FileDisk.{FileDisk}

abbrev pub disk_faults : {R D : Type 0} → FileDisk R D → ℕ
disk_faults d = d.faults
