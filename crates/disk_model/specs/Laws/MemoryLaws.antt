-- A disk in memory is a disk.
use Rattle.std.specs.Prelude.{true, refl}
use Rattle.disk_model.specs.Disk.{DiskLaws}
use Rattle.disk_model.specs.Files.{image_of}
use Rattle.disk_model.specs.Memory.{seen_by, left_by, left_since_by, moment_by}
use Rattle.disk_model.specs.Laws.Replay.{counts_now, only_now, earlier, reads}

pub memory_laws : DiskLaws true seen_by left_by moment_by left_since_by
memory_laws = record {
  counts_now = λ d t c le left. counts_now d.calls.items (image_of d.start) t c le left;
  only_now = λ d c left. only_now d.calls.items (image_of d.start) c left;
  earlier = λ d s t c le left. earlier d.calls.items (image_of d.start) s t c le left;
  modelled = λ d t c left. refl;
  reads = λ d told. reads d.calls.items (image_of d.start);
}
