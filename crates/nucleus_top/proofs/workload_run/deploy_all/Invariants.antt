use Rattle.std.proofs.Common.{◌≡◌, ◌++◌, []}
use Rattle.std.specs.Vec.Iter.{into_iter_items}
use Rattle.disk_model.specs.Memory.{seen_by}
use Rattle.library_core.specs.Memory.{library_content}
use Rattle.workload.specs.Runner.{living_of}
use Rattle.nucleus_top.proofs.Through.{Goes}
use Rattle.nucleus_top.proofs.workload_run.deploy_all.Given as goal

abbrev pub invariant-loop-document : goal.invariant-loop-document
invariant-loop-document l = record {
  none : living_of l.runner ≡ [];
  kept : library_content l.library ≡ library_content l.fn.library;
  goes : Goes (library_content l.fn.library) l.yielded (seen_by l.fn.disk) (seen_by l.disk);
  all : l.yielded ++ into_iter_items l.document-iterator ≡ l.fn.documents;
}
