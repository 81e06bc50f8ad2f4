use Rattle.std.proofs.Common.{◌≡◌, [], refl}
use Rattle.std.proofs.lemmas.Result.{on_ok_weaker, on_err_weaker}
use Rattle.disk_model.specs.Disk.{Cut}
use Rattle.disk_model.specs.Files.{image_of}
use Rattle.disk_model.specs.Laws.Replay.{unchanged, cut_none}
use Rattle.disk_model.specs.declared.record.Call.TheVariants.{Cut as CutTo}
use Rattle.disk_model.proofs.Calls.{cached, moments, as_ok, as_err, was_cut, is_same}
use Rattle.disk_model.proofs.memory.MemoryDiskDisk.remove.Goals as goal

pub invariant_of-self : goal.invariant_of-self
invariant_of-self c =
    record {
      cached = cached c.cut-done.result (CutTo c.args.file.now 0) (image_of c.args.self.now.files) (image_of c.cut-done.new.files) c.args.self.now.calls.items
          c.cut-done.new.calls.items (image_of c.args.self.now.start)
          c.args.self.now.cached c.cut-done.ensures.ok c.cut-done.ensures.err;
    }

pub returns-clause-err : goal.returns-clause-err
returns-clause-err c = as_err c.cut-done.result c.counted.result c.counted.ensures.variant c.cut-done.ensures.err
    (λ none. is_same c.args.self.now _ refl none.calls)

pub returns-clause-ok : goal.returns-clause-ok
returns-clause-ok c = as_ok c.cut-done.result c.counted.result c.counted.ensures.variant c.cut-done.ensures.ok
    (λ done. was_cut c.args.self.now _ refl c.args.file.now 0 (λ a b. b ≡ []) (λ l. refl) done.calls)

pub returns-clause-moments : goal.returns-clause-moments
returns-clause-moments c =
    moments c.args.self.now _ refl c.cut-done.result (CutTo c.args.file.now 0) _
    (unchanged _ c.args.file.now (Cut 0) (cut_none 0))
    (λ i was. was)
    (on_ok_weaker c.cut-done.result (λ done. done.calls) c.cut-done.ensures.ok) (on_err_weaker c.cut-done.result (λ none. none.calls) c.cut-done.ensures.err)
