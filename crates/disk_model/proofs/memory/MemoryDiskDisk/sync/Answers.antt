use Rattle.std.proofs.Common.{refl}
use Rattle.std.proofs.lemmas.Result.{on_ok_weaker, on_err_weaker}
use Rattle.disk_model.specs.Files.{image_of}
use Rattle.disk_model.specs.declared.record.Call.TheVariants.{Sync as Synced}
use Rattle.disk_model.proofs.Calls.{cached, moments, as_ok, as_err, is_stable, is_same, settled}
use Rattle.disk_model.proofs.memory.MemoryDiskDisk.sync.Goals as goal

pub invariant_of-self : goal.invariant_of-self
invariant_of-self c =
    let files = image_of c.args.self.now.files in
    record {
      cached = cached c.sync-done.result (Synced c.args.file.now) files files c.args.self.now.calls.items c.sync-done.new.calls.items
          (image_of c.args.self.now.start)
          c.args.self.now.cached
          (on_ok_weaker c.sync-done.result (λ is. record { reads = λ n. refl; calls = is }) c.sync-done.ensures.ok)
          (on_err_weaker c.sync-done.result (λ is. record { reads = λ n. refl; calls = is }) c.sync-done.ensures.err);
    }

pub returns-clause-err : goal.returns-clause-err
returns-clause-err c = as_err c.sync-done.result c.counted.result c.counted.ensures.variant c.sync-done.ensures.err
    (λ none. is_same c.args.self.now _ refl none)

pub returns-clause-ok : goal.returns-clause-ok
returns-clause-ok c = as_ok c.sync-done.result c.counted.result c.counted.ensures.variant c.sync-done.ensures.ok
    (λ done. is_stable c.args.self.now _ refl c.args.file.now done)

pub returns-clause-durable : goal.returns-clause-durable
returns-clause-durable c = as_ok c.sync-done.result c.counted.result c.counted.ensures.variant c.sync-done.ensures.ok
    (λ done. settled c.args.file.now c.args.self.now.calls.items c.sync-done.new.calls.items (image_of c.args.self.now.start) done)

pub returns-clause-moments : goal.returns-clause-moments
returns-clause-moments c =
    moments c.args.self.now _ refl c.sync-done.result (Synced c.args.file.now) _ (λ i left. left) (λ i was. was.0) c.sync-done.ensures.ok
    c.sync-done.ensures.err
