use Rattle.std.proofs.Common.{min, arith, ◌≡◌, ℕ, Err, length, refl, subst}
use Rattle.std.proofs.lemmas.Result.{on_ok_weaker, on_err_weaker}
use Rattle.disk_model.specs.Disk.{Torn, Step, IsAfter}
use Rattle.disk_model.specs.Files.{image_of}
use Rattle.disk_model.specs.Memory.{seen_by, left_by}
use Rattle.disk_model.specs.Laws.Replay.{unchanged, torn_none}
use Rattle.disk_model.specs.declared.record.Call.TheVariants.{Write as Written}
use Rattle.disk_model.proofs.Calls.{cached, moments, as_ok, as_err, wrote, is_same}
use Rattle.disk_model.proofs.memory.MemoryDiskDisk.write_at.Goals as goal

pub invariant_of-self-2 : goal.invariant_of-self-2
invariant_of-self-2 c =
    record {
      cached = cached c.write-done.result (Written c.args.file.now c.args.at c.args.bytes.now) (image_of c.args.self.now.files)
          (image_of c.write-done.new.files) c.args.self.now.calls.items c.write-done.new.calls.items (image_of c.args.self.now.start)
          c.args.self.now.cached c.write-done.ensures.ok c.write-done.ensures.err;
    }

pub returns-then-not-has_room_for-clause-moments : goal.returns-then-not-has_room_for-clause-moments
returns-then-not-has_room_for-clause-moments c =
    let place : min c.args.at (length (seen_by c.args.self.now c.args.file.now)) ≡ c.args.at = omega arith in
    let file = c.args.file.now in
    let n = length c.args.bytes.now in
    moments c.args.self.now _ refl {T = Unit {0}} {E = Unit {0}} (Err tt) (Written file c.args.at c.args.bytes.now) _
    (unchanged _ file (Torn c.args.at n) (torn_none c.args.at n))
    (λ i was. subst (λ (k : ℕ). IsAfter (left_by c.args.self.now) (Step file (Torn k n)) i) place was) tt refl

pub returns-clause-err : goal.returns-clause-err
returns-clause-err c = as_err c.write-done.result c.counted-2.result c.counted-2.ensures.variant c.write-done.ensures.err
    (λ none. is_same c.args.self.now _ refl none.calls)

pub returns-clause-ok : goal.returns-clause-ok
returns-clause-ok c = as_ok c.write-done.result c.counted-2.result c.counted-2.ensures.variant c.write-done.ensures.ok
    (λ done. wrote c.args.self.now _ refl c.args.file.now c.args.at c.args.bytes.now c.requires done.calls)

pub returns-clause-moments : goal.returns-clause-moments
returns-clause-moments c =
    let file = c.args.file.now in
    let n = length c.args.bytes.now in
    let place : min c.args.at (length (seen_by c.args.self.now file)) ≡ c.args.at = omega arith in
    moments c.args.self.now _ refl c.write-done.result (Written file c.args.at c.args.bytes.now) _
    (unchanged _ file (Torn c.args.at n) (torn_none c.args.at n))
    (λ i was. subst (λ (k : ℕ). IsAfter (left_by c.args.self.now) (Step file (Torn k n)) i) place was)
    (on_ok_weaker c.write-done.result (λ done. done.calls) c.write-done.ensures.ok)
    (on_err_weaker c.write-done.result (λ none. none.calls) c.write-done.ensures.err)
