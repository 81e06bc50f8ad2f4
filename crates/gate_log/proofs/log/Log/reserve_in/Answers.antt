use Rattle.std.proofs.Common.{◌≡◌, ◌+◌, ◌≤◌, ℕ, List, IsTrue, inr, length, arith}
use Rattle.disk_model.specs.Moments.{now, step_as, tells_of}
use Rattle.gate_log.specs.Entries.{ClosedAt, HasEntries}
use Rattle.gate_log.specs.Journal.{stands_in, reads_behind}
use Rattle.gate_log.proofs.Gates.{has_gate, kept}
use Rattle.gate_log.proofs.Whole.{as_within}
use Rattle.gate_log.proofs.Writes.{keeps_prefix}
use Rattle.gate_log.proofs.log.Log.reserve_in.Goals as goal

pub returns-clause-any_moment : goal.returns-clause-any_moment
returns-clause-any_moment g c payloads behind =
    let file = c.args.file.now in
    let end = c.args.self.now.end in
    let old = c.args.disk.now in
    let gate : IsTrue g.D.Disk.is_modelled → end + 1 ≤ length (g.D.Disk.seen old file) = λ told.
    has_gate _ end payloads (reads_behind g.met.D.Disk.laws (stands_in file) c.args.self.now old payloads behind told) in
    as_within g.met.D.Disk.laws file old c.reserve.new.self (λ l. HasEntries l payloads)
    (step_as g.met.D.Disk.laws file old c.reserve.new.self _ (λ _ b. HasEntries b payloads) (λ a. ClosedAt a end payloads)
    c.reserve.ensures.moments behind.each
    (λ told a b closed torn. inr (end, kept a end payloads closed b (keeps_prefix (end + 1) _ _ a b (gate told) torn))))

pub returns-clause-stays : goal.returns-clause-stays
returns-clause-stays g c payloads behind = record {
  each = λ i left.
      let file = c.args.file.now in
      let end = c.args.self.now.end in
      let old = c.args.disk.now in
      let told = tells_of g.met.D.Disk.laws c.reserve.new.self i left in
      let gate = has_gate _ end payloads (reads_behind g.met.D.Disk.laws (stands_in file) c.args.self.now old payloads behind told) in
      let was = now g.met.D.Disk.laws old c.reserve.new.self _ c.reserve.ensures.moments i left in
      kept (was.0 file) end payloads (behind.each was.0 was.1) (i file) (keeps_prefix (end + 1) _ _ _ _ gate was.2.here);
}
