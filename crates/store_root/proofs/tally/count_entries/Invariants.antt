use Rattle.std.proofs.Common.{◌≡◌, ◌≤◌, ◌-◌, ℕ, List, IsTrue}
use Rattle.disk_model.specs.Disk.{HasLeft}
use Rattle.checkpoint_log.specs.Slots.{slots_stands}
use Rattle.store_root.proofs.Counting.{Counted}
use Rattle.store_root.proofs.tally.count_entries.Given as goal

abbrev pub invariant-loop-at : goal.invariant-loop-at
invariant-loop-at g l = record {
  goes : HasLeft g.D.Disk.moment g.D.Disk.left_since l.fn.disk l.disk (g.D.Disk.may_leave l.fn.disk);
  seen : g.D.Disk.seen l.disk ≡ g.D.Disk.seen l.fn.disk;
  faults : g.D.Disk.faults l.disk ≡ g.D.Disk.faults l.fn.disk;
  few : l.tally.records ≤ l.at;
  counted : IsTrue g.D.Disk.is_modelled → (payloads : List (List ℕ)) → slots_stands l.log (g.D.Disk.seen l.fn.disk) payloads → Counted payloads l.at l.tally;
}

abbrev pub decreases-loop-at : goal.decreases-loop-at
decreases-loop-at g l = l.end - l.at
