use Rattle.nucleus_top.proofs.Bounded.{accepts_within, serves_within}
use Rattle.nucleus_top.proofs.laws.journals_stay_small.Goals as goal

pub returns : goal.returns
returns g c = record {
  accepts = accepts_within g.D.Disk.may_leave g.D.Disk.moment g.D.Disk.left_since g.D.Disk.faults;
  serves = serves_within g.D.Disk;
}
