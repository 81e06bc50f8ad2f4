use Rattle.nucleus_top.proofs.Reopening.{calls_reopen, serves_reopen}
use Rattle.nucleus_top.proofs.laws.calls_reopen.Goals as goal

pub returns : goal.returns
returns g c = record {
  calls = calls_reopen g.D.Disk.may_leave c.starts_stand.ensures.boots c.starts_stand.ensures.failures g.D.Disk.moment g.D.Disk.left_since;
  serves = serves_reopen g.D.Disk c.starts_stand.ensures.boots c.starts_stand.ensures.failures;
}
