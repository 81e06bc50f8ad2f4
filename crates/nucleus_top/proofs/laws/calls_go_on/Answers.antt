use Rattle.nucleus_top.proofs.Acknowledged.{deployed_stay, served_stay}
use Rattle.nucleus_top.proofs.Series.{acknowledged_last, drives_end, drives_go_on, first_begins, refused_end, refused_go_on}
use Rattle.nucleus_top.proofs.laws.calls_go_on.Goals as goal

pub returns-clause-drives : goal.returns-clause-drives
returns-clause-drives g c = drives_go_on g.met.D.Disk.laws

pub returns-clause-refused : goal.returns-clause-refused
returns-clause-refused g c = refused_go_on g.met.D.Disk.laws

pub returns-clause-drives_end : goal.returns-clause-drives_end
returns-clause-drives_end g c = drives_end g.met.D.Disk.laws

pub returns-clause-refused_end : goal.returns-clause-refused_end
returns-clause-refused_end g c = refused_end g.met.D.Disk.laws

pub returns-clause-begins : goal.returns-clause-begins
returns-clause-begins g c = first_begins g.met.D.Disk.laws

pub returns-clause-acknowledged : goal.returns-clause-acknowledged
returns-clause-acknowledged g c = acknowledged_last g.D.Disk.may_leave

pub returns-clause-deployed : goal.returns-clause-deployed
returns-clause-deployed g c = deployed_stay g.D.Disk.may_leave g.D.Disk.moment g.D.Disk.left_since g.D.Disk.faults

pub returns-clause-served : goal.returns-clause-served
returns-clause-served g c = served_stay g.D.Disk
