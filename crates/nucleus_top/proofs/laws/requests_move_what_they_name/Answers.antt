use Rattle.nucleus_top.proofs.Requested.{changes_move_one_item, locals_move_one_group}
use Rattle.nucleus_top.proofs.laws.requests_move_what_they_name.Goals as goal

pub returns-clause-local : goal.returns-clause-local
returns-clause-local g c = locals_move_one_group g.D.Disk.may_leave g.D.Disk.moment g.D.Disk.left_since g.D.Disk.faults c.requests_keep_the_rest.ensures.local

pub returns-clause-change : goal.returns-clause-change
returns-clause-change g c = changes_move_one_item g.D.Disk.may_leave g.D.Disk.moment g.D.Disk.left_since g.D.Disk.faults c.requests_keep_the_rest.ensures.change
