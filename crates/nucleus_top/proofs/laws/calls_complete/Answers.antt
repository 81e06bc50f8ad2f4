use Rattle.nucleus_top.proofs.Closing.{restarts_are_few}
use Rattle.nucleus_top.proofs.Completing.{deploys_complete, resumes_get_on}
use Rattle.nucleus_top.proofs.laws.calls_complete.Goals as goal

pub returns-clause-deploys : goal.returns-clause-deploys
returns-clause-deploys g c = deploys_complete g.D.Disk.is_modelled g.D.Disk.seen g.D.Disk.may_leave g.D.Disk.moment g.D.Disk.left_since g.D.Disk.faults
    c.resumes_get_on.ensures.quiet c.resumes_get_on.ensures.accepted

pub returns-clause-resumes : goal.returns-clause-resumes
returns-clause-resumes g c = resumes_get_on g.D.Disk.is_modelled g.D.Disk.seen g.D.Disk.may_leave g.D.Disk.moment g.D.Disk.left_since g.D.Disk.faults
    c.resumes_get_on.ensures.quiet c.resumes_get_on.ensures.up

pub returns-clause-restarts : goal.returns-clause-restarts
returns-clause-restarts g c = restarts_are_few
