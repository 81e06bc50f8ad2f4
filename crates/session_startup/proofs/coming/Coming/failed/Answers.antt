use Rattle.session_startup.proofs.coming.Coming.failed.Goals as goal

pub returns-in-Ok-clause-moments : goal.returns-in-Ok-clause-moments
returns-in-Ok-clause-moments g c = rw c.in-Plan.is c.failed.ensures.moments

pub returns-in-Ok-failed-clause-moments : goal.returns-in-Ok-failed-clause-moments
returns-in-Ok-failed-clause-moments g c = rw c.in-Set.is c.failed-in-Set.ensures.moments
