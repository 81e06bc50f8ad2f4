use Rattle.law_supervisor.proofs.Stopped.{stopped_orderly, stopped_owner, stopped_told}
use Rattle.law_supervisor.proofs.orders.stops_keep_order.Goals as goal

pub returns-clause-orderly : goal.returns-clause-orderly
returns-clause-orderly c = stopped_orderly

pub returns-clause-owners : goal.returns-clause-owners
returns-clause-owners c = stopped_owner

pub returns-clause-owes_none : goal.returns-clause-owes_none
returns-clause-owes_none c = stopped_told
