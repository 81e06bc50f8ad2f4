use Rattle.law_supervisor.proofs.Ready.{ready_counted, ready_differ}
use Rattle.law_supervisor.proofs.changing.ready_items_are_counted.Goals as goal

pub returns-clause-counted : goal.returns-clause-counted
returns-clause-counted c = ready_counted

pub returns-clause-differ : goal.returns-clause-differ
returns-clause-differ c = ready_differ
