use Rattle.histories.proofs.Joined.{left-append, proper-append, records-append, entries-append}
use Rattle.histories.proofs.laws.joins.Goals as goal

pub returns-clause-proper : goal.returns-clause-proper
returns-clause-proper c = proper-append

pub returns-clause-left : goal.returns-clause-left
returns-clause-left c = left-append

pub returns-clause-records : goal.returns-clause-records
returns-clause-records c = records-append

pub returns-clause-entries : goal.returns-clause-entries
returns-clause-entries c = entries-append
