use Rattle.law_supervisor.proofs.Answered.{refused_orderly, skipped_orderly}
use Rattle.law_supervisor.proofs.Begun.{started_orderly}
use Rattle.law_supervisor.proofs.Gone.{ended_orderly, killed_orderly}
use Rattle.law_supervisor.proofs.Moved.{moved_orderly}
use Rattle.law_supervisor.proofs.Told.{told_orderly}
use Rattle.law_supervisor.proofs.orders.events_keep_order.Goals as goal

pub returns-clause-moves : goal.returns-clause-moves
returns-clause-moves c = moved_orderly

pub returns-clause-starts : goal.returns-clause-starts
returns-clause-starts c = started_orderly

pub returns-clause-refusals : goal.returns-clause-refusals
returns-clause-refusals c = refused_orderly

pub returns-clause-skips : goal.returns-clause-skips
returns-clause-skips c = skipped_orderly

pub returns-clause-kills : goal.returns-clause-kills
returns-clause-kills c = killed_orderly

pub returns-clause-ends : goal.returns-clause-ends
returns-clause-ends c = ended_orderly

pub returns-clause-tellings : goal.returns-clause-tellings
returns-clause-tellings c = told_orderly

pub returns-clause-time : goal.returns-clause-time
returns-clause-time c = λ m w i. record { sound = i.sound; differ = i.differ; names = i.names }
