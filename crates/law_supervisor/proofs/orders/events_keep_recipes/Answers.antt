use Rattle.law_supervisor.proofs.Recipes.{killed_runs, moved_runs, told_runs}
use Rattle.law_supervisor.proofs.orders.events_keep_recipes.Goals as goal

pub returns-clause-moves : goal.returns-clause-moves
returns-clause-moves c = moved_runs

pub returns-clause-kills : goal.returns-clause-kills
returns-clause-kills c = killed_runs

pub returns-clause-tellings : goal.returns-clause-tellings
returns-clause-tellings c = told_runs

pub returns-clause-time : goal.returns-clause-time
returns-clause-time c = λ platform m w a. a
