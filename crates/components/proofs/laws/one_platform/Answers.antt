use Rattle.components.proofs.Platforms.{keep_for, keep_needs, ready_for, run_change, run_next, run_noticed, run_steadied, run_stopped}
use Rattle.components.proofs.laws.one_platform.Goals as goal

pub returns-clause-same : goal.returns-clause-same
returns-clause-same c = keep_for c.recipe_laws.ensures.one_recipe

pub returns-clause-needs : goal.returns-clause-needs
returns-clause-needs c = keep_needs c.recipe_laws.ensures.one_recipe

pub returns-clause-ready : goal.returns-clause-ready
returns-clause-ready c = ready_for

pub returns-clause-event : goal.returns-clause-event
returns-clause-event c = run_noticed

pub returns-clause-next_act : goal.returns-clause-next_act
returns-clause-next_act c = run_next

pub returns-clause-stop_all : goal.returns-clause-stop_all
returns-clause-stop_all c = run_stopped

pub returns-clause-steady : goal.returns-clause-steady
returns-clause-steady c = run_steadied

pub returns-clause-change : goal.returns-clause-change
returns-clause-change c = run_change
