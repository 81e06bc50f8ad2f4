use Rattle.law_termination.proofs.Events.{end_on, kill_on, later_on, move_on, next_on, refuse_on, skip_on, start_on, told_on}
use Rattle.law_termination.proofs.Stands.{steady_on}
use Rattle.law_termination.proofs.driving.drives_keep.Goals as goal

pub returns-clause-acts : goal.returns-clause-acts
returns-clause-acts c = next_on

pub returns-clause-moves : goal.returns-clause-moves
returns-clause-moves c = move_on

pub returns-clause-kills : goal.returns-clause-kills
returns-clause-kills c = kill_on

pub returns-clause-hears : goal.returns-clause-hears
returns-clause-hears c = told_on

pub returns-clause-starts : goal.returns-clause-starts
returns-clause-starts c = start_on

pub returns-clause-refuses : goal.returns-clause-refuses
returns-clause-refuses c = refuse_on

pub returns-clause-skips : goal.returns-clause-skips
returns-clause-skips c = skip_on

pub returns-clause-ends : goal.returns-clause-ends
returns-clause-ends c = end_on

pub returns-clause-passes : goal.returns-clause-passes
returns-clause-passes c = λ w m d. later_on w d m

pub returns-clause-steadies : goal.returns-clause-steadies
returns-clause-steadies c = steady_on
