use Rattle.law_termination.proofs.Whole.{move_keeps, kill_keeps, told_keeps, start_keeps, refuse_keeps, skip_keeps, end_keeps, later_keeps}
use Rattle.law_termination.proofs.numbers.each_keeps.Goals as goal

pub returns-clause-moves : goal.returns-clause-moves
returns-clause-moves c = move_keeps

pub returns-clause-kills : goal.returns-clause-kills
returns-clause-kills c = kill_keeps

pub returns-clause-hears : goal.returns-clause-hears
returns-clause-hears c = told_keeps

pub returns-clause-starts : goal.returns-clause-starts
returns-clause-starts c = start_keeps

pub returns-clause-refuses : goal.returns-clause-refuses
returns-clause-refuses c = refuse_keeps

pub returns-clause-skips : goal.returns-clause-skips
returns-clause-skips c = skip_keeps

pub returns-clause-ends : goal.returns-clause-ends
returns-clause-ends c = end_keeps

pub returns-clause-passes : goal.returns-clause-passes
returns-clause-passes c = later_keeps
