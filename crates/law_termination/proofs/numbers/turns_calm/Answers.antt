use Rattle.law_termination.proofs.TurnRanks.{act_calms, killed_turn, move_turn, refused_turn, skipped_turn, started_turn, time_calms, told_turn}
use Rattle.law_termination.proofs.numbers.turns_calm.Goals as goal

pub returns-clause-acts : goal.returns-clause-acts
returns-clause-acts c = λ w v act n a s. let x = act_calms w v act a s n in (x.least, x.less)

pub returns-clause-moves : goal.returns-clause-moves
returns-clause-moves c = move_turn

pub returns-clause-kills : goal.returns-clause-kills
returns-clause-kills c = killed_turn

pub returns-clause-hears : goal.returns-clause-hears
returns-clause-hears c = told_turn

pub returns-clause-starts : goal.returns-clause-starts
returns-clause-starts c = started_turn

pub returns-clause-refuses : goal.returns-clause-refuses
returns-clause-refuses c = refused_turn

pub returns-clause-skips : goal.returns-clause-skips
returns-clause-skips c = skipped_turn

pub returns-clause-passes : goal.returns-clause-passes
returns-clause-passes c = time_calms
