use Rattle.std.proofs.Common.{refl}
use Rattle.law_termination.proofs.Ranks.{move_rank, killed_rank, told_rank, started_rank, refused_rank, skipped_rank, ended_rank}
use Rattle.law_termination.proofs.Whole.{next}
use Rattle.law_termination.proofs.numbers.drives_fall.Goals as goal

pub returns-clause-acts : goal.returns-clause-acts
returns-clause-acts c = λ w v act n a f. let x = next w act v a f n in (x.falling, x.least, x.less)

pub returns-clause-moves : goal.returns-clause-moves
returns-clause-moves c = move_rank

pub returns-clause-kills : goal.returns-clause-kills
returns-clause-kills c = killed_rank

pub returns-clause-hears : goal.returns-clause-hears
returns-clause-hears c = told_rank

pub returns-clause-starts : goal.returns-clause-starts
returns-clause-starts c = started_rank

pub returns-clause-refuses : goal.returns-clause-refuses
returns-clause-refuses c = refused_rank

pub returns-clause-skips : goal.returns-clause-skips
returns-clause-skips c = skipped_rank

pub returns-clause-ends : goal.returns-clause-ends
returns-clause-ends c = ended_rank

pub returns-clause-passes : goal.returns-clause-passes
returns-clause-passes c = λ w m. refl
