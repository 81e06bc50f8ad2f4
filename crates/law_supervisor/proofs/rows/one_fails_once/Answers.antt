use Rattle.std.proofs.Common.{refl}
use Rattle.law_supervisor.proofs.Small.{comes_keeps, moves, begun_keeps, lives_keeps, failed_keeps, failed_owes, told_keeps_too}
use Rattle.law_supervisor.proofs.rows.one_fails_once.Goals as goal

pub returns-clause-comes : goal.returns-clause-comes
returns-clause-comes c = comes_keeps

pub returns-clause-moves : goal.returns-clause-moves
returns-clause-moves c = moves

pub returns-clause-begins : goal.returns-clause-begins
returns-clause-begins c = begun_keeps

pub returns-clause-lives : goal.returns-clause-lives
returns-clause-lives c = lives_keeps

pub returns-clause-owns : goal.returns-clause-owns
returns-clause-owns c = λ m. refl

pub returns-clause-fails : goal.returns-clause-fails
returns-clause-fails c = failed_keeps

pub returns-clause-owes : goal.returns-clause-owes
returns-clause-owes c = failed_owes

pub returns-clause-heard : goal.returns-clause-heard
returns-clause-heard c = told_keeps_too

pub returns-clause-empty : goal.returns-clause-empty
returns-clause-empty c = λ m. refl

pub returns-clause-counted : goal.returns-clause-counted
returns-clause-counted c = refl
