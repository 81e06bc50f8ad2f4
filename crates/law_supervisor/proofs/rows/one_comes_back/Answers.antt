use Rattle.std.proofs.Common.{refl}
use Rattle.law_supervisor.proofs.Small.{leaves_orderly, comes_back_keeps, takes_moves, takes_keeps}
use Rattle.law_supervisor.proofs.rows.one_comes_back.Goals as goal

pub returns-clause-orderly : goal.returns-clause-orderly
returns-clause-orderly c = leaves_orderly

pub returns-clause-keeps : goal.returns-clause-keeps
returns-clause-keeps c = comes_back_keeps

pub returns-clause-under_way : goal.returns-clause-under_way
returns-clause-under_way c = λ m. refl

pub returns-clause-stops : goal.returns-clause-stops
returns-clause-stops c = λ m. refl

pub returns-clause-waits : goal.returns-clause-waits
returns-clause-waits c = λ m. refl

pub returns-clause-rests : goal.returns-clause-rests
returns-clause-rests c = λ m. refl

pub returns-clause-still_waits : goal.returns-clause-still_waits
returns-clause-still_waits c = λ m. refl

pub returns-clause-moves : goal.returns-clause-moves
returns-clause-moves c = takes_moves

pub returns-clause-takes : goal.returns-clause-takes
returns-clause-takes c = λ m. refl

pub returns-clause-counts : goal.returns-clause-counts
returns-clause-counts c = λ m. refl

pub returns-clause-kept : goal.returns-clause-kept
returns-clause-kept c = takes_keeps
