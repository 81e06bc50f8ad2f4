use Rattle.std.proofs.Common.{refl, inl}
use Rattle.law_termination.proofs.Needs.{waits_kept, waits_quiet, waits_time}
use Rattle.law_termination.proofs.rows.one_waits_for_another.Goals as goal

pub returns-clause-kept : goal.returns-clause-kept
returns-clause-kept c = waits_kept

pub returns-clause-falling : goal.returns-clause-falling
returns-clause-falling c = λ m. inl refl

pub returns-clause-answered : goal.returns-clause-answered
returns-clause-answered c = λ m. refl

pub returns-clause-quiet : goal.returns-clause-quiet
returns-clause-quiet c = waits_quiet

pub returns-clause-time : goal.returns-clause-time
returns-clause-time c = waits_time
