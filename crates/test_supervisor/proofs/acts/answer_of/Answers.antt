use Rattle.test_supervisor.proofs.Handing.{free_refusal, free_skip, free_start}
use Rattle.test_supervisor.proofs.acts.answer_of.Goals as goal

pub returns-then-is_some-clause-answered : goal.returns-then-is_some-clause-answered
returns-then-is_some-clause-answered c = λ w a. free_skip c.args.who c.args.step w a

pub returns-then-eq-clause-answered : goal.returns-then-eq-clause-answered
returns-then-eq-clause-answered c = λ w a. free_refusal c.args.who c.args.step w a

pub returns-clause-answered : goal.returns-clause-answered
returns-clause-answered c = λ w a. free_start c.args.who c.args.step c.args.child w a
