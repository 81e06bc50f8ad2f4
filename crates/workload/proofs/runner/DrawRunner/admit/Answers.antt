use Rattle.workload.proofs.Falling.{falls_fresh}
use Rattle.workload.proofs.runner.DrawRunner.admit.Goals as goal

pub returns-clause-fresh : goal.returns-clause-fresh
returns-clause-fresh c = falls_fresh c.args.self.now.next c.args.self.now.children.items c.args.self.now.fall
