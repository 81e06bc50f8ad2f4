use Rattle.dep_order.proofs.Existence.{come_first}
use Rattle.dep_order.proofs.laws.needs_come_first.Goals as goal

pub returns : goal.returns
returns c = come_first c.args.edges.now
