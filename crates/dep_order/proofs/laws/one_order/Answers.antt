use Rattle.std.proofs.Common.{[]}
use Rattle.dep_order.proofs.Existence.{same_order}
use Rattle.dep_order.proofs.laws.one_order.Goals as goal

pub returns : goal.returns
returns c = same_order c.args.edges.now []
