use Rattle.dep_order.proofs.Cycles.{order_acyclic}
use Rattle.dep_order.proofs.Existence.{ordered}
use Rattle.dep_order.proofs.laws.order_exists_without_cycle.Goals as goal

pub returns : goal.returns
returns c = (λ o. (let w = o.1 in order_acyclic c.args.edges.now o.0 c.requires w.order w.whole), ordered c.args.edges.now c.requires)
