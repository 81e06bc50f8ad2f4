use Rattle.dep_order.proofs.Cycles.{cycle_leads}
use Rattle.dep_order.proofs.laws.cycle_leads_to_itself.Goals as goal

pub returns : goal.returns
returns c = cycle_leads c.args.edges.now
