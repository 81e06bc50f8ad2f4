use Rattle.std.proofs.Common.{Err, List, ℕ, subst}
use Rattle.std.proofs.lemmas.Bool.{false≢true}
use Rattle.dep_order.specs.Faults.{IfCycle}
use Rattle.dep_order.specs.Orders.{IsCycle}
use Rattle.dep_order.proofs.Cycles.{cycle_leads}
use Rattle.device.proofs.plan_needs.is_acyclic.Goals as goal

pub returns-in-Err-Cycle : goal.returns-in-Err-Cycle
returns-in-Err-Cycle c =
    let cycle = subst (λ f. IfCycle {T = List ℕ} (Err f) (IsCycle c.args.edges.now)) c.in-Err-Cycle.field-0-is c.in-Err-Cycle.ensures.cycle in
    let way = cycle_leads c.args.edges.now c.in-Err-Cycle.field-0-0 cycle in
    (λ e. absurd (false≢true e), λ h. absurd (h way.0 way.1))
