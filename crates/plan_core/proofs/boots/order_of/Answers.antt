use Rattle.std.proofs.Common.{◌<◌, length, arith, sym, subst}
use Rattle.std.proofs.lemmas.List.{length-map}
use Rattle.std.proofs.lemmas.List.Elements.{All-weaker}
use denote.Bor.{Bor}
use Rattle.dep_order.specs.declared.Edges.{Edges}
use Rattle.dep_order.specs.Orders.{AreNodes, IsAcyclic, IsCycle, IsWholeOrder}
use Rattle.recipe_reader.specs.declared.candidate.Candidate.{Candidate}
use Rattle.plan_core.specs.Boots.{edges_of}
use Rattle.plan_core.specs.Looks.{candidates_of}
use Rattle.plan_core.proofs.Needing.{are_nodes, order_places}
use Rattle.plan_core.proofs.boots.order_of.Goals as goal

pub order-requires : goal.order-requires
order-requires c = subst AreNodes (sym c.in_ok-edges.ensures) (are_nodes (candidates_of c.args.choice.now))

pub returns-in-Ok-clause-places : goal.returns-in-Ok-clause-places
returns-in-Ok-clause-places c =
    let edges = edges_of (candidates_of c.args.choice.now) in
    let long = length-map c.args.choice.now (λ (x : Bor Candidate). x.now) in
    All-weaker (λ p. p < edges.nodes) (λ p. p < length c.args.choice.now) (λ p h. omega (arith, h, long)) c.in-Ok.list
    (order_places edges c.in-Ok.list (subst (λ (e : Edges). IsWholeOrder e c.in-Ok.list) c.in_ok-edges.ensures c.in-Ok.ensures.order))

pub unreachable-requires : goal.unreachable-requires
unreachable-requires c =
    let cycle : IsCycle c.in_ok-edges.edges c.in-Err-Cycle.field-0-0 = rw c.in-Err-Cycle.field-0-is at c.in-Err-Cycle.ensures.cycle in
    let l = c.cycle_leads_to_itself.ensures c.in-Err-Cycle.field-0-0 cycle in
    subst IsAcyclic (sym c.in_ok-edges.ensures) c.requires.acyclic l.0 l.1
