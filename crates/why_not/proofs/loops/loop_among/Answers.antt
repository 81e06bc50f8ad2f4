use Rattle.std.proofs.Common.{length, sym, subst}
use Rattle.std.proofs.lemmas.List.{length-map}
use Rattle.dep_order.specs.declared.Edges.{Edges}
use Rattle.recipe_reader.specs.Members.{member, members}
use Rattle.why_not.specs.Edges.{AreEdges, IsLoopOf}
use Rattle.why_not.proofs.Linking.{edges_nodes, edges_acyclic, cycle_loop}
use Rattle.why_not.proofs.loops.loop_among.Goals as goal

pub order-requires : goal.order-requires
order-requires c =
    let ms = members c.args.candidates.now in
    let edges : Edges = record { nodes = length c.args.candidates.now; needs = c.new.result } in
    let are = subst (AreEdges ms c.args.places.now c.args.places.now) (sym c.new.ensures) c.in_ok-needs.ensures in
    edges_nodes ms c.args.places.now edges are (sym (length-map c.args.candidates.now member))

pub returns-in-Ok : goal.returns-in-Ok
returns-in-Ok c =
    let ms = members c.args.candidates.now in
    let edges : Edges = record { nodes = length c.args.candidates.now; needs = c.new.result } in
    let are = subst (AreEdges ms c.args.places.now c.args.places.now) (sym c.new.ensures) c.in_ok-needs.ensures in
    edges_acyclic ms c.args.places.now edges are c.in-Ok.ensures.acyclic

pub returns-in-Err-Cycle : goal.returns-in-Err-Cycle
returns-in-Err-Cycle c =
    let ms = members c.args.candidates.now in
    let edges : Edges = record { nodes = length c.args.candidates.now; needs = c.new.result } in
    let are = subst (AreEdges ms c.args.places.now c.args.places.now) (sym c.new.ensures) c.in_ok-needs.ensures in
    let cycle = rw c.in-Err-Cycle.field-0-is at c.in-Err-Cycle.ensures.cycle in
    subst (IsLoopOf ms c.args.places.now) (sym c.into_vec.ensures)
    (cycle_loop ms c.args.places.now edges are c.in-Err-Cycle.cycle cycle)
