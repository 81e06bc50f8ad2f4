use Rattle.std.proofs.Common.{◌≡◌, ℕ, length, refl, sym, ap, ◌∙◌, subst}
use Rattle.std.proofs.lemmas.List.{length-map}
use Rattle.dep_order.specs.declared.Edges.{Edges}
use Rattle.dep_order.specs.Orders as orders
use Rattle.recipe_reader.specs.Members.{member}
use Rattle.conflict_search.specs.Conflicts.{IsConflict}
use Rattle.conflict_search.specs.Edges.{AreEdgesOf}
use Rattle.conflict_search.specs.Stands.{members_in, wanted_in}
use Rattle.conflict_search.proofs.Trying.{consistent_from}
use Rattle.conflict_search.proofs.Linking.{edges_nodes, edges_acyclic, cycle_conflict}
use Rattle.conflict_search.proofs.library.Library.cycle_among.Goals as goal

pub order-requires : goal.order-requires
order-requires c =
    let edges : Edges = record { nodes = length c.args.self.now.candidates.now; needs = c.new.result } in
    let are = subst (AreEdgesOf c.args.board.now.asked.items c.args.board.now.chosen.items) (sym c.new.ensures) c.in_ok-needs.ensures in
    edges_nodes (members_in c.args.self.now) (wanted_in c.args.self.now) c.args.board.now edges c.requires.board are
    (sym (length-map c.args.self.now.candidates.now member))

pub returns-in-Ok : goal.returns-in-Ok
returns-in-Ok c =
    let edges : Edges = record { nodes = length c.args.self.now.candidates.now; needs = c.new.result } in
    let are = subst (AreEdgesOf c.args.board.now.asked.items c.args.board.now.chosen.items) (sym c.new.ensures) c.in_ok-needs.ensures in
    consistent_from (members_in c.args.self.now) (wanted_in c.args.self.now) c.args.board.now.places.items c.requires.in_range
    (edges_acyclic (members_in c.args.self.now) (wanted_in c.args.self.now) c.args.board.now edges c.requires.board are c.in-Ok.ensures.acyclic)

pub returns-in-Err-Cycle : goal.returns-in-Err-Cycle
returns-in-Err-Cycle c =
    let edges : Edges = record { nodes = length c.args.self.now.candidates.now; needs = c.new.result } in
    let are = subst (AreEdgesOf c.args.board.now.asked.items c.args.board.now.chosen.items) (sym c.new.ensures) c.in_ok-needs.ensures in
    let cycle = rw c.in-Err-Cycle.field-0-is at c.in-Err-Cycle.ensures.cycle in
    subst (IsConflict (members_in c.args.self.now) (wanted_in c.args.self.now) c.args.board.now.places.items) (sym c.into_vec.ensures)
    (cycle_conflict (members_in c.args.self.now) (wanted_in c.args.self.now) c.args.board.now edges c.requires.board are c.in-Err-Cycle.cycle cycle)
