use Rattle.std.proofs.Common.{◌<◌, ℕ, length, Vec, Global, sym, subst}
use Rattle.std.specs.List.{All}
use Rattle.std.proofs.lemmas.Option.{MatchOption-at_some, MatchOption-at_none}
use Rattle.recipe_reader.specs.Searches.{IsConsistent}
use Rattle.recipe_reader.proofs.Searching.{best_here}
use Rattle.conflict_search.specs.Conflicts.{IsConflict}
use Rattle.conflict_search.specs.Stands.{members_in, wanted_in}
use Rattle.conflict_search.proofs.Stepping.{conflict_inside}
use Rattle.conflict_search.proofs.library.Library.check.Goals as goal

pub returns-in_default-clause-found : goal.returns-in_default-clause-found
returns-in_default-clause-found c =
    let ms = members_in c.args.self.now in
    let wanted = wanted_in c.args.self.now in
    let taken = c.args.state.now.board.places.items in
    let h = c.requires.state in
    let goes = h.on in
    let good = MatchOption-at_none (IsConsistent ms wanted taken) (λ (v : Vec ℕ Global). IsConflict ms wanted taken v.items) c.in_default.is
    c.in_ok-cycle.ensures in
    goes.on taken (best_here ms wanted taken good c.requires.whole)

pub nogood_of_cycle-requires-clause-places : goal.nogood_of_cycle-requires-clause-places
nogood_of_cycle-requires-clause-places c =
    let ms = members_in c.args.self.now in
    let wanted = wanted_in c.args.self.now in
    let taken = c.args.state.now.board.places.items in
    let h = c.requires.state in
    let board = h.board in
    let conflict = MatchOption-at_some (IsConsistent ms wanted taken) (λ (v : Vec ℕ Global). IsConflict ms wanted taken v.items) c.in-Some.cycle c.in-Some.is
    c.in_ok-cycle.ensures in
    subst (All (λ p. p < length c.args.self.now.candidates.now)) (sym c.as_slice.ensures.value)
    (conflict_inside c.args.self.now taken c.in-Some.cycle.items board.inside conflict)
