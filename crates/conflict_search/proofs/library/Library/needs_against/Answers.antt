use Rattle.std.proofs.Common.{ℕ}
use Rattle.conflict_search.specs.Stands.{members_in, wanted_in}
use Rattle.conflict_search.proofs.Trying.{needs_met, unfit_conflict}
use Rattle.conflict_search.proofs.library.Library.needs_against.Goals as goal

pub returns-in_ok-pair-in-Some : goal.returns-in_ok-pair-in-Some
returns-in_ok-pair-in-Some c =
    let board = c.requires.board in
    let r = c.in-Some.ensures in
    unfit_conflict (members_in c.args.self.now) (wanted_in c.args.self.now) c.args.board.now.places.items c.args.board.now.chosen.items c.args.place
    c.args.demands.now board.chosen c.requires.demands
    r.0 c.in-Some.unfit c.in_ok-pair-in-Some.field-0.items r.1 r.2 r.3 c.in_ok-pair-in-Some.ensures

pub returns-in-None : goal.returns-in-None
returns-in-None c =
    let board = c.requires.board in
    needs_met (members_in c.args.self.now) (wanted_in c.args.self.now) c.args.board.now.places.items c.args.board.now.chosen.items c.args.place
    c.args.demands.now board.chosen c.requires.demands c.in-None.ensures
