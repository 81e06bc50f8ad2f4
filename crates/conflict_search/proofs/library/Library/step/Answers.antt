use Rattle.std.proofs.Common.{◌<◌, length, sym, subst}
use Rattle.std.specs.List.{All}
use Rattle.conflict_search.proofs.Stepping.{refused_inside, stepped}
use Rattle.conflict_search.proofs.library.Library.step.Goals as goal

pub draft_against-requires-clause-inside : goal.draft_against-requires-clause-inside
draft_against-requires-clause-inside c =
    let h = c.requires.state in
    let board = h.board in
    let trial = rw c.in-Refused.is at c.in_ok-places.ensures in
    subst (All (λ p. p < length c.args.self.now.candidates.now)) (sym c.as_slice-in-Refused.ensures.value)
    (refused_inside c.args.self.now c.args.state.now.board.places.items c.in-Refused.places.items c.args.place c.args.number board.inside c.requires.place
    trial)

pub returns-in_ok-take-in-Fits : goal.returns-in_ok-take-in-Fits
returns-in_ok-take-in-Fits c =
    let trial = rw c.in-Fits.is at c.in_ok-places.ensures in
    record {
      found = (
        stepped c.args.self.now c.args.state.now c.take.new.board c.args.number c.args.place c.requires.rising c.requires.state c.requires.next
            c.requires.place c.requires.greatest trial.0 c.in_ok-take-in-Fits.ensures.board c.in_ok-take-in-Fits.ensures.places,
        c.in_ok-take-in-Fits.ensures.places,
      );
    }
