use Rattle.std.proofs.Common.{◌++◌, ◌∷◌, []}
use Rattle.std.proofs.lemmas.List.Elements.{Contains-append_left, Contains-push}
use Rattle.recipe_reader.specs.Members.{members}
use Rattle.recipe_reader.specs.Sets.{asked}
use Rattle.why_not.proofs.Firsts.{first_wanted, first_by, first_on, first_against_in, first_unfit_in}
use Rattle.why_not.proofs.Leaves.{leaf_wanted, leaf_pair}
use Rattle.why_not.proofs.reasons.first_range.Goals as goal

pub returns-then-wanted_against-clause-found : goal.returns-then-wanted_against-clause-found
returns-then-wanted_against-clause-found c =
    leaf_wanted (members c.args.candidates.now) (asked c.args.wanted.now) (c.args.taken.now ++ c.args.place ∷ []) c.in_ok-alone.field-0.items c.args.place
    c.in_ok-alone.ensures (Contains-push c.args.taken.now c.args.place) (c.wanted_against.ensures.yes c.if-wanted_against.true)

pub returns-then-wanted_against-clause-first : goal.returns-then-wanted_against-clause-first
returns-then-wanted_against-clause-first c =
    first_wanted (members c.args.candidates.now) (asked c.args.wanted.now) c.args.taken.now c.args.place (c.wanted_against.ensures.yes c.if-wanted_against.true)

pub returns-in-Some-clause-found : goal.returns-in-Some-clause-found
returns-in-Some-clause-found c =
    let ms = members c.args.candidates.now in
    let q = c.in-Some.other in
    let f = c.in-Some.ensures in
    leaf_pair ms (asked c.args.wanted.now) (c.args.taken.now ++ c.args.place ∷ []) c.in_ok-pair.field-0.items c.args.place q c.in_ok-pair.ensures
    (Contains-push c.args.taken.now c.args.place)
    (Contains-append_left c.args.taken.now (c.args.place ∷ []) q (first_against_in ms c.args.taken.now c.args.place q f)) f.3

pub returns-in-Some-clause-first : goal.returns-in-Some-clause-first
returns-in-Some-clause-first c =
    first_by (members c.args.candidates.now) (asked c.args.wanted.now) c.args.taken.now c.args.place c.in-Some.other
    (c.wanted_against.ensures.fits c.if-wanted_against.false) c.in-Some.ensures

pub returns-in-Some-first_unfit-clause-found : goal.returns-in-Some-first_unfit-clause-found
returns-in-Some-first_unfit-clause-found c =
    let ms = members c.args.candidates.now in
    let q = c.in-Some-first_unfit.other in
    let f = c.in-Some-first_unfit.ensures in
    leaf_pair ms (asked c.args.wanted.now) (c.args.taken.now ++ c.args.place ∷ []) c.in_ok-pair-2.field-0.items q c.args.place c.in_ok-pair-2.ensures
    (Contains-append_left c.args.taken.now (c.args.place ∷ []) q (first_unfit_in ms c.args.taken.now c.args.place q f))
    (Contains-push c.args.taken.now c.args.place) f.3

pub returns-in-Some-first_unfit-clause-first : goal.returns-in-Some-first_unfit-clause-first
returns-in-Some-first_unfit-clause-first c =
    first_on (members c.args.candidates.now) (asked c.args.wanted.now) c.args.taken.now c.args.place c.in-Some-first_unfit.other
    (c.wanted_against.ensures.fits c.if-wanted_against.false) c.in_default.ensures c.in-Some-first_unfit.ensures
