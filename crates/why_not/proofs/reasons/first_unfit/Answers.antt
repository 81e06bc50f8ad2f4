use Rattle.std.proofs.Common.{get_or, subst}
use Rattle.recipe_reader.specs.Members.{members}
use Rattle.recipe_reader.specs.Sets.{needs_of}
use Rattle.recipe_reader.specs.Searches.{IsSuited}
use Rattle.why_not.specs.Certificates.{IsAgainst}
use Rattle.why_not.proofs.Each.{each_more}
use Rattle.why_not.proofs.Firsts.{first_unfit_at}
use Rattle.why_not.proofs.reasons.first_unfit.Goals as goal

pub loop-other-preserved : goal.loop-other-preserved
loop-other-preserved c =
    let ms = members c.args.candidates.now in
    each_more (λ q. IsSuited ms (needs_of ms c.args.place) q) c.args.taken.now c.loop-other.other-index 0 c.loop-other-test.true c.loop-other.invariant
    (subst (λ ds. IsSuited ms ds (get_or c.args.taken.now c.loop-other.other-index 0)) c.needs_at.ensures
    (c.needs_against.ensures.fits c.if-needs_against.false))

pub returns-then-needs_against : goal.returns-then-needs_against
returns-then-needs_against c =
    let ms = members c.args.candidates.now in
    first_unfit_at ms c.args.taken.now c.args.place c.loop-other.other-index c.loop-other-test.true c.loop-other.invariant
    (subst (λ ds. IsAgainst ms ds (get_or c.args.taken.now c.loop-other.other-index 0)) c.needs_at.ensures (c.needs_against.ensures.yes
    c.if-needs_against.true))
