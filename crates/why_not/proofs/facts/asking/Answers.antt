use Rattle.std.proofs.Common.{subst}
use Rattle.recipe_reader.specs.Members.{members}
use Rattle.recipe_reader.specs.Sets.{needs_of}
use Rattle.why_not.specs.Certificates.{AsksFor}
use Rattle.why_not.proofs.Each.{each_more, each_all}
use Rattle.why_not.proofs.facts.asking.Goals as goal

pub loop-place-preserved : goal.loop-place-preserved
loop-place-preserved c =
    let ms = members c.args.candidates.now in
    let here = c.asks_for.ensures.no c.if-asks_for.false in
    each_more (λ p. AsksFor (needs_of ms p) c.args.name.now → ⊥) c.args.taken.now c.loop-place.place-index 0 c.loop-place-test.true c.loop-place.invariant
    (subst (λ ds. AsksFor ds c.args.name.now → ⊥) c.needs_at.ensures here)

pub returns : goal.returns
returns c = each_all (λ p. AsksFor (needs_of (members c.args.candidates.now) p) c.args.name.now →
    ⊥) c.args.taken.now c.loop-place.place-index c.loop-place-test.false c.loop-place.invariant
