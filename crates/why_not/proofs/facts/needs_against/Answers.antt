use Rattle.std.proofs.Common.{◌≡◌, Some, sym}
use Rattle.recipe_reader.specs.Members.{need, members}
use Rattle.recipe_reader.specs.Sets.{name_of, IsMetBy}
use Rattle.recipe_reader.specs.declared.recipe.Dependency.{Dependency}
use Rattle.why_not.proofs.Asked.{against_here, against_none, suits_all}
use Rattle.why_not.proofs.Each.{each_all}
use Rattle.why_not.proofs.facts.needs_against.Goals as goal

pub returns-then-refuses-clause-yes : goal.returns-then-refuses-clause-yes
returns-then-refuses-clause-yes c = λ _. against_here need (members c.args.candidates.now) c.args.needs.now c.args.place c.one-item.result
    (c.loop-one.one-index, c.loop-one-test.true, sym c.one-item.is) (c.refuses.ensures.yes c.if-refuses.true)

pub returns-clause-no : goal.returns-clause-no
returns-clause-no c = λ _. against_none need (members c.args.candidates.now) c.args.needs.now c.args.place (λ d i e out. out
    (each_all (λ (d : Dependency). name_of (members c.args.candidates.now) c.args.place ≡ Some d.name →
    IsMetBy (members c.args.candidates.now) d.name d.range c.args.place) c.args.needs.now c.loop-one.one-index c.loop-one-test.false c.loop-one.invariant d i
    e))

pub returns-clause-fits : goal.returns-clause-fits
returns-clause-fits c = λ _. suits_all need (members c.args.candidates.now) c.args.needs.now c.args.place (each_all (λ (d : Dependency). name_of
    (members c.args.candidates.now) c.args.place ≡ Some d.name → IsMetBy (members c.args.candidates.now) d.name d.range c.args.place) c.args.needs.now
    c.loop-one.one-index c.loop-one-test.false c.loop-one.invariant)
