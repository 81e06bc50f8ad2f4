use Rattle.std.proofs.Common.{◌≡◌, sym, subst}
use Rattle.std.proofs.lemmas.Bool.{false≢true}
use Rattle.recipe_reader.specs.Members.{need}
use Rattle.recipe_reader.specs.declared.recipe.Dependency.{Dependency}
use Rattle.why_not.proofs.Asked.{asks_here, asks_none}
use Rattle.why_not.proofs.Each.{each_more, each_all}
use Rattle.why_not.proofs.facts.asks_for.Goals as goal

pub returns-then-is_same-clause-yes : goal.returns-then-is_same-clause-yes
returns-then-is_same-clause-yes c = λ _. asks_here need c.args.needs.now c.args.name.now c.one-item.result (
  c.loop-one.one-index,
  c.loop-one-test.true,
  sym c.one-item.is,
) (c.is_same.ensures.0 c.if-is_same.true)

pub loop-one-preserved : goal.loop-one-preserved
loop-one-preserved c = each_more (λ (d : Dependency). d.name ≡ c.args.name.now → ⊥) c.args.needs.now c.loop-one.one-index c.one-item.result
    c.loop-one-test.true c.loop-one.invariant
    (subst (λ (d : Dependency). d.name ≡ c.args.name.now → ⊥) c.one-item.is (λ e. false≢true (c.if-is_same.ensures.1 e)))

pub returns-clause-no : goal.returns-clause-no
returns-clause-no c = λ _. asks_none need c.args.needs.now c.args.name.now (each_all (λ (d : Dependency). d.name ≡ c.args.name.now →
    ⊥) c.args.needs.now c.loop-one.one-index c.loop-one-test.false c.loop-one.invariant)
