use Rattle.std.proofs.Common.{◌≡◌, sym, subst}
use Rattle.std.proofs.lemmas.Bool.{false≢true}
use Rattle.recipe_reader.specs.Sets.{wanted_need}
use Rattle.recipe_reader.specs.declared.wanted.Wanted.{Wanted}
use Rattle.why_not.proofs.Asked.{asks_here, asks_none}
use Rattle.why_not.proofs.Each.{each_more, each_all}
use Rattle.why_not.proofs.facts.is_wanted.Goals as goal

pub returns-then-is_same-clause-yes : goal.returns-then-is_same-clause-yes
returns-then-is_same-clause-yes c = λ _. asks_here wanted_need c.args.wanted.now c.args.name.now c.one-item.result (
  c.loop-one.one-index,
  c.loop-one-test.true,
  sym c.one-item.is,
) (c.is_same.ensures.0 c.if-is_same.true)

pub loop-one-preserved : goal.loop-one-preserved
loop-one-preserved c = each_more (λ (d : Wanted). d.name ≡ c.args.name.now → ⊥) c.args.wanted.now c.loop-one.one-index c.one-item.result c.loop-one-test.true
    c.loop-one.invariant
    (subst (λ (d : Wanted). d.name ≡ c.args.name.now → ⊥) c.one-item.is (λ e. false≢true (c.if-is_same.ensures.1 e)))

pub returns-clause-no : goal.returns-clause-no
returns-clause-no c = λ _. asks_none wanted_need c.args.wanted.now c.args.name.now (each_all (λ (d : Wanted). d.name ≡ c.args.name.now →
    ⊥) c.args.wanted.now c.loop-one.one-index c.loop-one-test.false c.loop-one.invariant)
