use Rattle.recipe_reader.proofs.NameOrder.{up_to_from_before}
use Rattle.why_not.proofs.choosing.comes_before.Goals as goal

pub returns-in-Equal-clause-yes : goal.returns-in-Equal-clause-yes
returns-in-Equal-clause-yes c = λ t e. up_to_from_before c.args.pick.now.name.now c.args.other.now.name.now (c.is_before.ensures.0 t)
