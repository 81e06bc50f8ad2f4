use Rattle.workload.proofs.Falling.{took_least, took_without, took_falls}
use Rattle.workload.proofs.children.take_least.Goals as goal

pub returns-clause-least : goal.returns-clause-least
returns-clause-least c = took_least c.requires.0 c.pop.result _ _ c.pop.ensures.items c.requires.1

pub returns-clause-left : goal.returns-clause-left
returns-clause-left c = took_without c.requires.0 c.pop.result _ _ c.pop.ensures.items c.requires.1

pub returns-clause-fall : goal.returns-clause-fall
returns-clause-fall c = λ bound f. took_falls bound c.pop.result _ _ c.pop.ensures.items f
