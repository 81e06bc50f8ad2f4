use Rattle.std.proofs.Common.{◌∙◌, ap}
use Rattle.host_children.proofs.Numbers.{map_without}
use Rattle.host_children.proofs.children.remove_numbered.Goals as goal

pub returns-clause-left : goal.returns-clause-left
returns-clause-left g c = c.forget_numbered.ensures.left ∙ c.end_among.ensures.others

pub returns-clause-numbers : goal.returns-clause-numbers
returns-clause-numbers g c = rw (returns-clause-left g c) (map_without _ c.args.number _)
