use Rattle.std.proofs.Common.{rules}
use Rattle.std.proofs.lemmas.Fn.{filter_same}
use Rattle.host_children.proofs.Numbers.{map_without}
use Rattle.host_children.proofs.children.forget_numbered.Goals as goal

pub returns-clause-left : goal.returns-clause-left
returns-clause-left g c = filter_same _ _ _ (λ x b f' k. search rules) _ _ c.retain.ensures.filtered

pub returns-clause-numbers : goal.returns-clause-numbers
returns-clause-numbers g c = rw (returns-clause-left g c) (map_without _ c.args.number _)
