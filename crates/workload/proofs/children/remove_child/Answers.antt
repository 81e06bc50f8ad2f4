use Rattle.std.proofs.Common.{rules, not, ◌==◌}
use Rattle.std.proofs.lemmas.Fn.{filter_same}
use Rattle.workload.specs.declared.children.LivingChild.{LivingChild}
use Rattle.workload.proofs.Falling.{falls_filter, numbers_other}
use Rattle.workload.proofs.children.remove_child.Goals as goal

pub returns-clause-left : goal.returns-clause-left
returns-clause-left c = filter_same _ _ _ (λ x b f' k. search rules) _ _ c.retain.ensures.filtered

pub returns-clause-numbers : goal.returns-clause-numbers
returns-clause-numbers c = rw (returns-clause-left c) (numbers_other c.args.child c.args.children.now.items)

pub returns-clause-fall : goal.returns-clause-fall
returns-clause-fall c = λ bound f.
    rw (returns-clause-left c) (falls_filter (λ (x : LivingChild). not (x.number == c.args.child)) bound c.args.children.now.items f)
