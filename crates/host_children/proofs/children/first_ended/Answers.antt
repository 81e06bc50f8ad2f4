use Rattle.host_children.proofs.Numbers.{its_number}
use Rattle.host_children.proofs.children.first_ended.Goals as goal

pub returns-in-Some-clause-lived : goal.returns-in-Some-clause-lived
returns-in-Some-clause-lived g c = its_number (λ r. r.number) c.args.children.now c.loop-child.child-index c.child-item.result c.loop-child-test.true
    c.child-item.is
