use Rattle.std.proofs.Common.{◌==◌, ◌∙◌, ap, List}
use Rattle.std.specs.List.{find}
use Rattle.components.specs.Components.{Child}
use Rattle.components.proofs.Each.{at_is}
use Rattle.supervisor.proofs.asks.child_at.Goals as goal

pub returns : goal.returns
returns c = at_is _ c.args.slots.now c.args.at c.index-slots-at.result c.requires c.index-slots-at.is
    (c.child_of.ensures ∙ ap (λ (cs : List Child). find (λ d. d.number == c.args.number) cs) c.children.ensures)
