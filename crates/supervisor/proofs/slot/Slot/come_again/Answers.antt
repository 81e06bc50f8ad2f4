use Rattle.std.proofs.Common.{◌∙◌}
use Rattle.supervisor.proofs.Slots.{comes_again}
use Rattle.supervisor.proofs.slot.Slot.come_again.Goals as goal

pub returns : goal.returns
returns c = c.swap.ensures.x_after ∙ c.give_children.ensures ∙ comes_again c.args.coming c.args.self.now c.requires
