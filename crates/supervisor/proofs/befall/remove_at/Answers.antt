use Rattle.components.specs.Components.{without_child}
use Rattle.components.proofs.Each.{set_changed}
use Rattle.supervisor.proofs.befall.remove_at.Goals as goal

pub returns : goal.returns
returns c = set_changed (without_child c.args.number) _ c.args.at _ c.remove_child.new.self c.requires c.remove_child.ensures
