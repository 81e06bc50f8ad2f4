use Rattle.std.proofs.Common.{◌∙◌}
use Rattle.components.specs.Lives.{lived, drops}
use Rattle.supervisor.proofs.Worlds.{test_got}
use Rattle.components.proofs.Each.{set_changed}
use Rattle.supervisor.proofs.befall.live_one.Goals as goal

pub returns-clause-lived : goal.returns-clause-lived
returns-clause-lived c = set_changed (lived c.args.steady c.args.event) _ c.args.at _ c.live.new.self c.requires c.live.ensures.lived

pub returns-clause-drops : goal.returns-clause-drops
returns-clause-drops c = c.live.ensures.drops ∙ test_got (drops c.args.steady c.args.event) c.args.slots.now c.args.at _ c.requires
