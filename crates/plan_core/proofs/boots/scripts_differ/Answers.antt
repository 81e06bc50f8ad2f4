use Rattle.std.proofs.Common.{map}
use Rattle.records.specs.Stored.{item_view}
use Rattle.plan_core.proofs.Changing.{differs}
use Rattle.plan_core.proofs.Scripts.{scripts_decide}
use Rattle.plan_core.proofs.boots.scripts_differ.Goals as goal

pub returns : goal.returns
returns c =
    scripts_decide c.recipe_laws.ensures.one_recipe c.expansion_laws.ensures.alike c.args.origin.now (map item_view c.args.set.now)
    (map item_view c.args.items.now) c.args.before c.args.at
    c.in_ok-old.old c.in_ok-new.new c.ne.result c.in_ok-old.ensures c.in_ok-new.ensures (differs c.in_ok-old.old c.in_ok-new.new c.ne.result c.ne.ensures)
