use Rattle.std.proofs.Common.{map}
use Rattle.records.specs.Stored.{item_view}
use Rattle.plan_core.proofs.Found.{kept_regular}
use Rattle.plan_core.proofs.items.kept_config.Goals as goal

pub returns-in-Some-clause-regular : goal.returns-in-Some-clause-regular
returns-in-Some-clause-regular c = kept_regular c.args.name.now (map item_view c.args.set.now) (item_view c.in-Some.item.now) c.requires c.in-Some.ensures
