use Rattle.std.proofs.Common.{Result, Ok, Err, ap, subst}
use Rattle.std.specs.Prelude.{OnOk}
use Rattle.records.specs.Stored.{Record, Grouped, Kept, Ended, item_view, record_view}
use Rattle.device.specs.declared.fault.RestoreFault.{RestoreFault}
use Rattle.device.specs.Regularity.{IsRegularRecord}
use Rattle.device.specs.Rebuilt.{Building, building_view, NextOutcome, IsOrderly}
use Rattle.device.proofs.Fronting.{stays_orderly}
use Rattle.device.proofs.rebuilding.Rebuilding.take.Goals as goal

on_ok : (r : Record) (old new : Building) (result : Result (Unit {0}) RestoreFault) → IsRegularRecord r → IsOrderly old → NextOutcome r old new result →
    OnOk result (IsOrderly new)
on_ok r old new (Ok x) regular are came = stays_orderly r old new regular are came.0 came.1
on_ok r old new (Err e) regular are came = tt

pub returns-in-Grouped-clause-orderly : goal.returns-in-Grouped-clause-orderly
returns-in-Grouped-clause-orderly c =
    on_ok (Grouped c.in-Grouped.group) (building_view c.args.self.now) (building_view c.take_group.new.self) c.take_group.result tt c.requires.orderly
    c.take_group.ensures

pub returns-in-Kept-clause-orderly : goal.returns-in-Kept-clause-orderly
returns-in-Kept-clause-orderly c =
    on_ok (Kept (item_view c.in-Kept.item)) (building_view c.args.self.now) (building_view c.take_item.new.self) c.take_item.result
    (subst IsRegularRecord (ap record_view c.in-Kept.is) c.requires.regular) c.requires.orderly c.take_item.ensures

pub returns-in-Ended-clause-orderly : goal.returns-in-Ended-clause-orderly
returns-in-Ended-clause-orderly c =
    on_ok (Ended c.in-Ended.id c.in-Ended.outcome) (building_view c.args.self.now) (building_view c.take_closed.new.self) c.take_closed.result tt
    c.requires.orderly c.take_closed.ensures
