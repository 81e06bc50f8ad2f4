use Rattle.std.proofs.Common.{Option, subst}
use Rattle.std.specs.Option.{IfSome}
use Rattle.records.specs.declared.record.Record as code
use Rattle.records.specs.Layout.{Spelled}
use Rattle.records.specs.Stored.{record_view}
use Rattle.device.specs.Rebuilt.{building_view}
use Rattle.device.proofs.Walking.{came_payload}
use Rattle.device.proofs.rebuilding.Rebuilding.take_payload.Goals as goal

pub returns-in-Ok-Some-clause-came : goal.returns-in-Ok-Some-clause-came
returns-in-Ok-Some-clause-came c =
    came_payload (record_view c.in-Ok-Some.entry) c.args.payload.now (building_view c.args.self.now) (building_view c.take.new.self) c.take.result
    (subst (λ (o : Option code.Record). IfSome o (λ r. Spelled c.args.payload.now (record_view r))) c.in-Ok-Some.field-0-is c.in-Ok-Some.ensures.found)
    c.take.ensures.came
