use Rattle.device.specs.Devices.{device_view}
use Rattle.config_cmd.specs.declared.fault.GetFault.TheVariants as fault
use Rattle.nucleus_top.proofs.GetEnds.{absent_on, got_on}
use Rattle.nucleus_top.proofs.config_getting.get_on.Goals as goal

pub returns-in-Ok : goal.returns-in-Ok
returns-in-Ok c =
    got_on (device_view c.args.device.now) c.args.name.now c.args.at.now c.in-Ok.node c.got.result c.in-Ok.ensures.1 c.got.ensures

pub returns-in-Err-NoComponent : goal.returns-in-Err-NoComponent
returns-in-Err-NoComponent c =
    absent_on (device_view c.args.device.now) c.args.name.now c.args.at.now fault.NoComponent c.no_component.result c.absent.result (λ is. cc)
    (rw c.in-Err-NoComponent.field-0-is at c.in-Err-NoComponent.ensures) c.no_component.ensures c.absent.ensures

pub returns-in-Err-NoNode : goal.returns-in-Err-NoNode
returns-in-Err-NoNode c =
    absent_on (device_view c.args.device.now) c.args.name.now c.args.at.now fault.NoNode c.no_node.result c.absent-in-Err-NoNode.result (λ is. cc)
    (rw c.in-Err-NoNode.field-0-is at c.in-Err-NoNode.ensures) c.no_node.ensures c.absent-in-Err-NoNode.ensures
