use Rattle.records.specs.Stored.{plan_view}
use Rattle.device.specs.Devices.{device_view}
use Rattle.device.proofs.Settling.{accepts}
use Rattle.device.proofs.device.Device.may_accept.Goals as goal

pub returns : goal.returns
returns c =
    accepts (device_view c.args.self.now) (plan_view c.args.plan.now) c.args.self.now.origin c.in-Some.origin c.is_plan.result c.in-Some.is
    (c.is_fresh_and_fits.ensures.0 c.if-not-is_fresh_and_fits.false).0 (c.is_fresh_and_fits.ensures.0 c.if-not-is_fresh_and_fits.false).1 c.is_plan.ensures
