use Rattle.std.proofs.Common.{◌≡◌, ◌∙◌, ap, subst}
use Rattle.records.specs.Stored.{Record, plan_view}
use Rattle.device.specs.Devices.{device_view}
use Rattle.device.specs.Lawful.{Allowed, applied}
use Rattle.test_states.proofs.Tested.{same_plan}
use Rattle.test_states.proofs.offers.take_plan.Goals as goal

pub returns-in-Ok-clause-lawful : goal.returns-in-Ok-clause-lawful
returns-in-Ok-clause-lawful c =
    let same = same_plan c.args.bytes.now (plan_view c.in_ok-taken.taken) (plan_view c.in_ok-plan.plan) c.in_ok-taken.ensures.spelled
    c.in_ok-plan.ensures.spelled in
    subst (λ (r : Record). Allowed (device_view c.args.twin.now) r) same c.in-Ok.ensures.taken.0

pub returns-in-Ok-clause-taken : goal.returns-in-Ok-clause-taken
returns-in-Ok-clause-taken c =
    let same = same_plan c.args.bytes.now (plan_view c.in_ok-taken.taken) (plan_view c.in_ok-plan.plan) c.in_ok-taken.ensures.spelled
    c.in_ok-plan.ensures.spelled in
    c.in-Ok.ensures.taken.1 ∙ ap (λ (r : Record). applied (device_view c.args.twin.now) r) same
