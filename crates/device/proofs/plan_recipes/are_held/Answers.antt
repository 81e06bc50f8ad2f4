use Rattle.std.proofs.Common.{sym}
use Rattle.device.specs.Plans.{IsHeldFor}
use Rattle.std.specs.List.{AllZip}
use Rattle.device.proofs.PlanLoops.{no}
use Rattle.device.proofs.PlanPlaces.{long}
use Rattle.device.proofs.plan_recipes.are_held.Goals as goal

pub returns-then-artifacts-held : goal.returns-then-artifacts-held
returns-then-artifacts-held c = no (AllZip IsHeldFor c.args.artifacts.now c.args.held.now)
    (λ z. let same = long IsHeldFor c.args.artifacts.now c.args.held.now z in c.if-artifacts-held.true (sym same))
