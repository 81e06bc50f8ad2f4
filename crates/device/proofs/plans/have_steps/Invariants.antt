use Rattle.std.proofs.Common.{drop}
use Rattle.device.specs.PlanNeeds.{IsBootIn}
use Rattle.device.proofs.PlanLoops.{Left}
use Rattle.device.proofs.plans.have_steps.Given as goal

abbrev pub invariant-loop-name : goal.invariant-loop-name
invariant-loop-name l = Left (IsBootIn l.items l.recipes) l.names (drop l.name-index l.names)
