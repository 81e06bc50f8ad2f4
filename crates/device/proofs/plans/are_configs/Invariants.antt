use Rattle.std.proofs.Common.{drop}
use Rattle.device.specs.PlanNeeds.{HasConfigAt}
use Rattle.device.proofs.PlanLoops.{Left}
use Rattle.device.proofs.plans.are_configs.Given as goal

abbrev pub invariant-loop-item : goal.invariant-loop-item
invariant-loop-item l = Left HasConfigAt l.items (drop l.item-index l.items)
