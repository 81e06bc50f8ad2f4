use Rattle.std.proofs.Common.{drop}
use Rattle.std.specs.Str.{bytes_eq}
use Rattle.device.proofs.PlanLoops.{Apart}
use Rattle.device.proofs.plans.names_differ.Given as goal

abbrev pub invariant-loop-at : goal.invariant-loop-at
invariant-loop-at l = Apart bytes_eq l.names (drop l.at l.names)
