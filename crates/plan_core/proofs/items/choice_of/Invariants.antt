use Rattle.std.proofs.Common.{◌≡◌, ◌++◌, drop}
use Rattle.plan_core.specs.Set.{chosen}
use Rattle.plan_core.specs.Looks.{candidates_of}
use Rattle.plan_core.proofs.items.choice_of.Given as goal

abbrev pub invariant-loop-place : goal.invariant-loop-place
invariant-loop-place l = candidates_of l.choice.items ++ chosen l.candidates (drop l.place-index l.set) ≡ chosen l.candidates l.set
