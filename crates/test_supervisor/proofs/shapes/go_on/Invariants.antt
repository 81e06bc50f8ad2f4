use Rattle.std.proofs.Common.{◌≡◌}
use Rattle.test_supervisor.proofs.shapes.go_on.Given as goal

abbrev pub invariant-loop-turn : goal.invariant-loop-turn
invariant-loop-turn l = l.supervisor.moment ≡ 0
