use Rattle.std.proofs.Common.{◌≡◌, take, drop}
use Rattle.components.proofs.Meets.{began, fits}
use Rattle.supervisor.proofs.merging.begin_each.Given as goal

abbrev pub invariant-loop-at : goal.invariant-loop-at
invariant-loop-at l = record {
  done : take l.at l.coming ≡ take l.at (began 0 l.failures (fits l.fn.coming));
  rest : drop l.at l.coming ≡ drop l.at l.fn.coming;
}
