use Rattle.std.proofs.Common.{◌≡◌}
use Rattle.nuc_base.specs.declared.platform.Platform.{Platform}
use Rattle.test_supervisor.specs.Stands.{IsReadyFor}
use Rattle.test_supervisor.proofs.acts.take_acts.Given as goal

abbrev pub invariant-loop-act : goal.invariant-loop-act
invariant-loop-act l = (l.supervisor.moment ≡ l.now) × ((p : Platform) → IsReadyFor p l.initial.supervisor → IsReadyFor p l.supervisor)
