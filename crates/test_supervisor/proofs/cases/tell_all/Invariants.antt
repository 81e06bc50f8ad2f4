use Rattle.std.proofs.Common.{◌≡◌}
use Rattle.std.specs.Prelude.{IfSome}
use Rattle.records.specs.declared.record.Origin.{Origin}
use Rattle.test_supervisor.specs.Stands.{IsReadyFor}
use Rattle.test_supervisor.proofs.cases.tell_all.Given as goal

abbrev pub invariant-loop-word : goal.invariant-loop-word
invariant-loop-word l = (l.supervisor.moment ≡ l.now) × IfSome l.device.origin (λ (o : Origin). IsReadyFor o.platform l.supervisor)
