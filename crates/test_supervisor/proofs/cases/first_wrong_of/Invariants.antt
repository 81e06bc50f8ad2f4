use Rattle.std.proofs.Common.{◌≡◌, ◌<◌}
use Rattle.std.specs.Prelude.{◌^◌, IfSome}
use Rattle.records.specs.declared.record.Origin.{Origin}
use Rattle.test_supervisor.specs.Stands.{IsReadyFor}
use Rattle.test_supervisor.proofs.cases.first_wrong_of.Given as goal

abbrev pub invariant-loop-line : goal.invariant-loop-line
invariant-loop-line l = (l.supervisor.moment ≡ l.now) × (l.now < 2 ^ 62) × IfSome l.device.origin (λ (o : Origin). IsReadyFor o.platform l.supervisor)
