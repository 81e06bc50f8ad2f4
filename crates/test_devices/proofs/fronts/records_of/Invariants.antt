use Rattle.std.specs.List.{AllByRecursion}
use Rattle.device.specs.Fronts.{IsRegularEntry}
use Rattle.test_devices.proofs.fronts.records_of.Given as goal

abbrev pub invariant-loop-payload : goal.invariant-loop-payload
invariant-loop-payload l = AllByRecursion IsRegularEntry l.records
