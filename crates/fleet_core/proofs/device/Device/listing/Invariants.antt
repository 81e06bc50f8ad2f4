use Rattle.std.proofs.Common.{◌≡◌, map}
use Rattle.std.specs.Map.Iter.{deref_pair}
use Rattle.fleet_core.proofs.Lookups.{listed}
use Rattle.fleet_core.proofs.device.Device.listing.Given as goal

abbrev pub invariant-loop-group : goal.invariant-loop-group
invariant-loop-group l = l.list ≡ listed l.reports (map deref_pair l.yielded)
