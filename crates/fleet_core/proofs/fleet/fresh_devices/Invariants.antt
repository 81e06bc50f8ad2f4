use Rattle.std.proofs.Common.{◌-◌, ◌≤◌, length, vec_len}
use Rattle.fleet_core.specs.Fleets.{AreFresh}
use Rattle.fleet_core.proofs.fleet.fresh_devices.Given as goal

abbrev pub invariant-making : goal.invariant-making
invariant-making l = record { few : length l.devices.items ≤ l.count; fresh : AreFresh l.devices.items }

abbrev pub decreases-making : goal.decreases-making
decreases-making l = l.count - vec_len l.devices
