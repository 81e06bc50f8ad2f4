use Rattle.std.proofs.Common.{◌≡◌, drop}
use Rattle.components.specs.Components.{place_from, place_of}
use Rattle.supervisor.proofs.places.place_of.Given as goal

abbrev pub invariant-loop-at : goal.invariant-loop-at
invariant-loop-at l = place_of l.name l.slots ≡ place_from l.at l.name (drop l.at l.slots)
