-- Time can go on: a living step has a deadline later than the moment.
use Rattle.std.specs.Prelude.{◌<◌, IsSomeAnd}
use Rattle.components.specs.Components.{Components}
use Rattle.components.specs.Deadlines.{least_deadline}

-- the least deadline of the living steps is there, and later than the moment
abbrev pub HasTime : Components → Type 0
HasTime w = IsSomeAnd (least_deadline w) (λ d. w.moment < d)
