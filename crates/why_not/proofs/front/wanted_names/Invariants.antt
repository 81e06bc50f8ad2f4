use Rattle.std.proofs.Common.{◌↔◌, ℕ, List, take, map}
use Rattle.std.specs.List.{Contains}
use Rattle.recipe_reader.specs.Sets.{asked}
use Rattle.why_not.specs.Fronts.{listed}
use Rattle.why_not.proofs.front.wanted_names.Given as goal

abbrev pub invariant-loop-one : goal.invariant-loop-one
invariant-loop-one l = (n : List ℕ) → Contains (listed l.names.items) n ↔ Contains (map (λ w. w.name) (asked (take l.one-index l.wanted))) n
