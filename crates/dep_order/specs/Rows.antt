-- Needs by the place that is needed.
use Rattle.std.specs.Prelude.{List}
use Rattle.std.specs.List.Sorted.{IsPermutation, IsNonDecreasingBy}
use Rattle.dep_order.specs.declared.Need.{Need}

-- the same needs, sorted by the place that is needed
pub record AreRows (needs rows : List Need) : Type 0 where
  pub same : IsPermutation needs rows
  pub rising : IsNonDecreasingBy (λ (e : Need). e.to) rows
