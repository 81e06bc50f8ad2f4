-- The dependencies among decided places, as edges of an order.
use Rattle.std.specs.Prelude.{◌≡◌, ℕ, List, Option, Some, None, slice_index_or}
use Rattle.std.specs.List.{Contains}
use Rattle.dep_order.specs.declared.Need.{Need as Edge}
use Rattle.conflict_search.specs.declared.demands.Demand.{Demand}

-- an edge from one place to another
pub record HasEdge (edges : List Edge) (a b : ℕ) : Type 0 where
  pub by : Edge
  pub is : Contains edges by
  pub from : by.from ≡ a
  pub to : by.to ≡ b

-- a place asks for the name of one that is chosen
pub record HasDemand (asked : List Demand) (chosen : List (Option ℕ)) (a b : ℕ) : Type 0 where
  pub by : Demand
  pub is : Contains asked by
  pub from : by.from ≡ Some a
  pub to : slice_index_or chosen by.number None ≡ Some b

-- the edges are from the places that ask to those that are chosen
pub record AreEdgesOf (asked : List Demand) (chosen : List (Option ℕ)) (edges : List Edge) : Type 0 where
  pub has : (a b : ℕ) → HasDemand asked chosen a b → HasEdge edges a b
  pub only : (a b : ℕ) → HasEdge edges a b → HasDemand asked chosen a b
