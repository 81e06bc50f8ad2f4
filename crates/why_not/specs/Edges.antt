-- The dependencies among places, as edges of an order.
use Rattle.std.specs.Prelude.{◌≡◌, ◌⊎◌, ℕ, List}
use Rattle.std.specs.List.{Contains}
use Rattle.dep_order.specs.declared.Need.{Need as Edge}
use Rattle.nuc_base.specs.Leads.{HasPath}
use Rattle.recipe_reader.specs.Members.{Member}
use Rattle.recipe_reader.specs.Sets.{HasDependency}
use Rattle.why_not.specs.Certificates.{DependsOn, IsLoop}

-- an edge from one place to another
pub record HasEdge (edges : List Edge) (a b : ℕ) : Type 0 where
  pub by : Edge
  pub is : Contains edges by
  pub from : by.from ≡ a
  pub to : by.to ≡ b

-- the edges are from those of the first places to those of the second whose names they depend on
pub record AreEdges (ms : List Member) (froms tos : List ℕ) (edges : List Edge) : Type 0 where
  pub has : (a b : ℕ) → Contains froms a → Contains tos b → DependsOn ms a b → HasEdge edges a b
  pub from : (a b : ℕ) → HasEdge edges a b → Contains froms a
  pub to : (a b : ℕ) → HasEdge edges a b → Contains tos b
  pub depends : (a b : ℕ) → HasEdge edges a b → DependsOn ms a b

-- the edge leads from the place to one of the others whose name it depends on
pub record LeadsFrom (ms : List Member) (place : ℕ) (tos : List ℕ) (a b : ℕ) : Type 0 where
  pub from : place ≡ a
  pub to : Contains tos b
  pub depends : DependsOn ms a b

-- the new edges are the old ones, and those from the place to others whose names it depends on
pub record AddsEdges (ms : List Member) (place : ℕ) (tos : List ℕ) (old new : List Edge) : Type 0 where
  pub kept : (a b : ℕ) → HasEdge old a b → HasEdge new a b
  pub has : (b : ℕ) → Contains tos b → DependsOn ms place b → HasEdge new place b
  pub only : (a b : ℕ) → HasEdge new a b → HasEdge old a b ⊎ LeadsFrom ms place tos a b

-- none of the places depends on itself through others
abbrev pub HasNoLoop : List Member → List ℕ → Type 0
HasNoLoop ms places = (x : ℕ) → HasPath (HasDependency ms places) x x → ⊥

-- a loop of the places
abbrev pub IsLoopOf : List Member → List ℕ → List ℕ → Type 0
IsLoopOf ms places ps = ((x : ℕ) → Contains ps x → Contains places x) × IsLoop ms ps
