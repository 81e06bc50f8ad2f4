-- Places that need places: the order that takes again and again the least place whose needs are all taken, and cycles.
use Rattle.std.specs.Prelude.{ℕ, ◌<◌, ◌≤◌, ◌≡◌, true, List, [], ◌∷◌, ◌++◌}
use Rattle.std.specs.List.{All, Contains}
use Rattle.nuc_base.specs.Leads.{HasPath}
use Rattle.dep_order.specs.declared.Need.{Need}
use Rattle.dep_order.specs.declared.Edges.{Edges}

-- one place needs another
pub record HasNeed (edges : Edges) (a b : ℕ) : Type 0 where
  pub by : Need
  pub is : Contains edges.needs by
  pub from : by.from ≡ a
  pub to : by.to ≡ b

-- one place needs another hard
pub record NeedsHard (edges : Edges) (a b : ℕ) : Type 0 where
  pub by : Need
  pub is : Contains edges.needs by
  pub from : by.from ≡ a
  pub to : by.to ≡ b
  pub hard : by.hard ≡ true

-- each place of a need is a node
abbrev pub AreNodes : Edges → Type 0
AreNodes edges = All (λ e. (e.from < edges.nodes) × (e.to < edges.nodes)) edges.needs

-- no place needs itself, by one or more needs
abbrev pub IsAcyclic : Edges → Type 0
IsAcyclic edges = (p : ℕ) → HasPath (HasNeed edges) p p → ⊥

-- all that the place needs is taken
abbrev pub IsReady : Edges → List ℕ → ℕ → Type 0
IsReady edges taken p = (q : ℕ) → HasNeed edges p q → Contains taken q

-- a place that could be taken next
pub record IsOpen (edges : Edges) (taken : List ℕ) (p : ℕ) : Type 0 where
  pub node : p < edges.nodes
  pub untaken : Contains taken p → ⊥
  pub ready : IsReady edges taken p

-- the least of these
pub record IsLeastOpen (edges : Edges) (taken : List ℕ) (p : ℕ) : Type 0 where
  pub is_open : IsOpen edges taken p
  pub least : (q : ℕ) → IsOpen edges taken q → p ≤ q

-- after the places that are taken: takes the least open place again and again, until none is open
abbrev pub IsOrderAfter : Edges → List ℕ → List ℕ → Type 0
IsOrderAfter edges taken [] = (p : ℕ) → IsOpen edges taken p → ⊥
IsOrderAfter edges taken (p ∷ ps) = IsLeastOpen edges taken p × IsOrderAfter edges (taken ++ p ∷ []) ps

abbrev pub IsOrder : Edges → List ℕ → Type 0
IsOrder edges list = IsOrderAfter edges [] list

-- each node is in the list
abbrev pub IsWhole : Edges → List ℕ → Type 0
IsWhole edges list = (p : ℕ) → p < edges.nodes → Contains list p

-- the order takes all nodes
pub record IsWholeOrder (edges : Edges) (list : List ℕ) : Type 0 where
  pub order : IsOrder edges list
  pub whole : IsWhole edges list

-- what a place of the list needs stands before it
abbrev pub NeedsComeFirst : Edges → List ℕ → Type 0
NeedsComeFirst edges list = (before after : List ℕ) (p q : ℕ) → list ≡ before ++ p ∷ after → HasNeed edges p q → Contains before q

abbrev pub head_or : List ℕ → ℕ → ℕ
head_or [] last = last
head_or (p ∷ ps) last = p

-- each needs the next, and the last of the list needs the place given
abbrev pub AreLinked : Edges → List ℕ → ℕ → Type 0
AreLinked edges [] last = Unit {0}
AreLinked edges (p ∷ ps) last = HasNeed edges p (head_or ps last) × AreLinked edges ps last

-- each needs the next, and the last needs the first
abbrev pub IsCycle : Edges → List ℕ → Type 0
IsCycle edges [] = ⊥
IsCycle edges (p ∷ ps) = AreLinked edges (p ∷ ps) p
