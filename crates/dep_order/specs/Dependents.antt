-- Hard dependents, in the middle of the search for them.
use Rattle.std.specs.Prelude.{ℕ, ◌≡◌, ◌⊎◌, true, List, ◌++◌}
use Rattle.std.specs.List.{Contains}
use Rattle.nuc_base.specs.Leads.{HasPath}
use Rattle.dep_order.specs.declared.Need.{Need}
use Rattle.dep_order.specs.declared.Edges.{Edges}
use Rattle.dep_order.specs.Orders.{NeedsHard}

-- one of the needs is a hard one of the place
pub record IsHardIn (row : List Need) (a : ℕ) : Type 0 where
  pub by : Need
  pub is : Contains row by
  pub hard : by.hard ≡ true
  pub from : by.from ≡ a

-- the new list goes on with such places, and has all of them
pub record AddsRow (row : List Need) (old new : List ℕ) : Type 0 where
  pub rest : List ℕ
  pub grows : new ≡ old ++ rest
  pub only : (a : ℕ) → Contains rest a → IsHardIn row a
  pub all : (a : ℕ) → IsHardIn row a → Contains new a

-- what is found leads to the place
abbrev pub HasFound : Edges → ℕ → List ℕ → Type 0
HasFound edges of found = (p : ℕ) → Contains found p → HasPath (NeedsHard edges) p of

-- nothing outside needs the place, or what is found, hard
pub record IsClosed (edges : Edges) (of : ℕ) (found : List ℕ) : Type 0 where
  pub all : (a b : ℕ) → NeedsHard edges a b → (b ≡ of) ⊎ Contains found b → Contains found a
