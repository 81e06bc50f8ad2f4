-- What demands say, and which names were reached.
use Rattle.std.specs.Prelude.{◌≡◌, ◌<◌, ◌≤◌, ◌+◌, ◌-◌, ℕ, List, length}
use Rattle.std.specs.List.{All, Contains}
use Rattle.recipe_reader.specs.Members.{Need, Member}
use Rattle.recipe_reader.specs.Sets.{needs_of}
use Rattle.conflict_search.specs.Numbers.{IsNumber}
use Rattle.conflict_search.specs.Claims.{demand_need}
use Rattle.conflict_search.specs.Terms.{Has, IsTerm}
use Rattle.conflict_search.specs.declared.demands.Demand.{Demand}
use Rattle.conflict_search.specs.declared.groups.Group.{Group}
use Rattle.conflict_search.specs.declared.facts.Reached.{Reached}

-- it stands for one of these, and has the number of its name
pub record IsDemandOf (ms : List Member) (needs : List Need) (d : Demand) : Type 0 where
  pub number : IsNumber ms d.name.now d.number
  pub among : Contains needs (demand_need d)

-- each of its values is of a place, of the name with that first place, that has the need
pub record IsGroup (ms : List Member) (first : ℕ) (g : Group) : Type 0 where
  pub number : IsNumber ms g.need.name.now g.need.number
  pub term : IsTerm ms g.by
  pub from : g.by.from ≡ first
  pub only : (v : ℕ) → Has g.by.set.items v → (q : ℕ) × (first ≤ q) × (v ≡ q + 1 - first) × Contains (needs_of ms q) (demand_need g.need)

-- the names are among so many
pub record IsReached (count : ℕ) (reached : Reached) : Type 0 where
  pub marks : length reached.marks.items ≡ count
  pub inside : All (λ k. k < count) reached.numbers.items
