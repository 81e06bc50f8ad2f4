-- How many needs of a place are open, and the least of some places.
use Rattle.std.specs.Prelude.{ℕ, ◌≤◌, ◌≢◌, ◌==◌, ◌&&◌, ◌↔◌, not, Bool, List, nat_eq}
use Rattle.std.specs.List.{Contains, count_by, list_any}
use Rattle.dep_order.specs.declared.Need.{Need}

-- the need is one of the place, to what is not taken
abbrev pub is_waiting : List ℕ → ℕ → Need → Bool
is_waiting taken p e = (e.from == p) && not (list_any (nat_eq e.to) taken)

-- the need is one of the place, to the other place
abbrev pub is_between : ℕ → ℕ → Need → Bool
is_between p q e = (e.from == p) && (e.to == q)

-- how many needs of the place are not taken
abbrev pub waiting : List Need → List ℕ → ℕ → ℕ
waiting needs taken p = count_by (is_waiting taken p) needs

-- the least of the old places is taken out of them
pub record TakesLeast (old new : List ℕ) (p : ℕ) : Type 0 where
  pub taken : Contains old p
  pub least : (q : ℕ) → Contains old q → p ≤ q
  pub others : (q : ℕ) → Contains new q ↔ (Contains old q × (q ≢ p))
