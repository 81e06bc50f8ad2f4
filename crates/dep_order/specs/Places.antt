-- Places with a mark for each of a count.
use Rattle.std.specs.Prelude.{ℕ, ◌<◌, ◌≡◌, ◌↔◌, Bool, true, false, List, length, nat_eq, slice_index_or}
use Rattle.std.specs.List.{All, Contains, IsDistinct}
use Rattle.dep_order.specs.declared.places.Places.{Places}

-- the marks are those of the places in the list
pub record AreMarks (list : List ℕ) (marks : List Bool) : Type 0 where
  pub each : (p : ℕ) → (slice_index_or marks p false ≡ true) ↔ Contains list p

-- no place stands there twice, each has a mark, and nothing else has
pub record IsTidy (places : Places) : Type 0 where
  pub distinct : IsDistinct nat_eq places.list.items
  pub below : All (λ p. p < length places.marks.items) places.list.items
  pub marks : AreMarks places.list.items places.marks.items
