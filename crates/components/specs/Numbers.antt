-- Numbers in rising order.
use Rattle.std.specs.Prelude.{◌≡◌, ◌≤◌, ◌+◌, ℕ, nat_lt, Bool, true, List, [], ◌∷◌, length, Option, Some, None, if◌then◌else◌}
use Rattle.std.specs.List.{list_any}
use Rattle.std.specs.Prelude.{◌==◌}
use Rattle.components.specs.Deadlines.{earlier}

abbrev pub among : ℕ → List ℕ → Bool
among n ns = list_any (λ m. m == n) ns

-- the number is above the last one, if there was one
abbrev pub is_above : Option ℕ → ℕ → Bool
is_above None n = true
is_above (Some last) n = nat_lt last n

abbrev pub number_above : Option ℕ → ℕ → Option ℕ
number_above last n = if is_above last n then Some n else None

-- the least number above the last one
abbrev pub least_above : Option ℕ → List ℕ → Option ℕ
least_above last [] = None
least_above last (n ∷ ns) = earlier (number_above last n) (least_above last ns)

-- how many are below it
abbrev pub below : ℕ → List ℕ → ℕ
below n [] = 0
below n (m ∷ ms) = (if nat_lt m n then 1 else 0) + below n ms

-- the number that so many others come before
abbrev pub IsNumberAt : List ℕ → ℕ → Option ℕ → Type 0
IsNumberAt ns at None = length ns ≤ at
IsNumberAt ns at (Some n) = (among n ns ≡ true) × (below n ns ≡ at)
