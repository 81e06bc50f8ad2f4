-- Whole numbers from 1 to a bound.
use Rattle.std.specs.Prelude.{◌≡◌, ℕ, ◌≤◌}
use Rattle.serde_json.specs.Data.{Data, number, unsigned}
use Rattle.tree_core.specs.Parts.{IsNumber}
use Rattle.tree_core.specs.declared.count.CountFault.{CountFault}
use Rattle.tree_core.specs.declared.count.CountFault.TheVariants.{NoNumber, OutOfRange}

abbrev pub IsCount : ℕ → Data → Type 0
IsCount most v = (n : ℕ) × (v ≡ number (unsigned n)) × (1 ≤ n) × (n ≤ most)

-- why a value is none
abbrev pub IsNoCount : ℕ → Data → CountFault → Type 0
IsNoCount most v NoNumber = IsNumber v → ⊥
IsNoCount most v OutOfRange = IsNumber v × (IsCount most v → ⊥)
