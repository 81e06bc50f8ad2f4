-- How the deployments of a workload closed, and the line that tells it.
use Rattle.std.specs.Prelude.{ℕ, Bool, true, false, List, ◌++◌, length, filter, codes, decimal}
use Rattle.nuc_base.specs.declared.kinds.Outcome.{Outcome}
use Rattle.nuc_base.specs.declared.kinds.Outcome.TheVariants.{Successful, RollbackComplete, RollbackNotRequested, UnableToRollback}
use Rattle.workload.specs.declared.tallies.Tally.{Tally}

abbrev pub is_success : Outcome → Bool
is_success Successful = true
is_success RollbackComplete = false
is_success RollbackNotRequested = false
is_success UnableToRollback = false

abbrev pub is_rollback : Outcome → Bool
is_rollback Successful = false
is_rollback RollbackComplete = true
is_rollback RollbackNotRequested = false
is_rollback UnableToRollback = false

abbrev pub is_breakage : Outcome → Bool
is_breakage Successful = false
is_breakage RollbackComplete = false
is_breakage RollbackNotRequested = false
is_breakage UnableToRollback = true

-- how many closed so
abbrev pub closed_so : (Outcome → Bool) → List (List ℕ × Outcome) → ℕ
closed_so test closed = length (filter (λ (c : List ℕ × Outcome). test c.1) closed)

abbrev pub tally_of : List (List ℕ × Outcome) → Tally
tally_of closed = record {
  successful = closed_so is_success closed;
  rolled_back = closed_so is_rollback closed;
  broken = closed_so is_breakage closed;
}

abbrev pub tally_line : ℕ → Tally → List ℕ
tally_line seed tally =
    codes "workload " ++ (decimal seed
    ++ (codes ": 32 deployments, " ++ (decimal tally.successful
    ++ (codes " successful, " ++ (decimal tally.rolled_back
    ++ (codes " rolled back, " ++ (decimal tally.broken
    ++ codes " broken\n")))))))
