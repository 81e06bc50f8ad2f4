-- The documents of one group that a device took, each with its revision and with how many reports had been sent before.
use Rattle.std.specs.Prelude.{ℕ, ◌<◌, ◌≤◌, List, [], ◌∷◌, max, nat_lt, if◌then◌else◌}
use Rattle.std.specs.List.{AllByRecursion}
use Rattle.std.specs.List.Sorted.{IsNonDecreasingBy}
use Rattle.fleet_core.specs.declared.history.Taking.{Taking}

-- the greatest revision among those that were taken before report number `reports` less one was sent
abbrev pub level : ℕ → List Taking → ℕ
level reports [] = 0
level reports (t ∷ ts) = if nat_lt t.reports reports then max t.revision (level reports ts) else level reports ts

-- they were taken when at most so many reports had been sent
abbrev pub AreBy : ℕ → List Taking → Type 0
AreBy reports = AllByRecursion (λ t. t.reports ≤ reports)

-- from one to the next neither the number of reports falls nor the revision
pub record IsRising (takings : List Taking) : Type 0 where
  pub reports : IsNonDecreasingBy (λ t. t.reports) takings
  pub revisions : IsNonDecreasingBy (λ t. t.revision) takings
