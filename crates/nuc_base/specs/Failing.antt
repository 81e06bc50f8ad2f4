-- What an object in memory keeps of its failing calls.
use Rattle.std.specs.Prelude.{ℕ, ◌≡◌, ◌+◌, ◌-◌, ◌^◌, min, List}
use Rattle.nuc_base.specs.declared.failing.Failing.{Failing}

-- the numbers of the calls that fail
abbrev pub failing_numbers : Failing → List ℕ
failing_numbers f = f.numbers

-- how many calls came
abbrev pub calls_of : Failing → ℕ
calls_of f = f.calls

-- how many faults were answered
abbrev pub faults_of : Failing → ℕ
faults_of f = f.faults

-- one more call came
pub record IsCounted (old new : Failing) : Type 0 where
  pub numbers : failing_numbers new ≡ failing_numbers old
  pub calls : calls_of new ≡ min (calls_of old + 1) (2 ^ 64 - 1)

-- one more fault was answered
pub record IsFaulted (old new : Failing) : Type 0 where
  pub numbers : failing_numbers new ≡ failing_numbers old
  pub calls : calls_of new ≡ calls_of old
  pub faults : faults_of new ≡ min (faults_of old + 1) (2 ^ 64 - 1)
