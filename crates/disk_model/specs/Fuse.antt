-- Which calls a fuse makes fail.
use Rattle.std.specs.Prelude.{◌≡◌, ◌⊎◌, ℕ, ◌+◌, ◌-◌, ◌/◌, ◌^◌, ◌≤◌, min, Contains}
use Rattle.disk_model.specs.declared.fuse.Fuse.{Fuse}

-- the next call is one from the stop on, or one of those that are to fail; calls are counted from 0
abbrev pub IsBlown : Fuse → Type 0
IsBlown f = (f.stop_after ≤ f.calls) ⊎ Contains f.failing f.calls

-- one call more came
pub record IsCounted (old new : Fuse) : Type 0 where
  pub calls : new.calls ≡ min (old.calls + 1) (2 ^ 64 - 1)
  pub stop_after : new.stop_after ≡ old.stop_after
  pub failing : new.failing ≡ old.failing

-- a fault more or none, and nothing else
pub record HasFuse (old new : Fuse) : Type 0 where
  pub calls : new.calls ≡ old.calls
  pub stop_after : new.stop_after ≡ old.stop_after
  pub failing : new.failing ≡ old.failing

-- the middle between two lengths, rounded up
abbrev pub middle : ℕ → ℕ → ℕ
middle old len = (old + len + 1) / 2

-- half of what is asked for beyond this length, rounded down
abbrev pub half_way : ℕ → ℕ → ℕ
half_way old to = old + (to - old) / 2
