-- The generator: the linear congruential one of MMIX (Knuth, The Art of Computer Programming, volume 2, section 3.3.4).
use Rattle.std.specs.Prelude.{ℕ, ◌+◌, ◌*◌, ◌/◌, ◌%◌, ◌^◌}

abbrev pub multiplier : ℕ
multiplier = 6364136223846793005

abbrev pub increment : ℕ
increment = 1442695040888963407

-- the state after a draw from this one
unfoldable pub next_state : ℕ → ℕ
next_state state = (state * multiplier + increment) % 2 ^ 64

-- what a draw from this state gives: the upper 31 bits of the state after it
unfoldable pub next_draw : ℕ → ℕ
next_draw state = next_state state / 2 ^ 33

-- what is made of draws from a state, and the state after them
pub record Drawing (A : Type 0) : Type 0 where
  pub value : A
  pub state : ℕ
