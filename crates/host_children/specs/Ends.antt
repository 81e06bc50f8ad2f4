-- How children end.
use Rattle.std.specs.Prelude.{Bool, true, Option, None, Some, ℤ}
use Rattle.nuc_base.specs.declared.kinds.Exit.{Exit}
use Rattle.nuc_base.specs.declared.kinds.Exit.TheVariants.{Code, Signal}
use Rattle.step_runner.specs.Waits.{is_own}

-- a child with this code ended by itself, and one without a code by a signal
abbrev pub ended_as : Option ℤ → Exit
ended_as None = Signal
ended_as (Some code) = Code code

-- no end, or one that a child can have by itself
abbrev pub is_own_or_none : Option Exit → Bool
is_own_or_none None = true
is_own_or_none (Some exit) = is_own exit
