-- What looking a value up answers.
use Rattle.std.specs.Prelude.{◌≡◌, ℕ, ◌<◌, List, length, Option, Some, None, Result, MatchResult}
use Rattle.interpolation.specs.declared.fault.ValueFault.{ValueFault}
use Rattle.interpolation.specs.declared.fault.ValueFault.TheVariants.{TooLong, NoMemory}

-- a value is there, and has more than 4,096 bytes
abbrev pub IsLong : Option (List ℕ) → Type 0
IsLong None = ⊥
IsLong (Some given) = 4096 < length given

-- the fault comes only where the value is long, or for want of memory
abbrev pub IsFaultOf : Option (List ℕ) → ValueFault → Type 0
IsFaultOf value TooLong = IsLong value
IsFaultOf value NoMemory = Unit {0}

abbrev pub LookupOutcome : Option (List ℕ) → Result (Option (List ℕ)) ValueFault → Type 0
LookupOutcome value result = MatchResult result (λ found. found ≡ value) (IsFaultOf value)
