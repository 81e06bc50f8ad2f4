-- Children of different steps.
use Rattle.std.specs.Prelude.{◌≤◌, ◌+◌, ℕ, List, [], ◌∷◌, if◌then◌else◌}
use Rattle.nuc_base.specs.declared.kinds.Step.{Step}
use Rattle.lifecycle.specs.Awaits.{is_same_step}
use Rattle.components.specs.declared.child.Child.{Child}

-- how many are of the step
abbrev pub count_of : Step → List Child → ℕ
count_of t [] = 0
count_of t (c ∷ cs) = (if is_same_step t c.of then 1 else 0) + count_of t cs

-- of each step there is one at most
abbrev pub IsOnce : List Child → Type 0
IsOnce cs = (t : Step) → count_of t cs ≤ 1
