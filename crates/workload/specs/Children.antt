-- Children that live, the latest first.
use mathlib.Core.HLevel.{×_prop, Unit-prop}
use native.Mathlib.Bridge.{le_prop}
use Rattle.std.specs.Prelude.{ℕ, ℤ, pos, ◌<◌, ◌==◌, ◌%◌, not, List, [], ◌∷◌, map, filter, ⊤, if◌then◌else◌}
use Rattle.workload.specs.declared.children.LivingChild.{LivingChild}

abbrev pub child_of : ℕ → ℤ → LivingChild
child_of number code = record { number = number; code = code }

abbrev pub numbers : List LivingChild → List ℕ
numbers children = map (λ (c : LivingChild). c.number) children

-- those with another number
abbrev pub other_children : ℕ → List LivingChild → List LivingChild
other_children number children = filter (λ (c : LivingChild). not (c.number == number)) children

-- their numbers fall, and are below this one
abbrev pub FallBelow : ℕ → List LivingChild → Type 0
FallBelow bound [] = ⊤
FallBelow bound (c ∷ cs) = (c.number < bound) × FallBelow c.number cs

pub fall_below-prop : (bound : ℕ) (cs : List LivingChild) → IsProp (FallBelow bound cs)
fall_below-prop bound [] = Unit-prop
fall_below-prop bound (c ∷ cs) = ×_prop le_prop (fall_below-prop c.number cs)

-- the code with which a child ends whose start took this draw: one start in eight fails
abbrev pub code_drawn : ℕ → ℤ
code_drawn draw = if draw % 8 == 0 then pos 1 else pos 0
