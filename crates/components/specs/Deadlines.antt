-- By when a step has to end.
use Rattle.std.specs.Prelude.{ℕ, ◌+◌, ◌-◌, ◌^◌, Bool, false, nat_le, List, [], ◌∷◌, min, Option, Some, None}
use Rattle.components.specs.Components.{Child, ComponentState, Components}

-- the deadline of a step with a limit, which was started at this moment
abbrev pub deadline_after : Option ℕ → ℕ → Option ℕ
deadline_after None moment = None
deadline_after (Some limit) moment = Some (min (moment + limit) (2 ^ 62 - 1))

abbrev pub has_passed : ℕ → Option ℕ → Bool
has_passed moment None = false
has_passed moment (Some deadline) = nat_le deadline moment

abbrev pub earlier : Option ℕ → Option ℕ → Option ℕ
earlier None b = b
earlier (Some a) None = Some a
earlier (Some a) (Some b) = Some (min a b)

abbrev pub child_deadline : List Child → Option ℕ
child_deadline [] = None
child_deadline (c ∷ cs) = earlier c.deadline (child_deadline cs)

abbrev pub least_of : List ComponentState → Option ℕ
least_of [] = None
least_of (p ∷ ps) = earlier (child_deadline p.children) (least_of ps)

-- the least deadline of a living step
abbrev pub least_deadline : Components → Option ℕ
least_deadline w = least_of w.parts

-- the time to it, or 1,000 ms
abbrev pub until : Option ℕ → ℕ → ℕ
until None moment = 1000
until (Some deadline) moment = deadline - moment
