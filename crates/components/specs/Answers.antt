-- What the calls of a supervisor ask and answer.
use Rattle.std.specs.Prelude.{◌≡◌, ℕ, ◌≤◌, nat_lt, Bool, true, false, not, ◌&&◌, List, [], ◌∷◌, ◌++◌, length, map, filter, Option, Some, None, IsSome}
use Rattle.std.specs.Prelude.{option_map}
use Rattle.std.specs.List.{find, list_any}
use Rattle.nuc_base.specs.declared.kinds.Step.{Step}
use Rattle.components.specs.Components.{Components, ComponentState, Child, At, component_name, owner, is_broken, is_down, is_over}
use Rattle.components.specs.Turns.{is_begun}
use Rattle.components.specs.Numbers.{is_above}
use Rattle.components.specs.declared.kinds.Event.{Event}
use Rattle.components.specs.declared.kinds.Event.TheVariants.{Started, Refused, Skipped, Ended, Passed}
use Rattle.components.specs.declared.kinds.Mode.{Mode}
use Rattle.components.specs.declared.kinds.Mode.TheVariants.{Steady, Deployment}

abbrev pub is_steady : Mode → Bool
is_steady Steady = true
is_steady Deployment = false

-- the start of this step was handed out
abbrev pub HasHanded : ℕ → Step → Components → Type 0
HasHanded k t w = At k (λ p. (p.handed ≡ true) × (is_begun t p ≡ true)) w.parts

-- the event answers a start that was handed out, or a child ended that lives
abbrev pub IsExpected : Components → Event → Type 0
IsExpected w (Started k t n) = HasHanded k t w × (owner n w.parts ≡ None)
IsExpected w (Refused k t) = HasHanded k t w
IsExpected w (Skipped k t) = HasHanded k t w
IsExpected w (Ended n e) = IsSome (owner n w.parts)
IsExpected w Passed = Unit {0}

-- every start that was handed out is answered
abbrev pub has_answered : Components → Bool
has_answered w = not (list_any (λ p. p.handed) w.parts)

-- the least name that is broken
abbrev pub broken_name : Components → Option (List ℕ)
broken_name w = option_map component_name (find (λ p. is_broken p.life.state && not p.life.gone) w.parts)

-- how many are broken, and not to be stopped
abbrev pub broken_count : Components → ℕ
broken_count w = length (filter is_down w.parts)

abbrev pub child_numbers : List Child → List ℕ
child_numbers cs = map (λ (c : Child). c.number) cs

abbrev pub living_numbers : List ComponentState → List ℕ
living_numbers [] = []
living_numbers (p ∷ ps) = child_numbers p.children ++ living_numbers ps

-- the child that so many living ones come before
abbrev pub IsLivingAt : Components → ℕ → Option ℕ → Type 0
IsLivingAt w at None = length (living_numbers w.parts) ≤ at
IsLivingAt w at (Some n) = IsSome (owner n w.parts) × (length (filter (λ m. nat_lt m n) (living_numbers w.parts)) ≡ at)

-- the living child of the least number above the last one
abbrev pub IsNextLiving : Components → Option ℕ → Option ℕ → Type 0
IsNextLiving w last None = (n : ℕ) → IsSome (owner n w.parts) → is_above last n ≡ false
IsNextLiving w last (Some m) = IsSome (owner m w.parts) × (is_above last m ≡ true) × ((n : ℕ) → IsSome (owner n w.parts) → is_above last n ≡ true → m ≤ n)

-- how many components stand
abbrev pub standing_count : Components → ℕ
standing_count w = length (filter (λ p. not (is_over p)) w.parts)
