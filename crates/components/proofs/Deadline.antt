-- The earliest of several deadlines.
use Rattle.std.proofs.Common.{◌≡◌, ◌≤◌, ◌+◌, ℕ, List, [], ◌∷◌, Option, Some, None, refl, ap, arith}
use Rattle.std.specs.Prelude.{min, IfSome}
use Rattle.std.specs.List.{AllByRecursion}
use Rattle.components.specs.Deadlines.{earlier, child_deadline, least_of}
use Rattle.components.specs.Components.{ComponentState, Child}
use Rattle.components.specs.Readied.{IsNear, AreNear}

min_assoc : (a b c : ℕ) → min (min a b) c ≡ min a (min b c)
min_assoc a b c = omega arith

pub earlier_assoc : (a b c : Option ℕ) → earlier (earlier a b) c ≡ earlier a (earlier b c)
earlier_assoc None b c = refl
earlier_assoc (Some a) None c = refl
earlier_assoc (Some a) (Some b) None = refl
earlier_assoc (Some a) (Some b) (Some c) = ap Some (min_assoc a b c)

abbrev IsBelow : ℕ → Option ℕ → Type 0
IsBelow n o = IfSome o (λ d. d ≤ n)

earlier_below : (n : ℕ) (a b : Option ℕ) → IsBelow n a → IsBelow n b → IsBelow n (earlier a b)
earlier_below n None b h k = k
earlier_below n (Some a) None h k = h
earlier_below n (Some a) (Some b) h k = omega (arith, h, k)

child_near : (m : ℕ) (cs : List Child) → AllByRecursion (IsNear m) cs → IsBelow (m + 1000000000) (child_deadline cs)
child_near m [] h = tt
child_near m (c ∷ cs) h = earlier_below (m + 1000000000) c.deadline (child_deadline cs) h.0 (child_near m cs h.1)

pub least_near : (m : ℕ) (ps : List ComponentState) → AreNear m ps → IsBelow (m + 1000000000) (least_of ps)
least_near m [] h = tt
least_near m (p ∷ ps) h = earlier_below (m + 1000000000) (child_deadline p.children) (least_of ps) (child_near m p.children h.0) (least_near m ps h.1)
