-- What falls in one component falls in all, with the marks that it brings.
use Rattle.std.proofs.Common.{◌≡◌, ◌≤◌, ◌+◌, ◌*◌, ℕ, suc, zero, List, [], ◌∷◌, length, Option, Bool, true, false, refl, ap, ◌⊎◌, Some}
use Rattle.std.proofs.Common.{slice_get}
use Rattle.std.specs.List.{AllByRecursion}
use Rattle.nuc_base.specs.declared.kinds.Step.{Step}
use Rattle.lifecycle.specs.declared.kinds.LifeEvent.{LifeEvent}
use Rattle.components.specs.Components.{ComponentState, Child, At, changed_at, is_leaving}
use Rattle.components.specs.Marks.{Flagged}
use Rattle.components.proofs.Whole.{firsts}
use Rattle.law_termination.specs.Rank.{start_weight}
use Rattle.law_termination.proofs.Cores.{gain}

pub length_firsts : (fs : Flagged) → length (firsts fs) ≡ length fs
length_firsts [] = refl
length_firsts (f ∷ fs) = ap suc (length_firsts fs)

pub length_changed : (k : ℕ) (g : ComponentState → ComponentState) (ps : List ComponentState) → length (changed_at k g ps) ≡ length ps
length_changed k g [] = refl
length_changed zero g (p ∷ ps) = refl
length_changed (suc k) g (p ∷ ps) = ap suc (length_changed k g ps)

pub at_map : (k : ℕ) (ps : List ComponentState) (P Q : ComponentState → Type 0) → ((p : ComponentState) → P p → Q p) → At k P ps → At k Q ps
at_map k [] P Q f a = absurd a
at_map zero (p ∷ ps) P Q f a = f p a
at_map (suc k) (p ∷ ps) P Q f a = at_map k ps P Q f a

pub at_both : (k : ℕ) (ps : List ComponentState) (P Q : ComponentState → Type 0) → AllByRecursion P ps → At k Q ps → At k (λ p. P p × Q p) ps
at_both k [] P Q f a = absurd a
at_both zero (p ∷ ps) P Q f a = (f.0, a)
at_both (suc k) (p ∷ ps) P Q f a = at_both k ps P Q f.1 a

pub at_two : (k : ℕ) (ps : List ComponentState) (P Q : ComponentState → Type 0) → At k P ps → At k Q ps → At k (λ p. P p × Q p) ps
at_two k [] P Q a b = absurd a
at_two zero (p ∷ ps) P Q a b = (a, b)
at_two (suc k) (p ∷ ps) P Q a b = at_two k ps P Q a b

pub at_self : (k : ℕ) (ps : List ComponentState) (P : ComponentState → Type 0) → At k P ps → At k (λ p. P p × (slice_get ps k ≡ Some p)) ps
at_self k [] P a = absurd a
at_self zero (p ∷ ps) P a = (a, refl)
at_self (suc k) (p ∷ ps) P a = at_self k ps P a

-- what becomes of the children is paid: by the event, or by themselves
abbrev pub Pays : LifeEvent → Option Step → List Child → List Child → Type 0
Pays e busy cs ds = (((b : Option Step) → gain e b ≡ 5) × (length ds ≤ length cs)) ⊎
    ((3 * length ds + 1 ≤ start_weight busy cs + 3 * length cs) × (length ds ≤ length cs + 1))

-- the mode in which a failure is never forgotten, or the component leaves
abbrev pub IsFallingPart : Bool → ComponentState → Type 0
IsFallingPart b p = (b ≡ false) ⊎ (is_leaving p ≡ true)
