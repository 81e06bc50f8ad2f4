-- A start that was handed out and is answered is like one that was never handed out.
use Rattle.std.proofs.Common.{◌≡◌, false, ℕ, suc, zero, List, [], ◌∷◌, length, true, refl, ap}
use Rattle.std.specs.List.{AllByRecursion}
use Rattle.nuc_base.specs.declared.kinds.Step.{Step}
use Rattle.components.specs.Components.{Components, ComponentState, At, changed_at}
use Rattle.components.specs.Events.{answered_at, launched, started, with_child}
use Rattle.components.specs.Turns.{is_begun}
use Rattle.law_supervisor.proofs.Lists.{twice}

abbrev pub unhanded : ComponentState → ComponentState
unhanded p = record p { handed = false }

-- a step that is started where no start was handed out
abbrev pub plainly_started : ℕ → Step → ℕ → Components → Components
plainly_started k s n w = launched s k (record w { parts = changed_at k (with_child n s w.moment) w.parts })

pub started_is : (k : ℕ) (s : Step) (n : ℕ) (w : Components) → plainly_started k s n (answered_at k w) ≡ started k s n w
started_is k s n w = ap (λ (ps : List ComponentState). launched s k (record w { parts = ps })) (twice k (with_child n s w.moment) unhanded w.parts)

pub answered_all : (P : ComponentState → Type 0) → ((p : ComponentState) → P p → P (unhanded p)) → (k : ℕ) (ps : List ComponentState) → AllByRecursion P ps →
    AllByRecursion P (changed_at k unhanded ps)
answered_all P f k [] a = tt
answered_all P f zero (p ∷ ps) a = (f p a.0, a.1)
answered_all P f (suc k) (p ∷ ps) a = (a.0, answered_all P f k ps a.1)

pub handed_all : (P : ComponentState → Type 0) → ((p : ComponentState) → P p → P (record p { handed = true })) → (k : ℕ) (ps : List ComponentState) →
    AllByRecursion P ps → AllByRecursion P (changed_at k (λ p. record p { handed = true }) ps)
handed_all P f k [] a = tt
handed_all P f zero (p ∷ ps) a = (f p a.0, a.1)
handed_all P f (suc k) (p ∷ ps) a = (a.0, handed_all P f k ps a.1)

pub answered_length : (k : ℕ) (ps : List ComponentState) → length (changed_at k unhanded ps) ≡ length ps
answered_length k [] = refl
answered_length zero (p ∷ ps) = refl
answered_length (suc k) (p ∷ ps) = ap suc (answered_length k ps)

pub handed_length : (k : ℕ) (ps : List ComponentState) → length (changed_at k (λ p. record p { handed = true }) ps) ≡ length ps
handed_length k [] = refl
handed_length zero (p ∷ ps) = refl
handed_length (suc k) (p ∷ ps) = ap suc (handed_length k ps)

-- it is begun still
pub answered_begun : (k : ℕ) (s : Step) (ps : List ComponentState) → At k (λ p. is_begun s p ≡ true) ps →
    At k (λ p. is_begun s p ≡ true) (changed_at k unhanded ps)
answered_begun k s [] a = absurd a
answered_begun zero s (p ∷ ps) a = a
answered_begun (suc k) s (p ∷ ps) a = answered_begun k s ps a
