-- Items of worked rows: their steps end, and components have names of their own.
use Rattle.std.proofs.Common.{◌≡◌, ◌≤◌, ℕ, suc, zero, List, [], ◌∷◌, Option, Some, None, is_some, Bool, true, false, refl, sym, ap, ◌∙◌, subst}
use Rattle.std.proofs.Common.{slice_get}
use Rattle.std.specs.Prelude.{◌&&◌, ◌||◌, not, IfSome, ⊤}
use Rattle.std.specs.List.{list_any}
use Rattle.std.specs.Option.{IsSomeAnd}
use Rattle.std.specs.Str.{bytes_eq}
use Rattle.std.proofs.lemmas.Bool.{and_parts}
use Rattle.nuc_base.specs.declared.kinds.Step.{Step}
use Rattle.nuc_base.specs.declared.kinds.Step.TheVariants as step
use Rattle.lifecycle.specs.Life.{HasOneMain}
use Rattle.components.specs.Components.{ComponentState, component_name}
use Rattle.components.specs.Fitted.{Fitted, limit_of, prepared_of, steps_of}
use Rattle.components.specs.declared.kinds.Prepared.{Prepared}
use Rattle.law_supervisor.specs.Sound.{HaveOwnNames}
use Rattle.law_supervisor.proofs.Lists.{clash, some_same, not_so}
use Rattle.law_termination.specs.Kept.{IsRunnable}
use Rattle.law_termination.proofs.Lists.{any_has}
use Rattle.law_termination.proofs.Near.{has_at, same_bytes}

abbrev pub IsLater : Option ℕ → Type 0
IsLater o = IfSome o (λ l. 1 ≤ l)

-- a step that has a limit of a millisecond at least
abbrev pub Limited : Option Prepared → Type 0
Limited None = ⊤
Limited (Some p) = IsSomeAnd p.limit_ms (λ l. 1 ≤ l)

has : (o : Option Prepared) → Limited o → (not (is_some o) || is_some (limit_of o)) ≡ true
has None h = refl
has (Some p) h = some_so p.limit_ms h
  where
    some_so : (l : Option ℕ) → IsSomeAnd l (λ n. 1 ≤ n) → is_some l ≡ true
    some_so None h = absurd h
    some_so (Some n) h = refl

on_time : (o : Option Prepared) → Limited o → IsLater (limit_of o)
on_time None h = tt
on_time (Some p) h = if_some p.limit_ms h
  where
    if_some : (l : Option ℕ) → IsSomeAnd l (λ n. 1 ≤ n) → IsLater l
    if_some None h = absurd h
    if_some (Some n) h = h

pub runnable : (f : Fitted) → HasOneMain (steps_of f) → IsLater (limit_of f.run) → Limited f.install → Limited f.startup → Limited f.shutdown →
    Limited f.recover → IsRunnable f
runnable f main run install startup shutdown recover = record {
  main = main;
  timely = timely;
  install = has f.install install;
  startup = has f.startup startup;
  shutdown = has f.shutdown shutdown;
  recover = has f.recover recover;
}
  where
    timely : (s : Step) → IsLater (limit_of (prepared_of f s))
    timely step.Install = on_time f.install install
    timely step.Run = run
    timely step.Startup = on_time f.startup startup
    timely step.Shutdown = on_time f.shutdown shutdown
    timely step.Recover = on_time f.recover recover
    timely step.Bootstrap = tt

-- ---- names

abbrev pub all_differ : List ComponentState → Bool
all_differ [] = true
all_differ (p ∷ ps) = not (list_any (λ q. bytes_eq (component_name p) (component_name q)) ps) && all_differ ps

other_name : (p : ComponentState) (ps : List ComponentState) → list_any (λ q. bytes_eq (component_name p) (component_name q)) ps ≡ false →
    (k : ℕ) (q : ComponentState) → slice_get ps k ≡ Some q → {A : Type 0} → component_name p ≡ component_name q → A
other_name p ps e k q s {A} n = clash (bytes_eq (component_name p) (component_name q)) (subst (λ (z : List ℕ). bytes_eq (component_name p) z ≡ true) n
    (same_bytes (component_name p))) (any_has (λ z. bytes_eq (component_name p) (component_name z)) q ps (has_at q ps k s) e)

pub own_names : (ps : List ComponentState) → all_differ ps ≡ true → HaveOwnNames ps
own_names [] e j k p q x y n = absurd (cc)
own_names (a ∷ ps) e zero zero p q x y n = refl
own_names (a ∷ ps) e zero (suc k) p q x y n = other_name a ps (not_so (list_any (λ z. bytes_eq (component_name a) (component_name z)) ps)
    (and_parts (not (list_any (λ z. bytes_eq (component_name a) (component_name z)) ps)) (all_differ ps) e).0) k q y (ap component_name (some_same a p x) ∙ n)
own_names (a ∷ ps) e (suc j) zero p q x y n = other_name a ps (not_so (list_any (λ z. bytes_eq (component_name a) (component_name z)) ps)
    (and_parts (not (list_any (λ z. bytes_eq (component_name a) (component_name z)) ps)) (all_differ ps) e).0) j p x (ap component_name (some_same a q y)
    ∙ sym n)
own_names (a ∷ ps) e (suc j) (suc k) p q x y n = ap suc (own_names ps (and_parts (not (list_any (λ z. bytes_eq (component_name a) (component_name z)) ps))
    (all_differ ps) e).1 j k p q x y n)
