-- Marks change which stop is asked for, and nothing else.
use Rattle.std.proofs.Common.{◌≡◌, List, [], ◌∷◌, map, length, Some, None, Bool, true, false, refl, sym, ap, ◌∙◌, subst}
use Rattle.std.specs.Prelude.{◌&&◌, ◌||◌, if◌then◌else◌, is_some}
use Rattle.std.specs.List.{AllByRecursion}
use Rattle.std.proofs.lemmas.Bool.{or_parts, and_parts}
use Rattle.lifecycle.specs.Awaits.{is_stopping}
use Rattle.lifecycle.specs.declared.kinds.After.TheVariants as after
use Rattle.components.specs.Components.{ComponentState, has_orphan, is_to_stop, is_starting, is_up}
use Rattle.components.specs.Marks.{Flagged, reaching, marked, restarted, may_replan, may_restart}
use Rattle.components.proofs.Whole.{firsts, firsts_reaching}
use Rattle.law_supervisor.proofs.Lists.{not_so, none_of}

-- ---- who may be marked

-- no stop is asked for or under way, and it stands
pub idle_of : (p : ComponentState) → may_replan p ≡ true → (p.stop ≡ None) × (is_stopping p.life.state ≡ false) × (p.life.gone ≡ false)
idle_of p e =
    let o = or_parts (is_to_stop p) p.life.gone (not_so (is_to_stop p || p.life.gone) e) in
    let a = or_parts (is_some p.stop) (is_stopping p.life.state || has_orphan p) o.0 in
    (none_of p.stop a.0, (or_parts (is_stopping p.life.state) (has_orphan p) a.1).0, o.1)

pub may_replan_of : (p : ComponentState) → may_restart p ≡ true → may_replan p ≡ true
may_replan_of p e = (and_parts (is_starting p.life.state || is_up p.life.state) (may_replan p) e).1

pub same_may : (p : ComponentState) → may_replan p ≡ true → may_replan p ≡ true
same_may p e = e

abbrev pub Marks : (ComponentState → Type 0) → Type 0
Marks P = (p : ComponentState) → may_replan p ≡ true → P p → P (record p { stop = Some after.Restart })

marked_all : (P : ComponentState → Type 0) → Marks P → (may : ComponentState → Bool) → ((p : ComponentState) → may p ≡ true → may_replan p ≡ true) →
    (fs : Flagged) → AllByRecursion P (firsts fs) → AllByRecursion P (marked may fs)
marked_all P m may f [] a = tt
marked_all P m may f (x ∷ fs) a = elim (x.1 && may x.0) as (λ (y : Bool). (x.1 && may x.0) ≡ y →
    AllByRecursion P ((if y then record x.0 { stop = Some after.Restart } else x.0) ∷ marked may fs)) [
      | true ↦ λ e. (m x.0 (f x.0 (and_parts x.1 (may x.0) e).1) a.0, marked_all P m may f fs a.1)
      | false ↦ λ e. (a.0, marked_all P m may f fs a.1)
    ] refl

-- what holds of each, and a mark keeps, holds of each behind the marks
pub restarted_all : (P : ComponentState → Type 0) → Marks P → (may : ComponentState → Bool) → ((p : ComponentState) → may p ≡ true → may_replan p ≡ true) →
    (fs : Flagged) → AllByRecursion P (firsts fs) → AllByRecursion P (restarted may fs)
restarted_all P m may f fs a = marked_all P m may f (reaching (length fs) fs)
    (subst (λ (ps : List ComponentState). AllByRecursion P ps) (sym (firsts_reaching (length fs) fs)) a)

marked_same : {X : Type 0} (v : ComponentState → X) → ((p : ComponentState) → v (record p { stop = Some after.Restart }) ≡ v p) →
    (may : ComponentState → Bool) (fs : Flagged) → map v (marked may fs) ≡ map v (firsts fs)
marked_same v m may [] = refl
marked_same v m may (x ∷ fs) = elim (x.1 && may x.0) as (λ (y : Bool). map v ((if y then record x.0 { stop = Some after.Restart } else x.0) ∷ marked may fs)
    ≡ map v (x.0 ∷ firsts fs)) [
      | true ↦ ap (λ z. z ∷ map v (marked may fs)) (m x.0) ∙ ap (λ zs. v x.0 ∷ zs) (marked_same v m may fs)
      | false ↦ ap (λ zs. v x.0 ∷ zs) (marked_same v m may fs)
    ]

-- what no mark changes stays as it is
pub restarted_same : {X : Type 0} (v : ComponentState → X) → ((p : ComponentState) → v (record p { stop = Some after.Restart }) ≡ v p) →
    (may : ComponentState → Bool) (fs : Flagged) → map v (restarted may fs) ≡ map v (firsts fs)
restarted_same v m may fs = marked_same v m may (reaching (length fs) fs) ∙ ap (λ (ps : List ComponentState). map v ps) (firsts_reaching (length fs) fs)
