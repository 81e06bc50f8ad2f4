-- Who waits for those that need it directly waits for those that reach it too.
use Rattle.std.proofs.Common.{◌≡◌, ℕ, List, [], ◌∷◌, ◌++◌, length, map, Bool, true, false, refl, ap, ◌∙◌}
use Rattle.std.specs.Prelude.{◌&&◌, ◌||◌, not}
use Rattle.std.specs.List.{list_any}
use Rattle.std.specs.Str.{bytes_eq}
use Rattle.lifecycle.specs.declared.kinds.After.{After}
use Rattle.lifecycle.specs.declared.kinds.After.TheVariants as after
use Rattle.components.specs.Components.{ComponentState, is_to_stop}
use Rattle.components.specs.Marks.{Flagged, AreFlagsWithin, flagged}
use Rattle.components.specs.Turns.{coming_needs, dependents, direct_dependents, hard_needs, is_held, is_held_far, is_held_for, with_hard_needs}
use Rattle.components.proofs.Closes.{most}
use Rattle.components.proofs.Meets.{none_left, none_right}

-- one that has a flag passes the test
abbrev pub any_flagged : (ComponentState → Bool) → Flagged → Bool
any_flagged t fs = list_any (λ (f : ComponentState × Bool). f.1 && t f.0) fs

none_and : (a b c d : Bool) → (a ≡ true → b ≡ true) → c ≡ d → (b && d) ≡ false → (a && c) ≡ false
none_and true true c d f e h = e ∙ h
none_and true false c d f e h = let g : false ≡ true = f refl in absurd (cc)
none_and false b c d f e h = refl

pub within_none : (t : ComponentState → Bool) (fs hs : Flagged) → AreFlagsWithin fs hs → any_flagged t hs ≡ false → any_flagged t fs ≡ false
within_none t [] [] w e = refl
within_none t [] (h ∷ hs) w e = absurd w
within_none t (f ∷ fs) [] w e = absurd w
within_none t (f ∷ fs) (h ∷ hs) w e =
    let o = none_left (h.1 && t h.0) (any_flagged t hs) e in
    let p = none_right (h.1 && t h.0) (any_flagged t hs) e in
    rw (none_and f.1 h.1 (t f.0) (t h.0) w.1 (ap t w.0) o) (within_none t fs hs w.2 p)

any_prefix : (f : List ℕ → Bool) (xs ys : List (List ℕ)) → list_any f (xs ++ ys) ≡ false → list_any f xs ≡ false
any_prefix f [] ys e = refl
any_prefix f (x ∷ xs) ys e =
    rw (none_left (f x) (list_any f (xs ++ ys)) e) (any_prefix f xs ys (none_right (f x) (list_any f (xs ++ ys)) e))

abbrev needs : List ℕ → ComponentState → Bool
needs name q = list_any (bytes_eq name) q.fitted.hard

none_swapped : (a b c : Bool) → (a && b) ≡ false → (a ≡ false → c ≡ false) → (b && c) ≡ false
none_swapped true true c e f = let g : true ≡ false = e in absurd (cc)
none_swapped true false c e f = refl
none_swapped false true c e f = f refl
none_swapped false false c e f = refl

direct_none : (name : List ℕ) (ps : List ComponentState) → any_flagged is_to_stop (flagged (needs name) (map with_hard_needs ps)) ≡ false →
    is_held name ps ≡ false
direct_none name [] e = refl
direct_none name (p ∷ ps) e =
    let rest : Bool = any_flagged is_to_stop (flagged (needs name) (map with_hard_needs ps)) in
    let o = none_left (list_any (bytes_eq name) (hard_needs p) && is_to_stop p) rest e in
    rw (none_swapped (list_any (bytes_eq name) (hard_needs p)) (is_to_stop p) (list_any (bytes_eq name) p.fitted.hard) o
    (any_prefix (bytes_eq name) p.fitted.hard (coming_needs p)))
    (direct_none name ps (none_right (list_any (bytes_eq name) (hard_needs p) && is_to_stop p) rest e))

pub near_none : (name : List ℕ) (ps : List ComponentState) → is_held_far name ps ≡ false → is_held name ps ≡ false
near_none name ps e =
    direct_none name ps (within_none is_to_stop (direct_dependents name ps) (dependents name ps)
    (most (length (direct_dependents name ps)) (direct_dependents name ps)) e)

by_none : (a b : Bool) → (b ≡ false → a ≡ false) → a ≡ true → b ≡ true
by_none a true f e = refl
by_none a false f e = let g : a ≡ false = f refl in absurd (cc)

pub far_too : (name : List ℕ) (ps : List ComponentState) → is_held name ps ≡ true → is_held_far name ps ≡ true
far_too name ps e = by_none (is_held name ps) (is_held_far name ps) (near_none name ps) e

pub none_direct : (a : After) (name : List ℕ) (ps : List ComponentState) → is_held_for a name ps ≡ false → is_held name ps ≡ false
none_direct after.Restart name ps e = e
none_direct after.Again name ps e = near_none name ps e
none_direct after.Gone name ps e = near_none name ps e

pub none_for : (a : After) (name : List ℕ) (ps : List ComponentState) → is_held_far name ps ≡ false → is_held_for a name ps ≡ false
none_for after.Restart name ps e = near_none name ps e
none_for after.Again name ps e = e
none_for after.Gone name ps e = e
