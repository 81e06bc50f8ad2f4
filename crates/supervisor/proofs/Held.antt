-- Who is held back from a stop, by flags that spread from those that are to be stopped to those that they need.
use Rattle.std.proofs.Common.{◌≡◌, ◌<◌, ◌≤◌, ◌+◌, ℕ, suc, zero, List, [], ◌∷◌, ◌++◌, length, map, Bool, true, false, Option, Some, None, refl, sym, ap, ◌∙◌}
use Rattle.std.proofs.Common.{arith, subst, get_or, slice_get, ◌⊎◌, inl, inr, replicate, take, add-one}
use Rattle.std.proofs.Math.ListN.{set}
use Rattle.std.specs.Prelude.{◌&&◌, ◌||◌, not, if◌then◌else◌, IfSome}
use Rattle.std.specs.List.{AllByRecursion, list_any}
use Rattle.std.specs.Str.{bytes_eq}
use Rattle.std.proofs.lemmas.Bool.{or_left, or_right, or_cases, cases_eq}
use Rattle.std.proofs.lemmas.Option.{slice_get-get_or}
use Rattle.lifecycle.specs.Awaits.{is_awaited}
use Rattle.lifecycle.specs.declared.kinds.After.{After}
use Rattle.lifecycle.specs.declared.kinds.LifeEvent.TheVariants as event
use Rattle.components.specs.Components.{At, ComponentState, Components, component_name, has_orphan, is_again, is_gone, is_to_stop, place_from, place_of}
use Rattle.components.specs.Flags.{free}
use Rattle.components.specs.Marks.{Flagged, IsClosedBack, AreFlagsWithin, flagged, grown, is_flagged, needs_flagged}
use Rattle.components.specs.Readied.{AreNamesApart}
use Rattle.components.specs.Rows.{is_stop_ready}
use Rattle.components.specs.Turns.{dependents, direct_dependents, hard_needs, is_held_far, is_held_for, is_unstarted, may_stop, with_hard_needs}
use Rattle.components.proofs.Closes.{closes, flagged_more, least, most}
use Rattle.components.proofs.Each.{at_below}
use Rattle.components.proofs.Held.{any_flagged, within_none}
use Rattle.components.proofs.Names.{name_same, same_name}
use Rattle.supervisor.specs.Holds.{AreFlagsAdded, AreAskedHeld, AreHeld, AreNamesHeld, HaveFlags}
use Rattle.supervisor.specs.Holds.{HasHeld, IsClosedAhead, IsFlagged, ShowAsked, ShowHeld, asks_for_good}
use Rattle.supervisor.specs.Holds.{holds_others}
use Rattle.supervisor.proofs.Deeds.{part_at, place_is}

-- ---- who is held

abbrev needs : List ℕ → ComponentState → Bool
needs n q = list_any (bytes_eq n) q.fitted.hard

both_true : (a b : Bool) → a ≡ true → b ≡ true → (a && b) ≡ true
both_true true b e f = f
both_true false b e f = absurd (cc)

by_none : (a b : Bool) → (b ≡ false → a ≡ false) → a ≡ true → b ≡ true
by_none a true f e = refl
by_none a false f e = let g : a ≡ false = f refl in absurd (cc)

within_any : (t : ComponentState → Bool) (fs hs : Flagged) → AreFlagsWithin fs hs → any_flagged t fs ≡ true → any_flagged t hs ≡ true
within_any t fs hs w e = by_none (any_flagged t fs) (any_flagged t hs) (within_none t fs hs w) e

direct_any : (n : List ℕ) (k : ℕ) (ps : List ComponentState) (q : ComponentState) → slice_get ps k ≡ Some q → is_to_stop q ≡ true →
    list_any (bytes_eq n) (hard_needs q) ≡ true → any_flagged is_to_stop (flagged (needs n) (map with_hard_needs ps)) ≡ true
direct_any n k [] q e s h = absurd (cc)
direct_any n zero (p ∷ ps) q e s h =
    let r : p ≡ q = cc in
    or_left (list_any (bytes_eq n) (hard_needs p) && is_to_stop p) (any_flagged is_to_stop (flagged (needs n) (map with_hard_needs ps)))
    (subst (λ (x : ComponentState). (list_any (bytes_eq n) (hard_needs x) && is_to_stop x) ≡ true) (sym r)
    (both_true (list_any (bytes_eq n) (hard_needs q)) (is_to_stop q) h s))
direct_any n (suc k) (p ∷ ps) q e s h =
    or_right (list_any (bytes_eq n) (hard_needs p) && is_to_stop p) (any_flagged is_to_stop (flagged (needs n) (map with_hard_needs ps)))
    (direct_any n k ps q e s h)

-- by one that is to be stopped and needs it
held_by : (n : List ℕ) (k : ℕ) (ps : List ComponentState) (q : ComponentState) → slice_get ps k ≡ Some q → is_to_stop q ≡ true →
    list_any (bytes_eq n) (hard_needs q) ≡ true → is_held_far n ps ≡ true
held_by n k ps q e s h = within_any is_to_stop (direct_dependents n ps) (dependents n ps) (most (length (direct_dependents n ps)) (direct_dependents n ps))
    (direct_any n k ps q e s h)

direct_flag : (n : List ℕ) (k : ℕ) (ps : List ComponentState) (q : ComponentState) → slice_get ps k ≡ Some q →
    list_any (bytes_eq n) (hard_needs q) ≡ true → is_flagged (component_name q) (flagged (needs n) (map with_hard_needs ps)) ≡ true
direct_flag n k [] q e h = absurd (cc)
direct_flag n zero (p ∷ ps) q e h =
    let r : p ≡ q = cc in
    or_left (list_any (bytes_eq n) (hard_needs p) && bytes_eq (component_name p) (component_name q))
    (is_flagged (component_name q) (flagged (needs n) (map with_hard_needs ps)))
    (subst (λ (x : ComponentState). (list_any (bytes_eq n) (hard_needs x) && bytes_eq (component_name x) (component_name q)) ≡ true) (sym r)
    (both_true (list_any (bytes_eq n) (hard_needs q)) (bytes_eq (component_name q) (component_name q)) h
    (name_same (component_name q) (component_name q) refl)))
direct_flag n (suc k) (p ∷ ps) q e h =
    or_right (list_any (bytes_eq n) (hard_needs p) && bytes_eq (component_name p) (component_name q))
    (is_flagged (component_name q) (flagged (needs n) (map with_hard_needs ps))) (direct_flag n k ps q e h)

needs_named : (m : List ℕ) (ns : List (List ℕ)) (fs : Flagged) → list_any (bytes_eq m) ns ≡ true → is_flagged m fs ≡ true → needs_flagged ns fs ≡ true
needs_named m [] fs h e = absurd (cc)
needs_named m (n ∷ ns) fs h e = elim (or_cases (bytes_eq m n) (list_any (bytes_eq m) ns) h) [
  | inl a ↦ or_left (is_flagged n fs) (needs_flagged ns fs) (subst (λ (x : List ℕ). is_flagged x fs ≡ true) (same_name m n a) e)
  | inr a ↦ or_right (is_flagged n fs) (needs_flagged ns fs) (needs_named m ns fs a e)
]

head_flag : (all hs : Flagged) (h : ComponentState × Bool) → grown all (h ∷ hs) ≡ h ∷ hs → (h.1 || needs_flagged h.0.fitted.hard all) ≡ h.1
head_flag all hs h c = ap (λ (fs : Flagged). elim fs [ [] ↦ false | ◌∷◌ f gs ↦ f.1 ]) c

tail_flags : (all hs : Flagged) (h : ComponentState × Bool) → grown all (h ∷ hs) ≡ h ∷ hs → grown all hs ≡ hs
tail_flags all hs h c = ap (λ (fs : Flagged). elim fs [ [] ↦ [] | ◌∷◌ f gs ↦ gs ]) c

-- in what is closed and has this name, those have a flag that need it
closed_needs : (n m : List ℕ) (all hs : Flagged) (qs : List ComponentState) → AreFlagsWithin (flagged (needs n) qs) hs → grown all hs ≡ hs
    → is_flagged m all ≡ true →
    AreFlagsWithin (flagged (needs m) qs) hs
closed_needs n m all [] [] w c e = tt
closed_needs n m all (h ∷ hs) [] w c e = absurd w
closed_needs n m all [] (q ∷ qs) w c e = absurd w
closed_needs n m all (h ∷ hs) (q ∷ qs) w c e = (
  w.0,
  (λ f. sym (head_flag all hs h c) ∙ or_right h.1 (needs_flagged h.0.fitted.hard all)
      (subst (λ (x : ComponentState). needs_flagged x.fitted.hard all ≡ true) w.0 (needs_named m q.fitted.hard all f e))),
  closed_needs n m all hs qs w.2 (tail_flags all hs h c) e,
)

-- by one that is held itself and needs it
held_through : (n : List ℕ) (k : ℕ) (ps : List ComponentState) (q : ComponentState) → slice_get ps k ≡ Some q → is_held_far (component_name q) ps ≡ true →
    list_any (bytes_eq n) (hard_needs q) ≡ true → is_held_far n ps ≡ true
held_through n k ps q e s h =
    let m : List ℕ = component_name q in
    let first : Flagged = direct_dependents n ps in
    let all : Flagged = dependents n ps in
    let w : AreFlagsWithin first all = most (length first) first in
    let c : IsClosedBack all = closes first in
    let f : is_flagged m all ≡ true = flagged_more m first all w (direct_flag n k ps q e h) in
    let v : AreFlagsWithin (direct_dependents m ps) all = closed_needs n m all all (map with_hard_needs ps) w c f in
    within_any is_to_stop (dependents m ps) all (least (length (direct_dependents m ps)) (direct_dependents m ps) all v c) s

all_named : (P : List ℕ → Type 0) (ns : List (List ℕ)) → ((n : List ℕ) → list_any (bytes_eq n) ns ≡ true → P n) → AllByRecursion P ns
all_named P [] f = tt
all_named P (n ∷ ns) f = (
  f n (or_left (bytes_eq n n) (list_any (bytes_eq n) ns) (name_same n n refl)),
  all_named P ns (λ m e. f m (or_right (bytes_eq m n) (list_any (bytes_eq m) ns) e)),
)

-- whoever holds others holds all that it needs
pub holds_needs : (ps : List ComponentState) (bs : List Bool) (k : ℕ) (q : ComponentState) → slice_get ps k ≡ Some q → AreHeld ps bs →
    holds_others bs k q ≡ true → AreNamesHeld ps (hard_needs q)
holds_needs ps bs k q e a h = all_named (λ n. is_held_far n ps ≡ true) (hard_needs q) (λ n i. elim (or_cases (get_or bs k false) (is_to_stop q) h) [
  | inl x ↦ held_through n k ps q e (a k q e x) i
  | inr x ↦ held_by n k ps q e x i
])

-- ---- who is not held

one_named : (P : List ℕ → Type 0) (n : List ℕ) (ns : List (List ℕ)) → AllByRecursion P ns → list_any (bytes_eq n) ns ≡ true → P n
one_named P n [] a e = absurd (cc)
one_named P n (m ∷ ms) a e = elim (or_cases (bytes_eq n m) (list_any (bytes_eq n) ms) e) [
  | inl x ↦ subst P (sym (same_name n m x)) a.0
  | inr x ↦ one_named P n ms a.1 x
]

-- those that hold nobody
abbrev unheld : (ℕ → Bool) → List ComponentState → Flagged
unheld f [] = []
unheld f (p ∷ ps) = (with_hard_needs p, not (f zero || is_to_stop p)) ∷ unheld (λ i. f (suc i)) ps

-- whoever holds others is so
abbrev Hold : (ℕ → Bool) → List ComponentState → (List (List ℕ) → Type 0) → Type 0
Hold f ps P = (k : ℕ) (p : ComponentState) → slice_get ps k ≡ Some p → (f k || is_to_stop p) ≡ true → P (hard_needs p)

not_true : (b : Bool) → (b ≡ true → ⊥) → not b ≡ true
not_true true f = absurd (f refl)
not_true false f = refl

unheld_first : (n : List ℕ) (f : ℕ → Bool) (ps : List ComponentState) → Hold f ps (λ ns. list_any (bytes_eq n) ns ≡ true → ⊥) →
    AreFlagsWithin (flagged (needs n) (map with_hard_needs ps)) (unheld f ps)
unheld_first n f [] h = tt
unheld_first n f (p ∷ ps) h = (
  refl,
  (λ e. not_true (f zero || is_to_stop p) (λ x. h zero p refl x e)),
  unheld_first n (λ i. f (suc i)) ps (λ k q. h (suc k) q),
)

or_none : (a b : Bool) → (a ≡ false → b ≡ false) → (a || b) ≡ a
or_none true b f = refl
or_none false b f = f refl

not_false : (b : Bool) → not b ≡ false → b ≡ true
not_false true e = refl
not_false false e = absurd (cc)

unheld_closed : (all : Flagged) (f : ℕ → Bool) (ps : List ComponentState) → Hold f ps (λ ns. needs_flagged ns all ≡ false) →
    grown all (unheld f ps) ≡ unheld f ps
unheld_closed all f [] h = refl
unheld_closed all f (p ∷ ps) h =
    let b : Bool = not (f zero || is_to_stop p) in
    let e : (b || needs_flagged (hard_needs p) all) ≡ b =
    or_none b (needs_flagged (hard_needs p) all) (λ x. h zero p refl (not_false (f zero || is_to_stop p) x)) in
    ap (λ (x : Bool). (with_hard_needs p, x) ∷ grown all (unheld (λ i. f (suc i)) ps)) e
    ∙ ap (λ (fs : Flagged). (with_hard_needs p, b) ∷ fs) (unheld_closed all (λ i. f (suc i)) ps (λ k q. h (suc k) q))

not_flagged : (n : List ℕ) (f : ℕ → Bool) (ps : List ComponentState) →
    ((k : ℕ) (p : ComponentState) → slice_get ps k ≡ Some p → component_name p ≡ n → f k ≡ true) → is_flagged n (unheld f ps) ≡ false
not_flagged n f [] h = refl
not_flagged n f (p ∷ ps) h =
    rw (none_here (f zero) (is_to_stop p) (bytes_eq (component_name p) n) (λ e. h zero p refl (same_name (component_name p) n e)))
    (not_flagged n (λ i. f (suc i)) ps (λ k q. h (suc k) q))
  where
    none_here : (a b c : Bool) → (c ≡ true → a ≡ true) → (not (a || b) && c) ≡ false
    none_here true b c g = refl
    none_here false true c g = refl
    none_here false false true g = let x : false ≡ true = g refl in absurd (cc)
    none_here false false false g = refl

none_flagged : (ns : List (List ℕ)) (fs : Flagged) → AllByRecursion (λ n. is_flagged n fs ≡ false) ns → needs_flagged ns fs ≡ false
none_flagged [] fs a = refl
none_flagged (n ∷ ns) fs a = rw a.0 (none_flagged ns fs a.1)

all_more : (P Q : List ℕ → Type 0) (ns : List (List ℕ)) → ((n : List ℕ) → P n → Q n) → AllByRecursion P ns → AllByRecursion Q ns
all_more P Q [] f a = tt
all_more P Q (n ∷ ns) f a = (f n a.0, all_more P Q ns f a.1)

none_to_stop : (f : ℕ → Bool) (ps : List ComponentState) → any_flagged is_to_stop (unheld f ps) ≡ false
none_to_stop f [] = refl
none_to_stop f (p ∷ ps) = rw (none (f zero) (is_to_stop p)) (none_to_stop (λ i. f (suc i)) ps) where
  none : (a b : Bool) → (not (a || b) && b) ≡ false
  none true b = refl
  none false true = refl
  none false false = refl

flag_of : (ps : List ComponentState) (bs : List Bool) (k : ℕ) (p : ComponentState) (n : List ℕ) → AreNamesApart (map component_name ps) →
    slice_get ps k ≡ Some p → component_name p ≡ n → IsFlagged ps bs n → get_or bs k false ≡ true
flag_of ps bs k p n u e q h =
    let o : place_of n ps ≡ Some k = subst (λ (m : List ℕ). place_of m ps ≡ Some k) q (place_is 0 k p ps e u ∙ ap (λ (i : ℕ). Some i)
    (let z : 0 + k ≡ k = omega arith in z)) in
    subst (λ (x : Option ℕ). IfSome x (λ i. get_or bs i false ≡ true)) o h

-- what is closed has all that are held
pub closed_held : (ps : List ComponentState) (bs : List Bool) → AreNamesApart (map component_name ps) → IsClosedAhead ps bs → (k : ℕ) (c : ComponentState) →
    slice_get ps k ≡ Some c → get_or bs k false ≡ false → is_held_far (component_name c) ps ≡ false
closed_held ps bs u a k c e n =
    let f : ℕ → Bool = λ i. get_or bs i false in
    let m : List ℕ = component_name c in
    let hs : Flagged = unheld f ps in
    let w : AreFlagsWithin (direct_dependents m ps) hs = unheld_first m f ps (λ i p g h x.
    let y : get_or bs k false ≡ true = flag_of ps bs k c m u e refl (one_named (IsFlagged ps bs) m (hard_needs p) (a i p g h) x) in
    clash (get_or bs k false) y n) in
    let d : IsClosedBack hs = unheld_closed hs f ps (λ i p g h. none_flagged (hard_needs p) hs (all_more (IsFlagged ps bs) (λ z. is_flagged z hs ≡ false)
    (hard_needs p) (λ z x. not_flagged z f ps (λ j q y r. flag_of ps bs j q z u y r x)) (a i p g h))) in
    within_none is_to_stop (dependents m ps) hs (least (length (direct_dependents m ps)) (direct_dependents m ps) hs w d) (none_to_stop f ps)
  where
    clash : (b : Bool) → b ≡ true → b ≡ false → ⊥
    clash true x y = absurd (cc)
    clash false x y = absurd (cc)

pub shows : (ps : List ComponentState) (bs : List Bool) → AreNamesApart (map component_name ps) → IsClosedAhead ps bs → AreHeld ps bs → ShowHeld ps bs
shows ps bs u a h = λ k p e. both (get_or bs k false) (is_held_far (component_name p) ps) (h k p e) (closed_held ps bs u a k p e) where
  both : (a b : Bool) → (a ≡ true → b ≡ true) → (a ≡ false → b ≡ false) → a ≡ b
  both true b f g = sym (f refl)
  both false b f g = sym (g refl)

-- ---- one step

pub adds_none : (bs : List Bool) → AreFlagsAdded bs bs
adds_none bs = record { many = refl; more = λ k e. e; fewer = omega arith }

pub adds_more : (ls bs cs : List Bool) → AreFlagsAdded ls bs → AreFlagsAdded bs cs → AreFlagsAdded ls cs
adds_more ls bs cs a b =
    let f = a.fewer in
    let g = b.fewer in
    record { many = b.many ∙ a.many; more = λ k e. b.more k (a.more k e); fewer = omega (arith, f, g) }

pub holds_none : (ps : List ComponentState) (bs : List Bool) (had : Bool) → HasHeld ps bs bs had had
holds_none ps bs had = record { adds = adds_none bs; kept = λ e. e; same = λ e k p g. refl; less = omega arith }

kept_back : (a b : Bool) → (a ≡ true → b ≡ true) → b ≡ false → a ≡ false
kept_back true b f e = let g : b ≡ true = f refl in absurd (cc)
kept_back false b f e = refl

pub holds_more : (ps : List ComponentState) (ls bs cs : List Bool) (x y z : Bool) → HasHeld ps ls bs x y → HasHeld ps bs cs y z → HasHeld ps ls cs x z
holds_more ps ls bs cs x y z a b =
    let f = a.less in
    let g = b.less in
    record {
      adds = adds_more ls bs cs a.adds b.adds;
      kept = λ e. b.kept (a.kept e);
      same = λ e k p h. b.same e k p h ∙ a.same (kept_back y z b.kept e) k p h;
      less = omega (arith, f, g);
    }

got_set : (bs : List Bool) (k : ℕ) → k < length bs → get_or (set bs k true) k false ≡ true
got_set [] k l = absurd (omega (arith, l))
got_set (b ∷ bs) zero l = refl
got_set (b ∷ bs) (suc k) l = got_set bs k (omega (arith, l))

set_more : (bs : List Bool) (k i : ℕ) → get_or bs i false ≡ true → get_or (set bs k true) i false ≡ true
set_more [] k i e = e
set_more (b ∷ bs) zero zero e = refl
set_more (b ∷ bs) zero (suc i) e = e
set_more (b ∷ bs) (suc k) zero e = e
set_more (b ∷ bs) (suc k) (suc i) e = set_more bs k i e

-- another flag is as it was
set_other : (bs : List Bool) (k i : ℕ) → get_or (set bs k true) i false ≡ true → (i ≡ k) ⊎ (get_or bs i false ≡ true)
set_other [] k i e = inr e
set_other (b ∷ bs) zero zero e = inl refl
set_other (b ∷ bs) zero (suc i) e = inr e
set_other (b ∷ bs) (suc k) zero e = inr e
set_other (b ∷ bs) (suc k) (suc i) e = elim (set_other bs k i e) [ inl x ↦ inl (ap suc x) | inr x ↦ inr x ]

length_set : (bs : List Bool) (k : ℕ) → length (set bs k true) ≡ length bs
length_set [] k = refl
length_set (b ∷ bs) zero = refl
length_set (b ∷ bs) (suc k) = ap suc (length_set bs k)

free_set : (bs : List Bool) (k : ℕ) → k < length bs → free (set bs k true) + (if get_or bs k false then 0 else 1) ≡ free bs
free_set [] k l = absurd (omega (arith, l))
free_set (true ∷ bs) zero l = omega arith
free_set (false ∷ bs) zero l = omega arith
free_set (b ∷ bs) (suc k) l = let i = free_set bs k (omega (arith, l)) in omega (arith, i)

adds_set : (bs : List Bool) (k : ℕ) → k < length bs → AreFlagsAdded bs (set bs k true)
adds_set bs k l =
    let i = free_set bs k l in
    record { many = length_set bs k; more = set_more bs k; fewer = omega (arith, i) }

less_by : (new old : ℕ) (b t had : Bool) → new + (if b then 0 else 1) ≡ old →
    new + (if (not b && not t) || had then 1 else 0) ≤ old + (if had then 1 else 0)
less_by new old true t had e = omega (arith, e)
less_by new old false true had e = omega (arith, e)
less_by new old false false true e = omega (arith, e)
less_by new old false false false e = omega (arith, e)

kept_by : (g had : Bool) → had ≡ true → (g || had) ≡ true
kept_by true had e = refl
kept_by false had e = e

or_same : (b c t : Bool) → (b ≡ true → c ≡ true) → (c ≡ true → t ≡ true ⊎ b ≡ true) → (c || t) ≡ (b || t)
or_same true true t f g = refl
or_same true false t f g = let x : false ≡ true = f refl in absurd (cc)
or_same false true t f g = elim (g refl) [ inl e ↦ sym e | inr e ↦ absurd (cc) ]
or_same false false t f g = refl

grew_not : (b t had : Bool) → ((not b && not t) || had) ≡ false → b ≡ false → t ≡ true
grew_not true t had e f = absurd (cc)
grew_not false true had e f = refl
grew_not false false had e f = absurd (cc)

some_part : (p q : ComponentState) → Some p ≡ Some q → p ≡ q
some_part p q e = ap (λ (o : Option ComponentState). elim o [ None ↦ p | Some r ↦ r ]) e

pub holds_set : (ps : List ComponentState) (bs : List Bool) (k : ℕ) (p : ComponentState) (grew had : Bool) → k < length bs → slice_get ps k ≡ Some p →
    grew ≡ (not (get_or bs k false) && not (is_to_stop p)) → HasHeld ps bs (set bs k true) had (grew || had)
holds_set ps bs k p grew had l e g = record {
  adds = adds_set bs k l;
  kept = kept_by grew had;
  same = λ n i q h. or_same (get_or bs i false) (get_or (set bs k true) i false) (is_to_stop q) (set_more bs k i) (λ y. same_by n i q h (set_other bs k i y));
  less = subst (λ (x : Bool). free (set bs k true) + (if x || had then 1 else 0) ≤ free bs + (if had then 1 else 0)) (sym g)
      (less_by (free (set bs k true)) (free bs) (get_or bs k false) (is_to_stop p) had (free_set bs k l));
}
  where
    flag_or_stop : (b t x : Bool) → x ≡ (not b && not t) → (x || had) ≡ false → (t ≡ true) ⊎ (b ≡ true)
    flag_or_stop true t x q n = inr refl
    flag_or_stop false true x q n = inl refl
    flag_or_stop false false x q n = let y : (true || had) ≡ false = subst (λ (z : Bool). (z || had) ≡ false) q n in absurd (cc)

    same_by : (grew || had) ≡ false → (i : ℕ) (q : ComponentState) → slice_get ps i ≡ Some q → ((i ≡ k) ⊎ (get_or bs i false ≡ true)) →
        (is_to_stop q ≡ true) ⊎ (get_or bs i false ≡ true)
    same_by n i q h (inr y) = inr y
    same_by n i q h (inl y) =
        let r : p ≡ q = some_part p q (sym e ∙ ap (λ (j : ℕ). slice_get ps j) (sym y) ∙ h) in
        subst (λ (j : ℕ). (is_to_stop q ≡ true) ⊎ (get_or bs j false ≡ true)) (sym y)
        (subst (λ (x : ComponentState). (is_to_stop x ≡ true) ⊎ (get_or bs k false ≡ true)) r (flag_or_stop (get_or bs k false) (is_to_stop p) grew g n))

pub held_set : (ps : List ComponentState) (bs : List Bool) (k : ℕ) (p : ComponentState) → slice_get ps k ≡ Some p → is_held_far (component_name p) ps ≡ true →
    AreHeld ps bs → AreHeld ps (set bs k true)
held_set ps bs k p e h a = λ i q g y. elim (set_other bs k i y) [
  | inl x ↦ (let r : p ≡ q = some_part p q (sym e ∙ ap (λ (j : ℕ). slice_get ps j) (sym x) ∙ g) in
      subst (λ (z : ComponentState). is_held_far (component_name z) ps ≡ true) r h)
  | inr x ↦ a i q g x
]

-- the one that stands at a name's place has it
pub named_from : (n : List ℕ) (j k : ℕ) (ps : List ComponentState) → place_from j n ps ≡ Some k → (i : ℕ) × (k ≡ j + i) × At i (λ p. component_name p ≡ n) ps
named_from n j k [] e = absurd (cc)
named_from n j k (p ∷ ps) e = by_name (bytes_eq n (component_name p)) refl e (named_from n (j + 1) k ps) where
  by_name : (b : Bool) → bytes_eq n (component_name p) ≡ b → ◌≡◌ {A = Option ℕ} (if b then Some j else place_from (j + 1) n ps) (Some k) →
      (place_from (j + 1) n ps ≡ Some k → (i : ℕ) × (k ≡ (j + 1) + i) × At i (λ q. component_name q ≡ n) ps) →
      (i : ℕ) × (k ≡ j + i) × At i (λ q. component_name q ≡ n) (p ∷ ps)
  by_name true h f g =
      let q : j ≡ k = cc in
      (0, (let x : k ≡ j + 0 = omega (arith, q) in x), sym (same_name n (component_name p) h))
  by_name false h f g =
      let r = g f in
      let q = r.1 in
      (suc r.0, (let x : k ≡ j + suc r.0 = omega (arith, q) in x), r.2)

pub named_place : (n : List ℕ) (k : ℕ) (ps : List ComponentState) → place_of n ps ≡ Some k → At k (λ p. component_name p ≡ n) ps
named_place n k ps e =
    let r = named_from n 0 k ps e in
    let q = r.1 in
    subst (λ (i : ℕ). At i (λ p. component_name p ≡ n) ps) (let g : r.0 ≡ k = omega (arith, q) in g) r.2

pub flag_set : (n : List ℕ) (ps : List ComponentState) (bs : List Bool) (k : ℕ) → place_of n ps ≡ Some k → k < length bs → IsFlagged ps (set bs k true) n
flag_set n ps bs k e l = subst (λ (o : Option ℕ). IfSome o (λ i. get_or (set bs k true) i false ≡ true)) (sym e) (got_set bs k l)

pub flag_none : (n : List ℕ) (ps : List ComponentState) (bs : List Bool) → place_of n ps ≡ None → IsFlagged ps bs n
flag_none n ps bs e = subst (λ (o : Option ℕ). IfSome o (λ i. get_or bs i false ≡ true)) (sym e) tt

-- ---- all that one needs

flag_later : (n : List ℕ) (ps : List ComponentState) (bs cs : List Bool) → AreFlagsAdded bs cs → IsFlagged ps bs n → IsFlagged ps cs n
flag_later n ps bs cs a h = later (place_of n ps) h where
  later : (o : Option ℕ) → IfSome o (λ i. get_or bs i false ≡ true) → IfSome o (λ i. get_or cs i false ≡ true)
  later None g = tt
  later (Some i) g = a.more i g

pub flags_later : (ps : List ComponentState) (bs cs : List Bool) (ns : List (List ℕ)) → AreFlagsAdded bs cs → HaveFlags ps bs ns → HaveFlags ps cs ns
flags_later ps bs cs ns a h = all_more (IsFlagged ps bs) (IsFlagged ps cs) ns (λ n. flag_later n ps bs cs a) h

pub all_joined : (P : List ℕ → Type 0) (xs ys : List (List ℕ)) → AllByRecursion P xs → AllByRecursion P ys → AllByRecursion P (xs ++ ys)
all_joined P [] ys a b = b
all_joined P (x ∷ xs) ys a b = (a.0, all_joined P xs ys a.1 b)

pub all_prefix : (P : List ℕ → Type 0) (xs ys : List (List ℕ)) → AllByRecursion P (xs ++ ys) → AllByRecursion P xs
all_prefix P [] ys a = tt
all_prefix P (x ∷ xs) ys a = (a.0, all_prefix P xs ys a.1)

pub all_back : (P : List ℕ → Type 0) (xs ys : List (List ℕ)) → AllByRecursion P (xs ++ ys) → AllByRecursion P ys
all_back P [] ys a = a
all_back P (x ∷ xs) ys a = all_back P xs ys a.1

-- ---- as the code goes

pub at_one : (P : ComponentState → Type 0) (k : ℕ) (ps : List ComponentState) (p : ComponentState) → slice_get ps k ≡ Some p → At k P ps → P p
at_one P k ps p e h =
    let x = part_at P k ps h in
    subst P (some_part x.0 p (sym x.1 ∙ e)) x.2

pub placed_at : (n : List ℕ) (k : ℕ) (ps : List ComponentState) → AreNamesApart (map component_name ps) →
    At k (λ p. bytes_eq n (component_name p) ≡ true) ps → Some k ≡ place_of n ps
placed_at n k ps u h =
    let x = part_at (λ p. bytes_eq n (component_name p) ≡ true) k ps h in
    let o : place_of (component_name x.0) ps ≡ Some k = place_is 0 k x.0 ps x.1 u ∙ ap (λ (i : ℕ). Some i) (let z : 0 + k ≡ k = omega arith in z) in
    sym (subst (λ (m : List ℕ). place_of m ps ≡ Some k) (sym (same_name n (component_name x.0) x.2)) o)

pub place_below : (n : List ℕ) (k : ℕ) (ps : List ComponentState) → Some k ≡ place_of n ps → k < length ps
place_below n k ps e = at_below (λ p. component_name p ≡ n) ps k (named_place n k ps (sym e))

pub hold_one : (n : List ℕ) (k : ℕ) (ps : List ComponentState) (old new : List Bool) (grew had has : Bool) → Some k ≡ place_of n ps → k < length old →
    At k (λ p. grew ≡ (not (get_or old k false) && not (is_to_stop p))) ps → new ≡ set old k true → has ≡ (grew || had) → HasHeld ps old new had has
hold_one n k ps old new grew had has o l g e h =
    let x = part_at (λ p. grew ≡ (not (get_or old k false) && not (is_to_stop p))) k ps g in
    subst (λ (cs : List Bool). HasHeld ps old cs had has) (sym e)
    (subst (λ (b : Bool). HasHeld ps old (set old k true) had b) (sym h) (holds_set ps old k x.0 grew had l x.1 x.2))

pub flag_one : (n : List ℕ) (k : ℕ) (ps : List ComponentState) (old new : List Bool) → Some k ≡ place_of n ps → k < length old → new ≡ set old k true →
    IsFlagged ps new n
flag_one n k ps old new o l e = subst (λ (cs : List Bool). IsFlagged ps cs n) (sym e) (flag_set n ps old k (sym o) l)

pub held_one : (n : List ℕ) (k : ℕ) (ps : List ComponentState) (old new : List Bool) → Some k ≡ place_of n ps → new ≡ set old k true →
    is_held_far n ps ≡ true → AreHeld ps old → AreHeld ps new
held_one n k ps old new o e h a =
    let x = part_at (λ p. component_name p ≡ n) k ps (named_place n k ps (sym o)) in
    subst (AreHeld ps) (sym e) (held_set ps old k x.0 x.1 (subst (λ (m : List ℕ). is_held_far m ps ≡ true) (sym x.2) h) a)

-- one more of a list
pub all_next : (P : List ℕ → Type 0) (ns : List (List ℕ)) (k : ℕ) (x : List ℕ) → k < length ns → x ≡ get_or ns k x → AllByRecursion P (take k ns) → P x →
    AllByRecursion P (take (k + 1) ns)
all_next P [] k x l e a h = absurd (omega (arith, l))
all_next P (n ∷ ns) zero x l e a h = (subst P e h, tt)
all_next P (n ∷ ns) (suc k) x l e a h = rw (add-one (suc k)) (a.0, rw (add-one k) at (all_next P ns k x (omega (arith, l)) e a.1 h))

pub all_before : (P : List ℕ → Type 0) (ns : List (List ℕ)) (k : ℕ) (x : List ℕ) → k < length ns → x ≡ get_or ns k x → AllByRecursion P (take (k + 1) ns) →
    AllByRecursion P (take k ns) × P x
all_before P [] k x l e a = absurd (omega (arith, l))
all_before P (n ∷ ns) zero x l e a = (tt, subst P (sym e) a.0)
all_before P (n ∷ ns) (suc k) x l e a =
    let b : P n × AllByRecursion P (take (suc k) ns) = subst (λ (i : ℕ). AllByRecursion P (take i (n ∷ ns))) (add-one (suc k)) a in
    let r = all_before P ns k x (omega (arith, l)) e (subst (λ (i : ℕ). AllByRecursion P (take i ns)) (sym (add-one k)) b.1) in
    ((b.0, r.0), r.1)

-- what a loop over the names that are needed has done so far
pub record Needs (ps : List ComponentState) (old new : List Bool) (had has : Bool) (ns : List (List ℕ)) : Type 0 where
  pub holds : HasHeld ps old new had has
  pub flags : HaveFlags ps new ns
  pub held : AreNamesHeld ps ns → AreHeld ps old → AreHeld ps new

pub needs_none : (ps : List ComponentState) (bs : List Bool) (had : Bool) → Needs ps bs bs had had []
needs_none ps bs had = record { holds = holds_none ps bs had; flags = tt; held = λ h a. a }

pub needs_more : (ps : List ComponentState) (ls bs cs : List Bool) (x y z : Bool) (ns ms : List (List ℕ)) → Needs ps ls bs x y ns → Needs ps bs cs y z ms →
    Needs ps ls cs x z (ns ++ ms)
needs_more ps ls bs cs x y z ns ms a b = record {
  holds = holds_more ps ls bs cs x y z a.holds b.holds;
  flags = all_joined (IsFlagged ps cs) ns ms (flags_later ps bs cs ns b.holds.adds a.flags) b.flags;
  held = λ h i. b.held (all_back (λ n. is_held_far n ps ≡ true) ns ms h) (a.held (all_prefix (λ n. is_held_far n ps ≡ true) ns ms h) i);
}

pub needs_next : (ps : List ComponentState) (ls bs cs : List Bool) (x y z : Bool) (ns : List (List ℕ)) (k : ℕ) (n : List ℕ) → k < length ns →
    n ≡ get_or ns k n → Needs ps ls bs x y (take k ns) → HasHeld ps bs cs y z → IsFlagged ps cs n
    → (is_held_far n ps ≡ true → AreHeld ps bs → AreHeld ps cs) → Needs ps ls cs x z (take (k + 1) ns)
needs_next ps ls bs cs x y z ns k n l e a h f g = record {
  holds = holds_more ps ls bs cs x y z a.holds h;
  flags = all_next (IsFlagged ps cs) ns k n l e (flags_later ps bs cs (take k ns) h.adds a.flags) f;
  held = λ i j. (let r = all_before (λ m. is_held_far m ps ≡ true) ns k n l e i in g r.1 (a.held r.0 j));
}

-- what a pass over all has done so far
pub record Passed (ps : List ComponentState) (old new : List Bool) (has : Bool) (k : ℕ) : Type 0 where
  pub holds : HasHeld ps old new false has
  pub done : (j : ℕ) (p : ComponentState) → j < k → slice_get ps j ≡ Some p → holds_others old j p ≡ true → HaveFlags ps new (hard_needs p)
  pub held : AreHeld ps old → AreHeld ps new

pub passed_none : (ps : List ComponentState) (bs : List Bool) → Passed ps bs bs false 0
passed_none ps bs = record { holds = holds_none ps bs false; done = λ j p l. absurd (omega (arith, l)); held = λ a. a }

holds_later : (bs cs : List Bool) (k : ℕ) (p : ComponentState) → AreFlagsAdded bs cs → holds_others bs k p ≡ true → holds_others cs k p ≡ true
holds_later bs cs k p a h = elim (or_cases (get_or bs k false) (is_to_stop p) h) [
  | inl x ↦ or_left (get_or cs k false) (is_to_stop p) (a.more k x)
  | inr x ↦ or_right (get_or cs k false) (is_to_stop p) x
]

at_split : (j k : ℕ) → j < k + 1 → (j < k) ⊎ (j ≡ k)
at_split j k l = elim (cases_eq j k) [ inl e ↦ inr e | inr ne ↦ inl (omega (arith, ne, l)) ]

pub passed_next : (ps : List ComponentState) (old bs new : List Bool) (x y : Bool) (k : ℕ) → Passed ps old bs x k → HasHeld ps bs new x y →
    At k (λ p. holds_others bs k p ≡ true → HaveFlags ps new (hard_needs p)) ps → (AreHeld ps bs → AreHeld ps new) → Passed ps old new y (k + 1)
passed_next ps old bs new x y k a h f g = record {
  holds = holds_more ps old bs new false x y a.holds h;
  done = λ j p l e i. elim (at_split j k l) [
    | inl m ↦ flags_later ps bs new (hard_needs p) h.adds (a.done j p m e i)
    | inr q ↦ at_one (λ r. holds_others bs k r ≡ true → HaveFlags ps new (hard_needs r)) k ps p (subst (λ (n : ℕ). slice_get ps n ≡ Some p) q e) f
        (holds_later bs bs k p (adds_none bs) (holds_later old bs k p a.holds.adds (subst (λ (n : ℕ). holds_others old n p ≡ true) q i)))
  ];
  held = λ i. g (a.held i);
}

got_below : (ps : List ComponentState) (k : ℕ) (p : ComponentState) → slice_get ps k ≡ Some p → k < length ps
got_below [] k p e = absurd (cc)
got_below (q ∷ ps) zero p e = omega arith
got_below (q ∷ ps) (suc k) p e = let i = got_below ps k p e in omega (arith, i)

pub passed_all : (ps : List ComponentState) (old new : List Bool) (has : Bool) (k : ℕ) → length ps ≤ k → Passed ps old new has k → has ≡ false →
    IsClosedAhead ps new
passed_all ps old new has k l a n = λ j p e h.
    let b = got_below ps j p e in
    a.done j p (omega (arith, l, b)) e (sym (a.holds.same n j p e) ∙ h)

pub no_flags : (n k : ℕ) → get_or (replicate n false) k false ≡ false
no_flags zero k = refl
no_flags (suc n) zero = refl
no_flags (suc n) (suc k) = no_flags n k

pub many_flags : (n : ℕ) (b : Bool) → length (replicate n b) ≡ n
many_flags zero b = refl
many_flags (suc n) b = ap suc (many_flags n b)

pub all_flags : (n k : ℕ) → k < n → get_or (replicate n true) k false ≡ true
all_flags zero k l = absurd (omega (arith, l))
all_flags (suc n) zero l = refl
all_flags (suc n) (suc k) l = all_flags n k (omega (arith, l))

pub none_held : (ps : List ComponentState) (bs : List Bool) (n : ℕ) → bs ≡ replicate n false → AreHeld ps bs
none_held ps bs n e = λ k p g h.
    let f : get_or bs k false ≡ false = ap (λ (cs : List Bool). get_or cs k false) e ∙ no_flags n k in
    clash (get_or bs k false) h f
  where
    clash : {A : Type 0} (b : Bool) → b ≡ true → b ≡ false → A
    clash true x y = absurd (cc)
    clash false x y = absurd (cc)

pub asked_held : (ps : List ComponentState) (bs : List Bool) (n : ℕ) → bs ≡ replicate n true → n ≡ length ps → AreAskedHeld ps → ShowAsked ps bs
asked_held ps bs n e m a = λ k p g h.
    let b = got_below ps k p g in
    let f : get_or bs k false ≡ true = ap (λ (cs : List Bool). get_or cs k false) e ∙ all_flags n k (omega (arith, m, b)) in
    f ∙ sym (a k p g h)

-- ---- a stop that is asked for

pub asks_by : (p : ComponentState) (a : After) → p.stop ≡ Some a → true ≡ is_stop_ready p → (is_again (Some a) || is_gone (Some a)) ≡ true →
    asks_for_good p ≡ true
asks_by p a s r h = both_true (is_stop_ready p) (is_again p.stop || is_gone p.stop) (sym r)
    (subst (λ (o : Option After). (is_again o || is_gone o) ≡ true) (sym s) h)

abbrev may_stop_by : Components → ComponentState → After → Bool
may_stop_by w p a = (is_awaited (event.Stop a) p.life && not (has_orphan p || is_unstarted p)) && not (is_held_for a (component_name p) w.parts)

pub stop_not_ready : (w : Components) (p : ComponentState) → false ≡ is_stop_ready p → false ≡ may_stop w p
stop_not_ready w p e = by_stop p.stop (sym e) where
  by_stop : (o : Option After) → (elim o [ None ↦ false | Some a ↦ is_awaited (event.Stop a) p.life && not (has_orphan p || is_unstarted p) ]) ≡ false →
      false ≡ (elim o [ None ↦ false | Some a ↦ may_stop_by w p a ])
  by_stop None h = refl
  by_stop (Some a) h = rw h refl

pub stop_ready : (w : Components) (p : ComponentState) (a : After) (held : Bool) → p.stop ≡ Some a → true ≡ is_stop_ready p →
    held ≡ is_held_for a (component_name p) w.parts → not held ≡ may_stop w p
stop_ready w p a held s r h =
    let f : (is_awaited (event.Stop a) p.life && not (has_orphan p || is_unstarted p)) ≡ true =
    subst (λ (o : Option After). (elim o [ None ↦ false | Some b ↦ is_awaited (event.Stop b) p.life && not (has_orphan p || is_unstarted p) ]) ≡ true) s
    (sym r) in
    let g : not held ≡ may_stop_by w p a = ap not h ∙ sym (rw f refl) in
    g ∙ sym (ap (λ (o : Option After). elim o [ None ↦ false | Some b ↦ may_stop_by w p b ]) s)

pub shown_at : (ps : List ComponentState) (bs : List Bool) (k : ℕ) (p : ComponentState) → k < length ps → p ≡ get_or ps k p → ShowAsked ps bs →
    asks_for_good p ≡ true → get_or bs k false ≡ is_held_far (component_name p) ps
shown_at ps bs k p l e a h = a k p (slice_get-get_or ps k p l ∙ ap (λ (q : ComponentState). Some q) (sym e)) h

-- ---- those that ask

pub never : {A : Type 0} (b : Bool) → false ≡ b → b ≡ true → A
never true n e = absurd (cc)
never false n e = absurd (cc)

-- those that ask are held, as far as they were gone over
abbrev pub AskedSoFar : List ComponentState → ℕ → Type 0
AskedSoFar ps n = (k : ℕ) (p : ComponentState) → k < n → slice_get ps k ≡ Some p → asks_for_good p ≡ true → is_held_far (component_name p) ps ≡ true

pub asked_none : (ps : List ComponentState) → AskedSoFar ps 0
asked_none ps = λ k p l. absurd (omega (arith, l))

pub asked_next : (ps : List ComponentState) (n : ℕ) (q : ComponentState) → n < length ps → q ≡ get_or ps n q → AskedSoFar ps n →
    (asks_for_good q ≡ true → is_held_far (component_name q) ps ≡ true) → AskedSoFar ps (n + 1)
asked_next ps n q l e a h = λ k p m g. elim (at_split k n m) [
  | inl x ↦ a k p x g
  | inr x ↦ (let r : q ≡ p = some_part q p
      (ap (λ (y : ComponentState). Some y) e ∙ sym (slice_get-get_or ps n q l) ∙ subst (λ (i : ℕ). slice_get ps i ≡ Some p) x g) in
      subst (λ (y : ComponentState). asks_for_good y ≡ true → is_held_far (component_name y) ps ≡ true) r h)
]

pub asked_all : (ps : List ComponentState) (n : ℕ) → length ps ≤ n → AskedSoFar ps n → AreAskedHeld ps
asked_all ps n l a = λ k p e. (let b = got_below ps k p e in a k p (omega (arith, l, b)) e)
