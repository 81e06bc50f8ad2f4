-- Lists of names, of components, and of flags.
use Rattle.std.proofs.Common.{arith, ◌≡◌, ℕ, suc, zero, List, [], ◌∷◌, ◌++◌, map, Some, Bool, true, false, refl, sym, ap, ◌∙◌, ◌⊎◌, inl, inr, subst}
use Rattle.std.proofs.Common.{slice_get}
use Rattle.std.specs.Prelude.{Contains, ◌&&◌, ◌||◌}
use Rattle.std.specs.List.{list_any, AllByRecursion}
use Rattle.std.specs.Str.{bytes_eq}
use Rattle.std.proofs.lemmas.Bool.{and_parts, or_left, or_right, or_parts}
use Rattle.std.proofs.lemmas.Slice.Eq.{bytes_eq-Decides}
use Rattle.components.specs.Components.{At, ComponentState, component_name}
use Rattle.components.specs.Marks.{Flagged, AreFlagsWithin, flagged, grown, is_flagged, needs_flagged}
use Rattle.law_supervisor.specs.Sound.{HaveOwnNames}
use Rattle.law_supervisor.proofs.Lists.{some_same}
use Rattle.components.proofs.Whole.{firsts}
use Rattle.law_termination.proofs.Lists.{Has}

pub same_bytes : (a : List ℕ) → bytes_eq a a ≡ true
same_bytes a = (bytes_eq-Decides a a).1 refl

pub or_cases : (a b : Bool) → (a || b) ≡ true → (a ≡ true) ⊎ (b ≡ true)
or_cases true b e = inl refl
or_cases false b e = inr e

-- ---- for all of a list

pub all_of : {X : Type 0} (P : X → Type 0) (xs : List X) → ((x : X) → Has x xs → P x) → AllByRecursion P xs
all_of P [] f = tt
all_of P (x ∷ xs) f = (f x (inl refl), all_of P xs (λ y h. f y (inr h)))

pub all_own : {X : Type 0} (xs : List X) → AllByRecursion (λ x. Has x xs) xs
all_own {X} xs = all_of (λ (x : X). Has x xs) xs (λ x h. h)

pub all_more : {X : Type 0} (P Q : X → Type 0) (xs : List X) → ((x : X) → P x → Q x) → AllByRecursion P xs → AllByRecursion Q xs
all_more P Q [] f a = tt
all_more P Q (x ∷ xs) f a = (f x a.0, all_more P Q xs f a.1)

pub all_prefix : {X : Type 0} (P : X → Type 0) (xs ys : List X) → AllByRecursion P (xs ++ ys) → AllByRecursion P xs
all_prefix P [] ys a = tt
all_prefix P (x ∷ xs) ys a = (a.0, all_prefix P xs ys a.1)

pub all_back : {X : Type 0} (P : X → Type 0) (xs ys : List X) → AllByRecursion P (xs ++ ys) → AllByRecursion P ys
all_back P [] ys a = a
all_back P (x ∷ xs) ys a = all_back P xs ys a.1

pub all_joined : {X : Type 0} (P : X → Type 0) (xs ys : List X) → AllByRecursion P xs → AllByRecursion P ys → AllByRecursion P (xs ++ ys)
all_joined P [] ys a b = b
all_joined P (x ∷ xs) ys a b = (a.0, all_joined P xs ys a.1 b)

pub with_none : {X : Type 0} (xs : List X) → xs ++ [] ≡ xs
with_none [] = refl
with_none (x ∷ xs) = ap (λ ys. x ∷ ys) (with_none xs)

-- ---- places

pub placed_at : {X : Type 0} (x : X) (xs : List X) → Has x xs → (k : ℕ) × (slice_get xs k ≡ Some x)
placed_at x [] h = absurd h
placed_at x (y ∷ ys) (inl q) = (zero, ap (λ z. Some z) (sym q))
placed_at x (y ∷ ys) (inr h) = let p = placed_at x ys h in (suc p.0, p.1)

pub one_named : (ps : List ComponentState) → HaveOwnNames ps → (p q : ComponentState) → Has p ps → Has q ps → component_name p ≡ component_name q → p ≡ q
one_named ps n p q h i e =
    let a = placed_at p ps h in
    let b = placed_at q ps i in
    let s = n a.0 b.0 p q a.1 b.1 e in
    some_same p q (sym a.1 ∙ ap (λ k. slice_get ps k) s ∙ b.1)

pub has_one : {X : Type 0} (xs : List X) (x : X) → Contains xs x → Has x xs
has_one [] x (k, less, is) = absurd (omega (arith, less))
has_one (y ∷ ys) x (zero, less, is) = inl (sym is)
has_one (y ∷ ys) x (suc k, less, is) = inr (has_one ys x (k, omega (arith, less), is))

pub contains_one : {X : Type 0} (xs : List X) (x : X) → Has x xs → Contains xs x
contains_one [] x h = absurd h
contains_one (y ∷ ys) x (inl q) = (zero, omega arith, sym q)
contains_one (y ∷ ys) x (inr h) = let c = contains_one ys x h in (suc c.0, omega (arith, c.1), c.2)

-- ---- flags

abbrev pub HasFlag : ComponentState → Flagged → Type 0
HasFlag p [] = ⊥
HasFlag p (f ∷ fs) = (p ≡ f.0) ⊎ HasFlag p fs

pub needs_has : (n : List ℕ) (ns : List (List ℕ)) (fs : Flagged) → Has n ns → is_flagged n fs ≡ true → needs_flagged ns fs ≡ true
needs_has n [] fs h e = absurd h
needs_has n (m ∷ ms) fs (inl q) e = or_left (is_flagged m fs) (needs_flagged ms fs) (subst (λ (z : List ℕ). is_flagged z fs ≡ true) q e)
needs_has n (m ∷ ms) fs (inr h) e = or_right (is_flagged m fs) (needs_flagged ms fs) (needs_has n ms fs h e)

-- in what is closed, whoever needs a flagged one has a flag
pub closed_flags : (all fs : Flagged) (p : ComponentState) → grown all fs ≡ fs → HasFlag p fs → needs_flagged p.fitted.hard all ≡ true →
    is_flagged (component_name p) fs ≡ true
closed_flags all [] p c h e = absurd h
closed_flags all (f ∷ fs) p c (inl q) e =
    let one : (f.1 || needs_flagged f.0.fitted.hard all) ≡ f.1 = ap (λ (gs : Flagged). elim gs [ [] ↦ false | ◌∷◌ g gs ↦ g.1 ]) c in
    let has : f.1 ≡ true = sym one ∙ or_right f.1 (needs_flagged f.0.fitted.hard all) (subst (λ (z : ComponentState). needs_flagged z.fitted.hard all ≡ true)
    q e) in
    or_left (f.1 && bytes_eq (component_name f.0) (component_name p)) (is_flagged (component_name p) fs) (rw has (subst (λ (z : ComponentState). bytes_eq
    (component_name z) (component_name p) ≡ true) q (same_bytes (component_name p))))
closed_flags all (f ∷ fs) p c (inr h) e = or_right (f.1 && bytes_eq (component_name f.0) (component_name p)) (is_flagged (component_name p) fs)
    (closed_flags all fs p (ap (λ (gs : Flagged). elim gs [ [] ↦ [] | ◌∷◌ g gs ↦ gs ]) c) h e)

pub flag_within : (p : ComponentState) (fs hs : Flagged) → AreFlagsWithin fs hs → HasFlag p fs → HasFlag p hs
flag_within p [] [] w h = h
flag_within p [] (g ∷ hs) w h = absurd w
flag_within p (f ∷ fs) [] w h = absurd w
flag_within p (f ∷ fs) (g ∷ hs) w (inl q) = inl (q ∙ w.0)
flag_within p (f ∷ fs) (g ∷ hs) w (inr h) = inr (flag_within p fs hs w.2 h)

pub flagged_more : (n : List ℕ) (fs hs : Flagged) → AreFlagsWithin fs hs → is_flagged n fs ≡ true → is_flagged n hs ≡ true
flagged_more n [] [] w e = e
flagged_more n [] (h ∷ hs) w e = absurd w
flagged_more n (f ∷ fs) [] w e = absurd w
flagged_more n (f ∷ fs) (h ∷ hs) w e = elim (or_cases (f.1 && bytes_eq (component_name f.0) n) (is_flagged n fs) e) [
  | inl a ↦ (let b = and_parts f.1 (bytes_eq (component_name f.0) n) a in
      or_left (h.1 && bytes_eq (component_name h.0) n) (is_flagged n hs) (rw (w.1 b.0) (sym (ap (λ (p : ComponentState). bytes_eq (component_name p) n) w.0)
      ∙ b.1)))
  | inr a ↦ or_right (h.1 && bytes_eq (component_name h.0) n) (is_flagged n hs) (flagged_more n fs hs w.2 a)
]

pub flagged_one : (test : ComponentState → Bool) (ps : List ComponentState) (p : ComponentState) → Has p ps → HasFlag p (flagged test ps)
flagged_one test [] p h = absurd h
flagged_one test (q ∷ ps) p (inl e) = inl e
flagged_one test (q ∷ ps) p (inr h) = inr (flagged_one test ps p h)

pub flagged_so : (test : ComponentState → Bool) (ps : List ComponentState) (p : ComponentState) → Has p ps → test p ≡ true →
    is_flagged (component_name p) (flagged test ps) ≡ true
flagged_so test [] p h e = absurd h
flagged_so test (q ∷ ps) p (inl i) e = or_left (test q && bytes_eq (component_name q) (component_name p)) (is_flagged (component_name p) (flagged test ps))
    (rw (sym (ap test i) ∙ e) (subst (λ (z : ComponentState). bytes_eq (component_name z) (component_name p) ≡ true) i (same_bytes (component_name p))))
flagged_so test (q ∷ ps) p (inr h) e = or_right (test q && bytes_eq (component_name q) (component_name p)) (is_flagged (component_name p) (flagged test ps))
    (flagged_so test ps p h e)

-- one with a flag and this name
pub record OneFlag (t : ComponentState → Bool) (n : List ℕ) (fs : Flagged) : Type 0 where
  pub one : ComponentState
  pub here : Has one (firsts fs)
  pub name : component_name one ≡ n
  pub fails : t one ≡ false

pub one_flag : (t : ComponentState → Bool) (n : List ℕ) (fs : Flagged) → is_flagged n fs ≡ true →
    list_any (λ (f : ComponentState × Bool). f.1 && t f.0) fs ≡ false → OneFlag t n fs
one_flag t n [] e a = absurd (cc)
one_flag t n (f ∷ fs) e a =
    let o = or_parts (f.1 && t f.0) (list_any (λ (g : ComponentState × Bool). g.1 && t g.0) fs) a in
    elim (or_cases (f.1 && bytes_eq (component_name f.0) n) (is_flagged n fs) e) [
      | inl b ↦ (let c = and_parts f.1 (bytes_eq (component_name f.0) n) b in record {
        one = f.0;
        here = inl refl;
        name = (bytes_eq-Decides (component_name f.0) n).0 c.1;
        fails = second f.1 (t f.0) o.0 c.0;
      })
      | inr b ↦ (let r = one_flag t n fs b o.1 in record { one = r.one; here = inr r.here; name = r.name; fails = r.fails })
    ]
  where
    second : (a b : Bool) → (a && b) ≡ false → a ≡ true → b ≡ false
    second true b e f = e
    second false b e f = absurd (cc)

pub any_name : (n : List ℕ) (ns : List (List ℕ)) → Has n ns → list_any (bytes_eq n) ns ≡ true
any_name n [] h = absurd h
any_name n (m ∷ ms) (inl e) = or_left (bytes_eq n m) (list_any (bytes_eq n) ms) (subst (λ (z : List ℕ). bytes_eq n z ≡ true) e (same_bytes n))
any_name n (m ∷ ms) (inr h) = or_right (bytes_eq n m) (list_any (bytes_eq n) ms) (any_name n ms h)

pub mapped : {X Y : Type 0} (g : X → Y) (x : X) (xs : List X) → Has x xs → Has (g x) (map g xs)
mapped g x [] h = absurd h
mapped g x (y ∷ ys) (inl e) = inl (ap g e)
mapped g x (y ∷ ys) (inr h) = inr (mapped g x ys h)

pub of_mapped : {X Y : Type 0} (g : X → Y) (y : Y) (xs : List X) → Has y (map g xs) → (x : X) × Has x xs × (y ≡ g x)
of_mapped g y [] h = absurd h
of_mapped g y (x ∷ xs) (inl e) = (x, inl refl, e)
of_mapped g y (x ∷ xs) (inr h) = let r = of_mapped g y xs h in (r.0, inr r.1, r.2)

-- ---- one at a place

pub at_some : (k : ℕ) (ps : List ComponentState) (P : ComponentState → Type 0) → At k P ps → (p : ComponentState) × (slice_get ps k ≡ Some p) × P p
at_some k [] P a = absurd a
at_some zero (p ∷ ps) P a = (p, refl, a)
at_some (suc k) (p ∷ ps) P a = at_some k ps P a

pub at_from : (k : ℕ) (ps : List ComponentState) (P : ComponentState → Type 0) (p : ComponentState) → slice_get ps k ≡ Some p → P p → At k P ps
at_from k [] P p e a = absurd (cc)
at_from zero (q ∷ ps) P p e a = subst P (sym (some_same q p e)) a
at_from (suc k) (q ∷ ps) P p e a = at_from k ps P p e a

pub has_at : {X : Type 0} (x : X) (xs : List X) (k : ℕ) → slice_get xs k ≡ Some x → Has x xs
has_at x [] k e = absurd (cc)
has_at x (y ∷ ys) zero e = inl (sym (some_same y x e))
has_at x (y ∷ ys) (suc k) e = inr (has_at x ys k e)
