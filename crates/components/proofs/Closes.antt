-- The marks are the least closed set.
use Rattle.std.proofs.Common.{◌≡◌, ◌<◌, ◌≤◌, ◌+◌, ℕ, suc, zero, List, [], ◌∷◌, length, Bool, true, false, refl, sym, ap, ◌∙◌, ◌⊎◌, inl, inr, arith, subst}
use Rattle.std.specs.Prelude.{◌&&◌, ◌||◌, if◌then◌else◌}
use Rattle.std.specs.Str.{bytes_eq}
use Rattle.components.specs.Components.{ComponentState, component_name}
use Rattle.components.specs.Marks.{Flagged, grown, reaching, is_flagged, needs_flagged, AreFlagsWithin, IsClosedBack}

pub within_refl : (fs : Flagged) → AreFlagsWithin fs fs
within_refl [] = tt
within_refl (f ∷ fs) = (refl, (λ e. e), within_refl fs)

pub or_true : (a b : Bool) → (a || b) ≡ true → (a ≡ true) ⊎ (b ≡ true)
or_true true b e = inl refl
or_true false b e = inr e

or_left : (a b : Bool) → a ≡ true → (a || b) ≡ true
or_left true b e = refl
or_left false b e = absurd (cc)

or_right : (a b : Bool) → b ≡ true → (a || b) ≡ true
or_right true b e = refl
or_right false b e = e

and_true : (a b : Bool) → (a && b) ≡ true → (a ≡ true) × (b ≡ true)
and_true true b e = (refl, e)
and_true false b e = absurd (cc)

pub flagged_more : (n : List ℕ) (fs hs : Flagged) → AreFlagsWithin fs hs → is_flagged n fs ≡ true → is_flagged n hs ≡ true
flagged_more n [] [] w e = e
flagged_more n [] (h ∷ hs) w e = absurd w
flagged_more n (f ∷ fs) [] w e = absurd w
flagged_more n (f ∷ fs) (h ∷ hs) w e = elim (or_true (f.1 && (bytes_eq (component_name f.0) n)) (is_flagged n fs) e) [
  | inl a ↦ (let b = and_true f.1 (bytes_eq (component_name f.0) n) a in or_left (h.1 && (bytes_eq (component_name h.0) n)) (is_flagged n hs)
      (rw (w.1 b.0) (let c = ap (λ (p : ComponentState). bytes_eq (component_name p) n) w.0 in sym c ∙ b.1)))
  | inr a ↦ or_right (h.1 && (bytes_eq (component_name h.0) n)) (is_flagged n hs) (flagged_more n fs hs w.2 a)
]

pub needs_more : (ns : List (List ℕ)) (fs hs : Flagged) → AreFlagsWithin fs hs → needs_flagged ns fs ≡ true → needs_flagged ns hs ≡ true
needs_more [] fs hs w e = e
needs_more (n ∷ ns) fs hs w e = elim (or_true (is_flagged n fs) (needs_flagged ns fs) e) [
  | inl a ↦ or_left (is_flagged n hs) (needs_flagged ns hs) (flagged_more n fs hs w a)
  | inr a ↦ or_right (is_flagged n hs) (needs_flagged ns hs) (needs_more ns fs hs w a)
]

grown_within : (all bs fs hs : Flagged) → AreFlagsWithin all bs → AreFlagsWithin fs hs → AreFlagsWithin (grown all fs) (grown bs hs)
grown_within all bs [] [] w v = tt
grown_within all bs [] (h ∷ hs) w v = absurd v
grown_within all bs (f ∷ fs) [] w v = absurd v
grown_within all bs (f ∷ fs) (h ∷ hs) w v = (
  v.0,
  (λ e. elim (or_true f.1 (needs_flagged f.0.fitted.hard all) e) [
    | inl a ↦ or_left h.1 (needs_flagged h.0.fitted.hard bs) (v.1 a)
    | inr a ↦ or_right h.1 (needs_flagged h.0.fitted.hard bs)
        (needs_more h.0.fitted.hard all bs w (subst (λ (p : ComponentState). needs_flagged p.fitted.hard all ≡ true) v.0 a))
  ]),
  grown_within all bs fs hs w v.2,
)

-- the marks are in each closed set that has the first ones
pub least : (n : ℕ) (fs hs : Flagged) → AreFlagsWithin fs hs → IsClosedBack hs → AreFlagsWithin (reaching n fs) hs
least zero fs hs w c = w
least (suc n) fs hs w c = least n (grown fs fs) hs (subst (λ (gs : Flagged). AreFlagsWithin (grown fs fs) gs) c (grown_within fs hs fs hs w w)) c

grown_more : (all fs : Flagged) → AreFlagsWithin fs (grown all fs)
grown_more all [] = tt
grown_more all (f ∷ fs) = (refl, (λ e. or_left f.1 (needs_flagged f.0.fitted.hard all) e), grown_more all fs)

pub trans : (fs gs hs : Flagged) → AreFlagsWithin fs gs → AreFlagsWithin gs hs → AreFlagsWithin fs hs
trans [] [] [] v w = tt
trans [] [] (h ∷ hs) v w = absurd w
trans [] (g ∷ gs) hs v w = absurd v
trans (f ∷ fs) [] hs v w = absurd v
trans (f ∷ fs) (g ∷ gs) [] v w = absurd w
trans (f ∷ fs) (g ∷ gs) (h ∷ hs) v w = (v.0 ∙ w.0, (λ e. w.1 (v.1 e)), trans fs gs hs v.2 w.2)

-- they have the first ones
pub most : (n : ℕ) (fs : Flagged) → AreFlagsWithin fs (reaching n fs)
most zero fs = within_refl fs
most (suc n) fs = trans fs (grown fs fs) (reaching n (grown fs fs)) (grown_more fs fs) (most n (grown fs fs))

abbrev count : Flagged → ℕ
count [] = 0
count (f ∷ fs) = (if f.1 then 1 else 0) + count fs

count_few : (fs : Flagged) → count fs ≤ length fs
count_few [] = omega arith
count_few (f ∷ fs) = let i = count_few fs in elim f.1 as (λ b. (if b then 1 else 0) + count fs ≤ suc (length fs)) [
  | true ↦ omega (arith, i)
  | false ↦ omega
      (arith, i)
]

length_grown : (all fs : Flagged) → length (grown all fs) ≡ length fs
length_grown all [] = refl
length_grown all (f ∷ fs) = ap suc (length_grown all fs)

length_reaching : (n : ℕ) (fs : Flagged) → length (reaching n fs) ≡ length fs
length_reaching zero fs = refl
length_reaching (suc n) fs = length_reaching n (grown fs fs) ∙ length_grown fs fs

-- a round adds a flag, or changes nothing
one_step : (p : ComponentState) (a x : Bool) (fs gs : Flagged) → (gs ≡ fs) ⊎ (count fs < count gs) → ((p, a || x) ∷ gs ≡ (p, a) ∷ fs) ⊎
    (count ((p, a) ∷ fs) < count ((p, a || x) ∷ gs))
one_step p true x fs gs (inl e) = inl (ap (λ (hs : Flagged). (p, true) ∷ hs) e)
one_step p true x fs gs (inr l) = inr (omega (arith, l))
one_step p false false fs gs (inl e) = inl (ap (λ (hs : Flagged). (p, false) ∷ hs) e)
one_step p false false fs gs (inr l) = inr (omega (arith, l))
one_step p false true fs gs (inl e) = inr (let c = ap count e in omega (arith, c))
one_step p false true fs gs (inr l) = inr (omega (arith, l))

step : (all fs : Flagged) → (grown all fs ≡ fs) ⊎ (count fs < count (grown all fs))
step all [] = inl refl
step all (f ∷ fs) = one_step f.0 f.1 (needs_flagged f.0.fitted.hard all) fs (grown all fs) (step all fs)

stays : (n : ℕ) (fs : Flagged) → grown fs fs ≡ fs → reaching n fs ≡ fs
stays zero fs e = refl
stays (suc n) fs e = ap (reaching n) e ∙ stays n fs e

closed_or : (n : ℕ) (fs : Flagged) → IsClosedBack (reaching n fs) ⊎ (n + count fs ≤ count (reaching n fs))
closed_or zero fs = inr (omega arith)
closed_or (suc n) fs = elim (step fs fs) [
  | inl e ↦ inl (subst IsClosedBack (sym (ap (reaching n) e ∙ stays n fs e)) e)
  | inr l ↦ elim (closed_or n (grown fs fs)) [ inl c ↦ inl c | inr m ↦ inr (omega (arith, l, m)) ]
]

-- after all many rounds all there are components nothing changes any more
pub closes : (fs : Flagged) → IsClosedBack (reaching (length fs) fs)
closes fs = elim (closed_or (length fs) fs) [
  | inl c ↦ c
  | inr m ↦ elim (step (reaching (length fs) fs) (reaching (length fs) fs)) [
    | inl c ↦ c
    | inr l ↦ (let a = count_few (grown (reaching (length fs) fs) (reaching (length fs) fs)) in
        let b = length_grown (reaching (length fs) fs) (reaching (length fs) fs) in let d = length_reaching (length fs) fs in
        absurd (omega (arith, l, m, a, b, d)))
  ]
]
