-- Needs without a cycle have an order: of each name, how many of the items it reaches.
use Rattle.std.proofs.Common.{◌≡◌, ◌<◌, ◌≤◌, ◌⊎◌, ℕ, suc, zero, List, [], ◌∷◌, ◌++◌, length, map, Bool, true, false, refl, sym, ap, ◌∙◌, inl, inr, arith}
use Rattle.std.proofs.Common.{subst}
use Rattle.std.specs.Prelude.{◌&&◌, ◌||◌, if◌then◌else◌}
use Rattle.std.specs.List.{AllByRecursion}
use Rattle.std.specs.Str.{bytes_eq}
use Rattle.std.proofs.lemmas.Bool.{and_parts, or_right}
use Rattle.std.proofs.lemmas.Slice.Eq.{bytes_eq-Decides}
use Rattle.nuc_base.specs.Leads.{HasPath}
use Rattle.components.specs.Changes.{fresh_part}
use Rattle.components.specs.Components.{ComponentState, component_name}
use Rattle.components.specs.Fitted.{Fitted, name_of}
use Rattle.components.specs.Marks.{Flagged, flagged, grown, is_flagged, needs_flagged, reaching}
use Rattle.components.proofs.Closes.{closes, most}
use Rattle.law_supervisor.proofs.Lists.{either}
use Rattle.law_termination.proofs.Lists.{Has}
use Rattle.law_termination.proofs.Near.{HasFlag, closed_flags, flag_within, flagged_more, needs_has, or_cases, same_bytes}

-- what an item needs, hard or soft
abbrev pub needs_of : Fitted → List (List ℕ)
needs_of f = f.hard ++ f.soft

-- an item of the first name needs the second
pub record Needs (items : List Fitted) (a b : List ℕ) : Type 0 where
  pub item : Fitted
  pub is_one : Has item items
  pub from : name_of item ≡ a
  pub to : Has b (needs_of item)

abbrev part_of : Fitted → ComponentState
part_of f = fresh_part (record f { hard = needs_of f }, 0)

abbrev parts_of : List Fitted → List ComponentState
parts_of items = map part_of items

abbrev first_of : List ℕ → List Fitted → Flagged
first_of t items = flagged (λ p. bytes_eq (component_name p) t) (parts_of items)

abbrev reach_of : List ℕ → List Fitted → Flagged
reach_of t items = reaching (length (first_of t items)) (first_of t items)

-- an item of this name reaches the other one
abbrev reaches : List Fitted → List ℕ → List ℕ → Bool
reaches items a t = is_flagged a (reach_of t items)

-- ---- an item reaches itself

flagged_has : (f : Fitted) (items : List Fitted) (t : List ℕ) → Has f items → name_of f ≡ t → is_flagged (name_of f) (first_of t items) ≡ true
flagged_has f [] t h e = absurd h
flagged_has f (g ∷ gs) t (inl q) e = subst (λ (z : Fitted). ((bytes_eq (name_of z) t && bytes_eq (name_of z) (name_of f)) ||
    is_flagged (name_of f) (first_of t gs)) ≡ true) q (rw (subst (λ (z : List ℕ). bytes_eq (name_of f) z ≡ true) e (same_bytes (name_of f)))
    (rw (same_bytes (name_of f)) refl))
flagged_has f (g ∷ gs) t (inr h) e = or_right (bytes_eq (name_of g) t && bytes_eq (name_of g) (name_of f)) (is_flagged (name_of f) (first_of t gs))
    (flagged_has f gs t h e)

reaches_self : (items : List Fitted) (f : Fitted) → Has f items → reaches items (name_of f) (name_of f) ≡ true
reaches_self items f h = flagged_more (name_of f) (first_of (name_of f) items) (reach_of (name_of f) items)
    (most (length (first_of (name_of f) items)) (first_of (name_of f) items)) (flagged_has f items (name_of f) h refl)

-- ---- who needs what reaches, reaches

first_has : (f : Fitted) (items : List Fitted) (t : List ℕ) → Has f items → HasFlag (part_of f) (first_of t items)
first_has f [] t h = absurd h
first_has f (g ∷ gs) t (inl q) = inl (ap part_of q)
first_has f (g ∷ gs) t (inr h) = inr (first_has f gs t h)

reaches_on : (items : List Fitted) (f : Fitted) (n t : List ℕ) → Has f items → Has n (needs_of f) → reaches items n t ≡ true →
    reaches items (name_of f) t ≡ true
reaches_on items f n t h m e = closed_flags (reach_of t items) (reach_of t items) (part_of f) (closes (first_of t items))
    (flag_within (part_of f) (first_of t items) (reach_of t items) (most (length (first_of t items)) (first_of t items)) (first_has f items t h))
    (needs_has n (needs_of f) (reach_of t items) m e)

-- ---- whoever reaches does so by needs

abbrev Sought : List Fitted → List ℕ → List ℕ → Type 0
Sought items t a = (a ≡ t) ⊎ HasPath (Needs items) a t

abbrev IsFlag : List Fitted → List ℕ → ComponentState × Bool → Type 0
IsFlag items t f = ((g : Fitted) × Has g items × (f.0 ≡ part_of g)) × (f.1 ≡ true → Sought items t (component_name f.0))

found : (items : List Fitted) (t n : List ℕ) (fs : Flagged) → AllByRecursion (IsFlag items t) fs → is_flagged n fs ≡ true → Sought items t n
found items t n [] a e = absurd (cc)
found items t n (f ∷ fs) a e = elim (or_cases (f.1 && bytes_eq (component_name f.0) n) (is_flagged n fs) e) [
  | inl b ↦ (let c = and_parts f.1 (bytes_eq (component_name f.0) n) b in
      subst (λ (z : List ℕ). Sought items t z) ((bytes_eq-Decides (component_name f.0) n).0 c.1) (a.0.1 c.0))
  | inr b ↦ found items t n fs a.1 b
]

record OneNeed (ns : List (List ℕ)) (fs : Flagged) : Type 0 where
  name : List ℕ
  is_one : Has name ns
  has : is_flagged name fs ≡ true

one_need : (ns : List (List ℕ)) (fs : Flagged) → needs_flagged ns fs ≡ true → OneNeed ns fs
one_need [] fs e = absurd (cc)
one_need (n ∷ ns) fs e = elim (or_cases (is_flagged n fs) (needs_flagged ns fs) e) [
  | inl a ↦ record { name = n; is_one = inl refl; has = a }
  | inr a ↦ (let r = one_need ns fs a in record { name = r.name; is_one = inr r.is_one; has = r.has })
]

lead : (items : List Fitted) (a b t : List ℕ) → Needs items a b → Sought items t b → Sought items t a
lead items a b t n (inl e) = inr (HasPath.direct (subst (λ (z : List ℕ). Needs items a z) e n))
lead items a b t n (inr l) = inr (HasPath.through n l)

flags_grown : (items : List Fitted) (t : List ℕ) (all fs : Flagged) → AllByRecursion (IsFlag items t) all → AllByRecursion (IsFlag items t) fs →
    AllByRecursion (IsFlag items t) (grown all fs)
flags_grown items t all [] b a = tt
flags_grown items t all (f ∷ fs) b a = ((a.0.0, λ e. one (or_cases f.1 (needs_flagged f.0.fitted.hard all) e)), flags_grown items t all fs b a.1)
  where
    one : (f.1 ≡ true) ⊎ (needs_flagged f.0.fitted.hard all ≡ true) → Sought items t (component_name f.0)
    one (inl e) = a.0.1 e
    one (inr e) =
        let g = a.0.0 in
        let r = one_need (needs_of g.0) all (subst (λ (z : ComponentState). needs_flagged z.fitted.hard all ≡ true) g.2 e) in
        subst (λ (z : ComponentState). Sought items t (component_name z)) (sym g.2)
        (lead items (name_of g.0) r.name t (record { item = g.0; is_one = g.1; from = refl; to = r.is_one }) (found items t r.name all b r.has))

flags_reach : (items : List Fitted) (t : List ℕ) (n : ℕ) (fs : Flagged) → AllByRecursion (IsFlag items t) fs → AllByRecursion (IsFlag items t) (reaching n fs)
flags_reach items t zero fs a = a
flags_reach items t (suc n) fs a = flags_reach items t n (grown fs fs) (flags_grown items t fs fs a a)

flags_first : (items gs : List Fitted) (t : List ℕ) → ((g : Fitted) → Has g gs → Has g items) → AllByRecursion (IsFlag items t) (first_of t gs)
flags_first items [] t f = tt
flags_first items (g ∷ gs) t f = (((g, f g (inl refl), refl), λ e. inl ((bytes_eq-Decides (name_of g) t).0 e)), flags_first items gs t (λ h i. f h (inr i)))

sought : (items : List Fitted) (a t : List ℕ) → reaches items a t ≡ true → Sought items t a
sought items a t e = found items t a (reach_of t items) (flags_reach items t (length (first_of t items)) (first_of t items)
    (flags_first items items t (λ g h. h))) e

-- ---- the order

abbrev count_of : (Fitted → Bool) → List Fitted → ℕ
count_of p [] = 0
count_of p (f ∷ fs) = if p f then suc (count_of p fs) else count_of p fs

not_more : (p q : Fitted → Bool) (fs : List Fitted) → ((f : Fitted) → p f ≡ true → q f ≡ true) → count_of p fs ≤ count_of q fs
not_more p q [] i = omega arith
not_more p q (f ∷ fs) i = let r = not_more p q fs i in elim (either (p f)) [
  | inl e ↦ (let g = i f e in rw e (rw g (let z : suc (count_of p fs) ≤ suc (count_of q fs) = omega (arith, r) in z)))
  | inr e ↦ elim (either (q f)) [
    | inl g ↦ rw e (rw g (let z : count_of p fs ≤ suc (count_of q fs) = omega (arith, r) in z))
    | inr g ↦ rw e (rw g r)
  ]
]

fewer : (p q : Fitted → Bool) (one : Fitted) (fs : List Fitted) → Has one fs → p one ≡ false → q one ≡ true → ((f : Fitted) → p f ≡ true → q f ≡ true) →
    count_of p fs < count_of q fs
fewer p q one [] h x y i = absurd h
fewer p q one (f ∷ fs) (inl e) x y i =
    let r = not_more p q fs i in
    let a : p f ≡ false = sym (ap p e) ∙ x in
    let b : q f ≡ true = sym (ap q e) ∙ y in
    rw a (rw b (let z : count_of p fs < suc (count_of q fs) = omega (arith, r) in z))
fewer p q one (f ∷ fs) (inr h) x y i = let r = fewer p q one fs h x y i in elim (either (p f)) [
  | inl e ↦ (let g = i f e in rw e (rw g (let z : suc (count_of p fs) < suc (count_of q fs) = omega (arith, r) in z)))
  | inr e ↦ elim (either (q f)) [
    | inl g ↦ rw e (rw g (let z : count_of p fs < suc (count_of q fs) = omega (arith, r) in z))
    | inr g ↦ rw e (rw g r)
  ]
]

abbrev pub order_of : List Fitted → List ℕ → ℕ
order_of items a = count_of (λ f. reaches items a (name_of f)) items

pub needs_below : (items : List Fitted) (f : Fitted) (n : List ℕ) → ((name : List ℕ) → HasPath (Needs items) name name → ⊥) → Has f items → Has n (needs_of f) →
    order_of items n < order_of items (name_of f)
needs_below items f n acyclic h m = fewer (λ g. reaches items n (name_of g)) (λ g. reaches items (name_of f) (name_of g)) f items h none
    (reaches_self items f h) (λ g e. reaches_on items f n (name_of g) h m e)
  where
    need : Needs items (name_of f) n
    need = record { item = f; is_one = h; from = refl; to = m }

    no : Sought items (name_of f) n → ⊥
    no (inl e) = acyclic (name_of f) (HasPath.direct (subst (λ (z : List ℕ). Needs items (name_of f) z) e need))
    no (inr l) = acyclic (name_of f) (HasPath.through need l)

    none : reaches items n (name_of f) ≡ false
    none = elim (either (reaches items n (name_of f))) [ inl e ↦ absurd (no (sought items n (name_of f) e)) | inr e ↦ e ]
