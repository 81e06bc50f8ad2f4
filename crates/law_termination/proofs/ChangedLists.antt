-- Who stands in the lists of a change, and what comes for whom.
use Rattle.std.proofs.Common.{◌≡◌, ◌≤◌, ◌+◌, ℕ, suc, List, [], ◌∷◌, Some, is_some, Bool, true, false, refl, sym, ap, ◌∙◌, ◌⊎◌, inl, inr, arith, subst}
use Rattle.std.specs.Prelude.{◌&&◌, ◌||◌, not, if◌then◌else◌, filter, get_or}
use Rattle.std.specs.List.{AllByRecursion}
use Rattle.std.specs.Str.{bytes_eq}
use Rattle.std.proofs.lemmas.Bool.{and_parts, or_parts}
use Rattle.lifecycle.specs.declared.kinds.After.TheVariants as after
use Rattle.components.specs.Changes.{Coming, coming_for, counted, placed, standing, with_newcomers}
use Rattle.components.specs.Components.{ComponentState, is_over, component_name}
use Rattle.components.specs.Fitted.{Fitted, is_before, name_of}
use Rattle.components.specs.Marks.{Flagged, marked, may_replan}
use Rattle.law_supervisor.proofs.Lists.{clash, either}
use Rattle.components.proofs.Whole.{firsts}
use Rattle.law_termination.proofs.Lists.{Has}
use Rattle.law_termination.proofs.Near.{all_more, same_bytes}

-- ---- who stands in the lists

pub has_placed : (p q : ComponentState) (qs : List ComponentState) → Has q (placed p qs) → (q ≡ p) ⊎ Has q qs
has_placed p q [] h = h
has_placed p q (x ∷ qs) h = elim (is_before (component_name p) (component_name x)) as (λ (y : Bool). Has q (if y then p ∷ x ∷ qs else x ∷ placed p qs) →
    (q ≡ p) ⊎ ((q ≡ x) ⊎ Has q qs)) [
      | true ↦ λ i. i
      | false ↦ λ i. elim i [ inl e ↦ inr (inl e) | inr j ↦ elim (has_placed p q qs j) [ inl e ↦ inl e | inr l ↦ inr (inr l) ] ]
    ] h

pub placed_self : (p : ComponentState) (qs : List ComponentState) → Has p (placed p qs)
placed_self p [] = inl refl
placed_self p (x ∷ qs) = elim (is_before (component_name p) (component_name x)) as (λ (y : Bool). Has p (if y then p ∷ x ∷ qs else x
    ∷ placed p qs)) [ true ↦ inl refl | false ↦ inr (placed_self p qs) ]

pub placed_other : (p q : ComponentState) (qs : List ComponentState) → Has q qs → Has q (placed p qs)
placed_other p q [] h = absurd h
placed_other p q (x ∷ qs) h = elim (is_before (component_name p) (component_name x)) as (λ (y : Bool). Has q (if y then p ∷ x ∷ qs else x ∷ placed p qs)) [
  | true ↦ inr h
  | false ↦ elim h [ inl e ↦ inl e | inr j ↦ inr (placed_other p q qs j) ]
]

pub has_new : (ns rs : List ComponentState) (q : ComponentState) → Has q (with_newcomers ns rs) → Has q ns ⊎ Has q rs
has_new [] rs q h = inr h
has_new (n ∷ ns) rs q h = elim (has_placed n q (with_newcomers ns rs) h) [
  | inl e ↦ inl (inl e)
  | inr i ↦ elim (has_new ns rs q i) [
    | inl j ↦ inl (inr j)
    | inr
        j ↦ inr j
  ]
]

pub new_first : (ns rs : List ComponentState) (q : ComponentState) → Has q ns → Has q (with_newcomers ns rs)
new_first [] rs q h = absurd h
new_first (n ∷ ns) rs q (inl e) = subst (λ (z : ComponentState). Has z (placed n (with_newcomers ns rs))) (sym e) (placed_self n (with_newcomers ns rs))
new_first (n ∷ ns) rs q (inr h) = placed_other n q (with_newcomers ns rs) (new_first ns rs q h)

pub new_second : (ns rs : List ComponentState) (q : ComponentState) → Has q rs → Has q (with_newcomers ns rs)
new_second [] rs q h = h
new_second (n ∷ ns) rs q h = placed_other n q (with_newcomers ns rs) (new_second ns rs q h)

-- one is as it was, or marked
abbrev pub IsMarked : ComponentState → ComponentState → Type 0
IsMarked x q = (q ≡ x) ⊎ ((may_replan x ≡ true) × (q ≡ record x { stop = Some after.Restart }))

pub of_marked : (fs : Flagged) (q : ComponentState) → Has q (marked may_replan fs) → (x : ComponentState) × Has x (firsts fs) × IsMarked x q
of_marked [] q h = absurd h
of_marked (f ∷ fs) q h = elim (f.1 && may_replan f.0) as (λ (y : Bool). f.1 && may_replan f.0 ≡ y →
    Has q ((if y then record f.0 { stop = Some after.Restart } else f.0) ∷ marked may_replan fs) → (x : ComponentState) × Has x (firsts (f ∷ fs)) ×
    IsMarked x q) [
      | true ↦ λ e i. elim i [
        | inl j ↦ (f.0, inl refl, inr ((and_parts f.1 (may_replan f.0) e).1, j))
        | inr j ↦ (let r = of_marked fs q j in (r.0, inr r.1, r.2))
      ]
      | false ↦ λ e i. elim i [ inl j ↦ (f.0, inl refl, inl j) | inr j ↦ (let r = of_marked fs q j in (r.0, inr r.1, r.2)) ]
    ] refl h

pub to_marked : (fs : Flagged) (x : ComponentState) → Has x (firsts fs) → (q : ComponentState) × Has q (marked may_replan fs) × IsMarked x q
to_marked [] x h = absurd h
to_marked (f ∷ fs) x h = elim (f.1 && may_replan f.0) as (λ (y : Bool). f.1 && may_replan f.0 ≡ y → (q : ComponentState) ×
    Has q ((if y then record f.0 { stop = Some after.Restart } else f.0) ∷ marked may_replan fs) × IsMarked x q) [
      | true ↦ λ e. elim h [
        | inl j ↦ (
          record f.0 { stop = Some after.Restart },
          inl refl,
          inr (
            ap may_replan j ∙ (and_parts f.1 (may_replan f.0) e).1,
            ap (λ (z : ComponentState). record z { stop = Some after.Restart }) (sym j),
          ),
        )
        | inr j ↦ (let r = to_marked fs x j in (r.0, inr r.1, r.2))
      ]
      | false ↦ λ e. elim h [ inl j ↦ (f.0, inl refl, inl (sym j)) | inr j ↦ (let r = to_marked fs x j in (r.0, inr r.1, r.2)) ]
    ] refl

pub of_standing : (ps : List ComponentState) (p : ComponentState) → Has p (standing ps) → Has p ps
of_standing [] p h = absurd h
of_standing (q ∷ ps) p h = elim (is_over q) as (λ (y : Bool). Has p (if not y then q ∷ standing ps else standing ps) → (p ≡ q) ⊎ Has p ps) [
  | true ↦ λ i. inr (of_standing ps p i)
  | false ↦ λ i. elim i [ inl e ↦ inl e | inr j ↦ inr (of_standing ps p j) ]
] h

pub to_standing : (ps : List ComponentState) (p : ComponentState) → Has p ps → p.life.gone ≡ false → Has p (standing ps)
to_standing [] p h g = absurd h
to_standing (q ∷ ps) p h g = elim (either (is_over q)) [
  | inr n ↦ rw n (elim h [ inl e ↦ inl e | inr j ↦ inr (to_standing ps p j g) ])
  | inl y ↦ elim h [
    | inl e ↦ (let z : is_over q ≡ false = rw (sym (ap (λ (x : ComponentState). x.life.gone) e) ∙ g) refl in clash (is_over q) y z)
    | inr j ↦ rw y (to_standing ps p j g)
  ]
]

-- ---- the items

pub counted_has : (j : ℕ) (counts : List ℕ) (fs : List Fitted) → AllByRecursion (λ (n : Coming). Has n.0 fs) (counted j counts fs)
counted_has j counts [] = tt
counted_has j counts (f ∷ fs) = (
  inl refl,
  all_more (λ (n : Coming). Has n.0 fs) (λ (n : Coming). Has n.0 (f
      ∷ fs)) (counted (suc j) counts fs) (λ n h. inr h) (counted_has (suc j) counts fs),
)

pub has_counted : (j : ℕ) (counts : List ℕ) (fs : List Fitted) (f : Fitted) → Has f fs → (n : Coming) × Has n (counted j counts fs) × (n.0 ≡ f)
has_counted j counts [] f h = absurd h
has_counted j counts (g ∷ fs) f (inl e) = ((g, get_or counts j 0), inl refl, sym e)
has_counted j counts (g ∷ fs) f (inr h) = let r = has_counted (suc j) counts fs f h in (r.0, inr r.1, r.2)

-- something comes for the name of an item
pub comes_for : (own : List ℕ) (ns : List Coming) (n : Coming) → Has n ns → name_of n.0 ≡ own → is_some (coming_for own ns) ≡ true
comes_for own [] n h e = absurd h
comes_for own (m ∷ ns) n h e = elim (either (bytes_eq own (name_of m.0))) [
  | inl y ↦ rw y refl
  | inr y ↦ rw y (elim h [
    | inl i ↦ clash (bytes_eq own (name_of m.0)) (subst (λ (z : List ℕ). bytes_eq own z ≡ true) (sym e ∙ ap (λ (z : Coming). name_of z.0) i) (same_bytes own)) y
    | inr i ↦ comes_for own ns n i e
  ])
]

abbrev pub bound : (List ℕ → ℕ) → List (List ℕ) → ℕ
bound r [] = 0
bound r (n ∷ ns) = r n + bound r ns

pub in_bound : (r : List ℕ → ℕ) (n : List ℕ) (ns : List (List ℕ)) → Has n ns → r n ≤ bound r ns
in_bound r n [] h = absurd h
in_bound r n (m ∷ ms) (inl e) = let x = ap r e in omega (arith, x)
in_bound r n (m ∷ ms) (inr h) = let i = in_bound r n ms h in omega (arith, i)

abbrev pub bound_all : (List ℕ → ℕ) → List Fitted → ℕ
bound_all r [] = 0
bound_all r (f ∷ fs) = bound r f.hard + bound_all r fs

pub in_bound_all : (r : List ℕ → ℕ) (n : List ℕ) (f : Fitted) (fs : List Fitted) → Has f fs → Has n f.hard → r n ≤ bound_all r fs
in_bound_all r n f [] h i = absurd h
in_bound_all r n f (g ∷ fs) (inl e) i = let x = in_bound r n g.hard (subst (λ (z : Fitted). Has n z.hard) e i) in omega (arith, x)
in_bound_all r n f (g ∷ fs) (inr h) i = let x = in_bound_all r n f fs h i in omega (arith, x)

pub by_parts : (a b c : Bool) → (a || (b || c)) ≡ false → (a ≡ false) × (b ≡ false) × (c ≡ false)
by_parts a b c e = let x = or_parts a (b || c) e in let y = or_parts b c x.1 in (x.0, y.0, y.1)

pub or_none : (a b : Bool) → (not a || b) ≡ true → b ≡ false → a ≡ false
or_none true b e f = clash b e f
or_none false b e f = refl

pub of_filter : {X : Type 0} (t : X → Bool) (xs : List X) (x : X) → Has x (filter t xs) → Has x xs × (t x ≡ true)
of_filter t [] x h = absurd h
of_filter {X} t (y ∷ xs) x h = elim (t y) as (λ (b : Bool). t y ≡ b → Has x (if b then y ∷ filter t xs else filter t xs) → ((x ≡ y) ⊎ Has x xs) ×
    (t x ≡ true)) [
      | true ↦ λ e i. elim i [ inl j ↦ (inl j, ap t j ∙ e) | inr j ↦ (let r = of_filter t xs x j in (inr r.0, r.1)) ]
      | false ↦ λ e i. (let r = of_filter t xs x i in (inr r.0, r.1))
    ] refl h

pub to_filter : {X : Type 0} (t : X → Bool) (xs : List X) (x : X) → Has x xs → t x ≡ true → Has x (filter t xs)
to_filter t [] x h e = absurd h
to_filter {X} t (y ∷ xs) x h e = elim (t y) as (λ (b : Bool). t y ≡ b → Has x (if b then y ∷ filter t xs else filter t xs)) [
  | true ↦ λ f. elim h [ inl j ↦ inl j | inr j ↦ inr (to_filter t xs x j e) ]
  | false ↦ λ f. elim h [ inl j ↦ clash (t y) (sym (ap t j) ∙ e) f | inr j ↦ to_filter t xs x j e ]
] refl
