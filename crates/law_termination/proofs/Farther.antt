-- Whoever reaches a component stands above it in an order of what components need.
use Rattle.std.proofs.Common.{◌≡◌, ◌<◌, ◌≤◌, ℕ, suc, zero, List, [], ◌∷◌, length, map, Bool, true, false, refl, sym, ap, ◌∙◌, ◌⊎◌, inl, inr, arith, subst}
use Rattle.std.specs.Prelude.{◌&&◌}
use Rattle.std.specs.List.{AllByRecursion, list_any}
use Rattle.std.specs.Str.{bytes_eq}
use Rattle.std.proofs.lemmas.Bool.{and_parts}
use Rattle.std.proofs.lemmas.Slice.Eq.{bytes_eq-Decides}
use Rattle.components.specs.Components.{ComponentState, is_to_stop, component_name}
use Rattle.components.specs.Marks.{Flagged, flagged, grown, is_flagged, needs_flagged, reaching}
use Rattle.components.specs.Turns.{with_hard_needs, is_held_far, direct_dependents, hard_needs, dependents}
use Rattle.law_supervisor.proofs.Lists.{clash, either}
use Rattle.law_termination.specs.Kept.{AllBelow}
use Rattle.law_termination.proofs.Lists.{Has, each_has, passing}
use Rattle.law_termination.proofs.Near.{or_cases}

-- Some are passed over: nobody that is not passed over needs the name of one that is.
module _ (r : List ℕ → ℕ) (skip : ComponentState → Bool) (all : List ComponentState) (below : (p : ComponentState) → Has p all → skip p ≡ false →
    AllBelow r (r (component_name p)) (hard_needs p))
    (apart : (p : ComponentState) → Has p all → skip p ≡ false → (n : List ℕ) → Has n (hard_needs p) → (q : ComponentState) → Has q all →
    component_name q ≡ n → skip q ≡ false)
    (counts : (q : ComponentState) → Has q all → is_to_stop q ≡ true → skip q ≡ false) where
  abbrev IsAbove : ℕ → ComponentState × Bool → Type 0
  IsAbove j f = (p : ComponentState) × Has p all × (f.0 ≡ with_hard_needs p) × (f.1 ≡ true → (skip p ≡ true) ⊎ (j < r (component_name p)))

  -- one of those that are flagged and have the name
  found : (j : ℕ) (n : List ℕ) (fs : Flagged) → AllByRecursion (IsAbove j) fs → is_flagged n fs ≡ true → (p : ComponentState) × Has p all ×
      (component_name p ≡ n) × ((skip p ≡ true) ⊎ (j < r n))
  found j n [] a e = absurd (cc)
  found j n (f ∷ fs) a e = elim (or_cases (f.1 && bytes_eq (component_name f.0) n) (is_flagged n fs) e) [
    | inl x ↦ (let y = and_parts f.1 (bytes_eq (component_name f.0) n) x in
        let o = a.0 in
        let same : component_name o.0 ≡ n = sym (ap component_name o.2) ∙ (bytes_eq-Decides (component_name f.0) n).0 y.1 in
        (o.0, o.1, same, elim (o.3 y.0) [ inl g ↦ inl g | inr l ↦ inr (subst (λ (m : List ℕ). j < r m) same l) ]))
    | inr x ↦ found j n fs a.1 x
  ]

  one_above : (j : ℕ) (fs : Flagged) → AllByRecursion (IsAbove j) fs → (p : ComponentState) → Has p all → (ns : List (List ℕ)) →
      ((n : List ℕ) → Has n ns → Has n (hard_needs p)) → needs_flagged ns fs ≡ true → (skip p ≡ true) ⊎ (j < r (component_name p))
  one_above j fs a p h [] f e = absurd (cc)
  one_above j fs a p h (n ∷ ns) f e = elim (either (skip p)) [
    | inl g ↦ inl g
    | inr g ↦ elim (or_cases (is_flagged n fs) (needs_flagged ns fs) e) [
      | inl x ↦ (let o = found j n fs a x in
          let b = each_has (λ m. r m < r (component_name p)) n (hard_needs p) (f n (inl refl)) (below p h g) in
          elim o.3 [ inl y ↦ clash (skip o.0) y (apart p h g n (f n (inl refl)) o.0 o.1 o.2) | inr l ↦ inr (omega (arith, b, l)) ])
      | inr x ↦ one_above j fs a p h ns (λ m i. f m (inr i)) x
    ]
  ]

  grown_above : (j : ℕ) (fs gs : Flagged) → AllByRecursion (IsAbove j) fs → AllByRecursion (IsAbove j) gs → AllByRecursion (IsAbove j) (grown fs gs)
  grown_above j fs [] a b = tt
  grown_above j fs (f ∷ gs) a b = ((b.0.0, b.0.1, b.0.2, λ e. one (or_cases f.1 (needs_flagged f.0.fitted.hard fs) e)), grown_above j fs gs a b.1)
    where
      one : (f.1 ≡ true) ⊎ (needs_flagged f.0.fitted.hard fs ≡ true) → (skip b.0.0 ≡ true) ⊎ (j < r (component_name b.0.0))
      one (inl e) = b.0.3 e
      one (inr e) = one_above j fs a b.0.0 b.0.1 (hard_needs b.0.0) (λ n h. h) (subst (λ (z : ComponentState). needs_flagged z.fitted.hard fs ≡ true) b.0.2 e)

  reaching_above : (j n : ℕ) (fs : Flagged) → AllByRecursion (IsAbove j) fs → AllByRecursion (IsAbove j) (reaching n fs)
  reaching_above j zero fs a = a
  reaching_above j (suc n) fs a = reaching_above j n (grown fs fs) (grown_above j fs fs a a)

  first_above : (own : List ℕ) (ps : List ComponentState) → ((p : ComponentState) → Has p ps → Has p all) →
      AllByRecursion (IsAbove (r own)) (flagged (λ q. list_any (bytes_eq own) q.fitted.hard) (map with_hard_needs ps))
  first_above own [] f = tt
  first_above own (p ∷ ps) f = ((p, f p (inl refl), refl, λ e. one e), first_above own ps (λ q h. f q (inr h)))
    where
      one : list_any (bytes_eq own) (hard_needs p) ≡ true → (skip p ≡ true) ⊎ (r own < r (component_name p))
      one e = elim (either (skip p)) [
        | inl g ↦ inl g
        | inr g ↦ (let o = passing (bytes_eq own) (hard_needs p) e in
            inr (subst (λ (m : List ℕ). r m < r (component_name p)) (sym ((bytes_eq-Decides own o.one).0 o.passes))
            (each_has (λ m. r m < r (component_name p)) o.one (hard_needs p) o.here (below p (f p (inl refl)) g))))
      ]

  none_above : (own : List ℕ) (fs : Flagged) → ((q : ComponentState) → Has q all → is_to_stop q ≡ true → r (component_name q) ≤ r own) →
      AllByRecursion (IsAbove (r own)) fs → list_any (λ (f : ComponentState × Bool). f.1 && is_to_stop f.0) fs ≡ false
  none_above own [] g a = refl
  none_above own (f ∷ fs) g a = rw (one (f.1 && is_to_stop f.0) refl) (none_above own fs g a.1)
    where
      one : (b : Bool) → (f.1 && is_to_stop f.0) ≡ b → (f.1 && is_to_stop f.0) ≡ false
      one false e = e
      one true e =
          let x = and_parts f.1 (is_to_stop f.0) e in
          let o = a.0 in
          let stop : is_to_stop o.0 ≡ true = subst (λ (z : ComponentState). is_to_stop z ≡ true) o.2 x.1 in
          let l = g o.0 o.1 stop in
          elim (o.3 x.0) [ inl y ↦ clash (skip o.0) y (counts o.0 o.1 stop) | inr y ↦ absurd (omega (arith, l, y)) ]

  -- nobody that is to be stopped reaches the greatest
  pub none_reaches : (n : List ℕ) → ((q : ComponentState) → Has q all → is_to_stop q ≡ true → r (component_name q) ≤ r n) → is_held_far n all ≡ false
  none_reaches n g = none_above n (dependents n all) g (reaching_above (r n) (length (direct_dependents n all)) (direct_dependents n all) (first_above n all
      (λ p h. h)))
