-- The bootstraps of a plan are those of different items.
use Rattle.std.proofs.Common.{◌≡◌, ℕ, ◌<◌, ◌≤◌, ◌+◌, eqb, Bool, true, false, List, [], ◌∷◌, ◌++◌, length, get_or, refl, sym, ap, subst, ◌∙◌, inl, inr, arith}
use Rattle.std.specs.Prelude.{Some}
use Rattle.std.specs.List.{AllZip, Contains, IsDistinct}
use Rattle.std.specs.Str.{bytes_eq}
use Rattle.std.proofs.lemmas.Bool.{cases_lt, ne_eqb}
use Rattle.std.proofs.lemmas.List.Elements.{Contains-append_left, Contains-push, recursion_from_All}
use Rattle.std.proofs.lemmas.Slice.Eq.{bytes_eq-Decides}
use Rattle.std.proofs.lemmas.Option.{slice_get_within, get_or_from_slice_get}
use Rattle.std.proofs.lemmas.List.Kept.{AllPairs-from_increasing}
use Rattle.nuc_base.proofs.Lists.{in_nil, in_cons, all_from_in, at_most}
use Rattle.dep_order.specs.Orders.{IsOrderAfter, IsWholeOrder}
use Rattle.dep_order.specs.declared.Edges.{Edges}
use Rattle.recipe_reader.specs.Members.{Need, members}
use Rattle.recipe_reader.specs.Sets.{IsValid, name_in}
use Rattle.recipe_reader.specs.declared.candidate.Candidate.{Candidate}
use Rattle.records.specs.Stored.{Item}
use Rattle.records.specs.declared.record.Origin.{Origin}
use Rattle.device.specs.Plans as device
use Rattle.device.specs.Plans.{IsBoot}
use Rattle.device.specs.Limits.{most_elements}
use Rattle.plan_core.specs.Boots.{IsDue, name_at, ArePicked, AreBoots, edges_of}
use Rattle.plan_core.specs.Set.{chosen}
use Rattle.plan_core.proofs.Filling.{IsMade}
use Rattle.plan_core.proofs.Growing.{element, chosen_at}
use Rattle.plan_core.proofs.Needing.{order_places}
use Rattle.plan_core.proofs.Planned.{inside}
use Rattle.plan_core.proofs.Supplying.{right_of, at_place}

-- ---- an order takes no place twice

order_fresh : (edges : Edges) (taken ps : List ℕ) → IsOrderAfter edges taken ps → (q : ℕ) → Contains ps q → Contains taken q → ⊥
order_fresh edges taken [] h q i j = in_nil q i
order_fresh edges taken (p ∷ ps) h q i j = elim (in_cons p ps q i) [
  | inl same ↦ h.0.is_open.untaken (subst (Contains taken) (sym same) j)
  | inr there ↦ order_fresh edges (taken ++ p ∷ []) ps h.1 q there (Contains-append_left taken (p ∷ []) q j)
]

order_differs : (edges : Edges) (taken ps : List ℕ) → IsOrderAfter edges taken ps → IsDistinct eqb ps
unfolding IsDistinct
order_differs edges taken [] h = tt
order_differs edges taken (p ∷ ps) h = (
  recursion_from_All (λ q. eqb p q ≡ false) ps
      (all_from_in (λ q. eqb p q ≡ false) ps (λ q i. ne_eqb p q
      (λ same. order_fresh edges (taken ++ p ∷ []) ps h.1 q i (subst (Contains (taken ++ p ∷ [])) same (Contains-push taken p))))),
  order_differs edges (taken ++ p ∷ []) ps h.1,
)

order_few : (edges : Edges) (order : List ℕ) → IsWholeOrder edges order → length order ≤ edges.nodes
order_few edges order h = at_most order edges.nodes (order_differs edges [] order h.order) (order_places edges order h)

picked_few : (Due : ℕ → Type 0) (cs : List Candidate) (ps : List ℕ) (names : List (List ℕ)) → ArePicked Due cs ps names → length names ≤ length ps
picked_few Due cs [] names h = subst (λ (l : List (List ℕ)). length l ≤ 0) (sym h) (omega arith)
picked_few Due cs (p ∷ ps) names (inl h) =
    let same = ap (λ (l : List (List ℕ)). length l) h.2 in
    let few = picked_few Due cs ps h.1 h.5 in
    omega (arith, same, few)
picked_few Due cs (p ∷ ps) names (inr h) = let few = picked_few Due cs ps names h.1 in omega (arith, few)

-- ---- names at places

unequal_by : (a b : List ℕ) (e : Bool) → bytes_eq a b ≡ e → (a ≡ b → ⊥) → bytes_eq a b ≡ false
unequal_by a b true is other = absurd (other ((bytes_eq-Decides a b).0 is))
unequal_by a b false is other = is

module _ (cs : List Candidate) (wanted : List Need) (set : List ℕ) (valid : IsValid (members cs) wanted set) where
  apart : (a b : ℕ) (n : List ℕ) → a < b → name_at (chosen cs set) a n → name_at (chosen cs set) b n → ⊥
  apart a b n lt first second =
      let low = chosen_at cs set (inside cs wanted set valid) a first.0 first.1 in
      let high = chosen_at cs set (inside cs wanted set valid) b second.0 second.1 in
      let same = valid.one_version low.place high.place (element set a low.place low.listed) (element set b high.place high.listed)
      (ap name_in (at_place cs low.place first.0 low.there) ∙ ap (λ (m : List ℕ). Some m) (first.2 ∙ sym second.2) ∙ sym
      (ap name_in (at_place cs high.place second.0 high.there))) in
      let climb : get_or set a 0 < get_or set b 0 = AllPairs-from_increasing set valid.rising a b 0 lt (slice_get_within set b high.place high.listed) in
      let from = get_or_from_slice_get set a low.place 0 low.listed in
      let to = get_or_from_slice_get set b high.place 0 high.listed in
      omega (arith, same, climb, from, to)

  one_place : (a b : ℕ) (n : List ℕ) → name_at (chosen cs set) a n → name_at (chosen cs set) b n → a ≡ b
  one_place a b n first second = elim (cases_lt a b) [
    | inl lt ↦ absurd (apart a b n lt first second)
    | inr ge ↦ elim (cases_lt b a) [ inl lt ↦ absurd (apart b a n lt second first) | inr le ↦ omega (arith, ge, le) ]
  ]

  module _ (Due : ℕ → Type 0) (edges : Edges) where
    -- a name that was picked of a place that was not taken
    record IsPicked (taken : List ℕ) (n : List ℕ) : Type 0 where
      at : ℕ
      untaken : Contains taken at → ⊥
      named : name_at (chosen cs set) at n
      due : Due at

    fewer : (taken : List ℕ) (p : ℕ) (n : List ℕ) → IsPicked (taken ++ p ∷ []) n → IsPicked taken n
    fewer taken p n h = record { at = h.at; untaken = λ i. h.untaken (Contains-append_left taken (p ∷ []) h.at i); named = h.named; due = h.due }

    picked : (taken ps : List ℕ) (names : List (List ℕ)) → IsOrderAfter edges taken ps → ArePicked Due (chosen cs set) ps names → (n : List ℕ) →
        Contains names n → IsPicked taken n
    picked taken [] names h none n i = absurd (in_nil n (subst (λ (l : List (List ℕ)). Contains l n) none i))
    picked taken (p ∷ ps) names h (inl k) n i = elim (in_cons k.0 k.1 n (subst (λ (l : List (List ℕ)). Contains l n) k.2 i)) [
      | inl same ↦ record { at = p; untaken = h.0.is_open.untaken; named = subst (name_at (chosen cs set) p) same k.4; due = k.3 }
      | inr there ↦ fewer taken p n (picked (taken ++ p ∷ []) ps k.1 h.1 k.5 n there)
    ]
    picked taken (p ∷ ps) names h (inr k) n i = fewer taken p n (picked (taken ++ p ∷ []) ps names h.1 k.1 n i)

    other : (taken : List ℕ) (p : ℕ) (n m : List ℕ) → name_at (chosen cs set) p n → IsPicked (taken ++ p ∷ []) m → n ≡ m → ⊥
    other taken p n m named h same =
        let one = one_place p h.at m (subst (name_at (chosen cs set) p) same named) h.named in
        h.untaken (subst (Contains (taken ++ p ∷ [])) one (Contains-push taken p))

    differ : (taken ps : List ℕ) (names : List (List ℕ)) → IsOrderAfter edges taken ps → ArePicked Due (chosen cs set) ps names → IsDistinct bytes_eq names
    unfolding IsDistinct
    differ taken [] names h none = subst (IsDistinct bytes_eq) (sym none) tt
    differ taken (p ∷ ps) names h (inl k) = subst (IsDistinct bytes_eq) (sym k.2) (
      recursion_from_All (λ m. bytes_eq k.0 m ≡ false) k.1
          (all_from_in (λ m. bytes_eq k.0 m ≡ false) k.1 (λ m i. unequal_by k.0 m (bytes_eq k.0 m) refl
          (other taken p k.0 m k.4 (picked (taken ++ p ∷ []) ps k.1 h.1 k.5 m i)))),
      differ (taken ++ p ∷ []) ps k.1 h.1 k.5,
    )
    differ taken (p ∷ ps) names h (inr k) = differ (taken ++ p ∷ []) ps names h.1 k.1

  -- ---- the whole

  module _ (o : Origin) (old shown items : List Item) (made : AllZip (IsMade o.platform) (chosen cs set) items) where
    boot_of : (n : List ℕ) → IsPicked (IsDue o old (chosen cs set) shown) (edges_of (chosen cs set)) [] n → IsBoot o.platform items n
    boot_of n h =
        let r = right_of (IsMade o.platform) (chosen cs set) items made h.at h.due.candidate h.due.there in
        let both : Some h.named.0 ≡ Some h.due.candidate = sym h.named.1 ∙ h.due.there in
        let same : h.named.0 ≡ h.due.candidate = cc in
        record {
          item = r.0;
          is_one = r.1;
          named = sym r.2.name ∙ ap (λ (c : Candidate). c.recipe.name) (sym same) ∙ h.named.2;
          recipe = h.due.candidate.recipe;
          reads = r.2.reads;
          step = h.due.step;
        }

    pub boots_are : (boots : List (List ℕ)) → length (chosen cs set) ≤ most_elements → AreBoots o old (chosen cs set) shown boots →
        device.AreBoots o.platform items boots
    boots_are boots few h =
        let short = picked_few (IsDue o old (chosen cs set) shown) (chosen cs set) h.0 boots h.2 in
        let long = order_few (edges_of (chosen cs set)) h.0 h.1 in
        record {
          few = omega (arith, few, short, long);
          differ = differ (IsDue o old (chosen cs set) shown) (edges_of (chosen cs set)) [] h.0 boots h.1.order h.2;
          each = recursion_from_All (IsBoot o.platform items) boots
              (all_from_in (IsBoot o.platform items) boots (λ n i. boot_of n
              (picked (IsDue o old (chosen cs set) shown) (edges_of (chosen cs set)) [] h.0 boots h.1.order h.2 n i)));
        }
