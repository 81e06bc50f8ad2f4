-- What stands against one more place, and what nothing standing against it says.
use Rattle.std.proofs.Common.{◌≡◌, ◌≢◌, ◌↔◌, ℕ, ◌⊎◌, true, eqb, List, [], ◌∷◌, ◌++◌, Option, Some, None, refl, sym, ap, ◌∙◌, subst, inl, inr}
use Rattle.std.specs.Prelude.{IfSome, filter, slice_index_or}
use Rattle.std.specs.List.{Contains}
use Rattle.std.proofs.lemmas.Bool.{cases_eq, eqb-true, eq-eqb}
use Rattle.std.proofs.lemmas.Option.{same_Some, none-some}
use Rattle.std.proofs.lemmas.List.Elements.{Contains-append_left, Contains-push, Contains-push_cases}
use Rattle.nuc_base.specs.Leads.{HasPath, direct}
use Rattle.nuc_base.proofs.Lists.{in_nil}
use Rattle.dep_order.proofs.Filtered.{in_filter, filter_has}
use Rattle.npm_ranges.specs.Ranges.{IsInRange}
use Rattle.recipe_reader.specs.Members.{Need, Member}
use Rattle.recipe_reader.specs.Sets.{name_of, version_of, needs_of, IsMetBy, HasDependency}
use Rattle.recipe_reader.specs.Searches.{IsConsistent, IsSuited}
use Rattle.recipe_reader.proofs.Required.{required_by_need}
use Rattle.recipe_reader.proofs.ValidSets.{complete_from}
use Rattle.conflict_search.specs.Conflicts.{CannotStand, IsConflict, IsConflictWith, AreInRange, IsInRangeWith}
use Rattle.conflict_search.specs.Numbers.{IsNumber, IsUnknown, IsNumberAt}
use Rattle.conflict_search.specs.Claims.{Claim, claims_from, claims_of, demand_need, claim, AreDemands}
use Rattle.conflict_search.specs.Boards.{IsChosen}
use Rattle.conflict_search.specs.Stands.{IsMetIn}
use Rattle.conflict_search.specs.declared.demands.Demand.{Demand}
use Rattle.conflict_search.proofs.Prefixes.{nogood_bad}
use Rattle.conflict_search.proofs.Finding.{number_same}
use Rattle.conflict_search.proofs.Indexing.{row}
use Rattle.conflict_search.proofs.Claiming.{IsClaimOf, wanted_claim, need_claim, from_claims, from_claims_from, claim_in, demand_for, claim_for, number_for}

module _ (ms : List Member) (wanted : List Need) where
  -- ---- places in range

  pub in_range_start : AreInRange ms wanted []
  in_range_start = record { wanted_hold = λ p i. absurd (in_nil p i); needs_hold = λ p q i j ne. absurd (in_nil p i) }

  pub in_range_push : (taken : List ℕ) (p : ℕ) → AreInRange ms wanted taken → IsInRangeWith ms wanted taken p → AreInRange ms wanted (taken ++ p ∷ [])
  in_range_push taken p h with' = record {
    wanted_hold = λ x i. elim (Contains-push_cases taken p x i) [ inl a ↦ h.wanted_hold x a | inr e ↦ subst (IsSuited ms wanted) e with'.wanted_hold ];
    needs_hold = λ x y i j ne. elim (Contains-push_cases taken p x i) [
      | inl a ↦ elim (Contains-push_cases taken p y j) [
        | inl b ↦ h.needs_hold x y a b ne
        | inr f ↦ subst (IsSuited ms (needs_of ms x)) f (with'.asked_hold x a)
      ]
      | inr e ↦ elim (Contains-push_cases taken p y j) [
        | inl b ↦ subst (λ z. IsSuited ms (needs_of ms z) y) e (with'.needs_hold y b)
        | inr f ↦ absurd (ne (sym e ∙ f))
      ]
    ];
  }

  pub consistent_from : (taken : List ℕ) → AreInRange ms wanted taken → ((p : ℕ) → HasPath (HasDependency ms taken) p p → ⊥) → IsConsistent ms wanted taken
  consistent_from taken h acyclic = record {
    wanted_hold = λ w j p i e. h.wanted_hold p i w j e;
    needs_hold = λ p i d k q j e. elim (cases_eq p q) [
      | inl same ↦ absurd (acyclic p (direct (record { from = i; to = i; by = d; is = k; named = ap (name_of ms) same ∙ e })))
      | inr ne ↦ h.needs_hold p q i j ne d k e
    ];
    acyclic = acyclic;
  }

  -- ---- places that cannot stand

  pub nogood_need : (s : List ℕ) (p q : ℕ) (d : Need) → Contains s p → Contains s q → Contains (needs_of ms p) d → name_of ms q ≡ Some d.name →
      (IsMetBy ms d.name d.range q → ⊥) → CannotStand ms wanted s
  nogood_need s p q d i j k e bad = nogood_bad ms wanted s (λ c. bad (c.needs_hold p i d k q j e))

  pub nogood_wanted : (s : List ℕ) (p : ℕ) (w : Need) → Contains s p → Contains wanted w → name_of ms p ≡ Some w.name → (IsMetBy ms w.name w.range p → ⊥) →
      CannotStand ms wanted s
  nogood_wanted s p w i k e bad = nogood_bad ms wanted s (λ c. bad (c.wanted_hold w k p i e))

  pub nogood_unknown : (s : List ℕ) (p : ℕ) (d : Need) → Contains s p → Contains (needs_of ms p) d → IsUnknown ms d.name → CannotStand ms wanted s
  nogood_unknown s p d i k unknown = record {
    none = λ walk w c within. (let t = complete_from ms wanted [] walk w d.name (required_by_need ms wanted walk p d (within p i) k) in unknown t.0 t.2);
  }

-- ---- versions and ranges

met_by : (ms : List Member) (name range version : List ℕ) (p : ℕ) → name_of ms p ≡ Some name → version_of ms p ≡ Some version → IsInRange version range →
    IsMetBy ms name range p
met_by ms name range version p n v m = record { named = n; meets = subst (λ o. IfSome o (λ v. IsInRange v range)) (sym v) m }

not_met : (ms : List Member) (name range version : List ℕ) (p : ℕ) → version_of ms p ≡ Some version → (IsInRange version range → ⊥)
    → IsMetBy ms name range p → ⊥
not_met ms name range version p v bad h = bad (subst (λ o. IfSome o (λ v. IsInRange v range)) v h.meets)

-- ---- what is asked of the name

module _ (ms : List Member) (wanted : List Need) (taken : List ℕ) (asked : List Demand) (place number : ℕ) (version : List ℕ) (h : AreDemands ms
    (claims_of ms wanted taken) asked) (at : IsNumberAt ms place number) (v : version_of ms place ≡ Some version) where
  -- a claim on the place's name stands in the row of its number
  row_for : (c : Claim) → Contains (claims_of ms wanted taken) c → name_of ms place ≡ Some c.need.name → (d : Demand) × Contains (row number asked) d ×
      (claim d ≡ c)
  row_for c i e =
      let r = demand_for ms (claims_of ms wanted taken) asked c h i in
      let named : r.0.name.now ≡ at.name = ap (λ (x : Claim). x.need.name) r.2 ∙ sym (same_Some at.name c.need.name (sym at.named ∙ e)) in
      let same = number_same ms at.name r.0.number number (subst (λ n. IsNumber ms n r.0.number) named (number_for ms (claims_of ms wanted taken) asked r.0 h
      r.1)) at.is in
      (r.0, filter_has (λ (d : Demand). eqb d.number number) asked r.0 r.1 (eq-eqb r.0.number number same), r.2)

  claim_met : ((d : Demand) → Contains (row number asked) d → IsInRange version d.range.now) → (c : Claim) → Contains (claims_of ms wanted taken) c →
      name_of ms place ≡ Some c.need.name → IsMetBy ms c.need.name c.need.range place
  claim_met all c i e =
      let r = row_for c i e in
      met_by ms c.need.name c.need.range version place e v (subst (λ (x : Claim). IsInRange version x.need.range) r.2 (all r.0 r.1))

  pub wanted_met : ((d : Demand) → Contains (row number asked) d → IsInRange version d.range.now) → IsSuited ms wanted place
  wanted_met all = λ w i e. claim_met all (record { from = None; need = w }) (wanted_claim ms wanted taken w i) e

  pub asked_met : ((d : Demand) → Contains (row number asked) d → IsInRange version d.range.now) → (q : ℕ) → Contains taken q
      → IsSuited ms (needs_of ms q) place
  asked_met all = λ q j d i e. claim_met all (record { from = Some q; need = d }) (need_claim ms wanted taken q d j i) e

  -- a demand of the row that is not met
  pub refused_conflict : (d : Demand) (both : List ℕ) → Contains (row number asked) d → (IsInRange version d.range.now → ⊥) →
      ((x : ℕ) → Contains both x ↔ (place ≡ x) ⊎ (d.from ≡ Some x)) → IsConflictWith ms wanted taken place both
  refused_conflict d both i bad are =
      let r = in_filter (λ (e : Demand). eqb e.number number) asked d i in
      let numbered = number_for ms (claims_of ms wanted taken) asked d h r.0 in
      let k = eqb-true d.number number r.1 in
      let there : name_of ms number ≡ Some d.name.now = subst (λ z. name_of ms z ≡ Some d.name.now) k numbered.named in
      let known = at.is in
      let named : name_of ms place ≡ Some d.name.now = at.named ∙ sym known.named ∙ there in
      let here : Contains both place = (are place).1 (inl refl) in
      let not' = not_met ms d.name.now d.range.now version place v bad in
      elim (from_claims ms wanted taken (claim d) (claim_for ms (claims_of ms wanted taken) asked d h r.0)) [
        | inl w ↦ record {
          nogood = nogood_wanted ms wanted both place (demand_need d) here w.1 named not';
          within = λ x j. elim ((are x).0 j) [
            | inl e ↦ subst (Contains (taken ++ place ∷ [])) e (Contains-push taken place)
            | inr e ↦ absurd (none-some x (sym w.0 ∙ e))
          ];
        }
        | inr w ↦ (let by = w.1 in record {
          nogood = nogood_need ms wanted both w.0 place (demand_need d) ((are w.0).1 (inr by.from)) here by.is named not';
          within = λ x j. elim ((are x).0 j) [
            | inl e ↦ subst (Contains (taken ++ place ∷ [])) e (Contains-push taken place)
            | inr e ↦ Contains-append_left taken (place ∷ []) x (subst (Contains taken) (same_Some w.0 x (sym by.from ∙ e)) by.place)
          ];
        })
      ]

-- ---- what the place asks of those that are taken

module _ (ms : List Member) (wanted : List Need) (taken : List ℕ) (chosen : List (Option ℕ)) (place : ℕ) (demands : List Demand) (is : IsChosen ms taken
    chosen) (h : AreDemands ms (claims_from (Some place) (needs_of ms place)) demands) where
  pub needs_met : ((d : Demand) (q : ℕ) → Contains demands d → slice_index_or chosen d.number None ≡ Some q → IsMetIn ms d.range.now q) → (q : ℕ) →
      Contains taken q → IsSuited ms (needs_of ms place) q
  needs_met all = λ q j d i e.
      let r = demand_for ms (claims_from (Some place) (needs_of ms place)) demands (record {
        from = Some place;
        need =
            d;
      }) h (claim_in (Some place) (needs_of ms place) d i) in
      let name = ap (λ (c : Claim). c.need.name) r.2 in
      let numbered = subst (λ n. IsNumber ms n r.0.number) name (number_for ms (claims_from (Some place) (needs_of ms place)) demands r.0 h r.1) in
      let met = all r.0 q r.1 (is.has q r.0.number d.name j e numbered) in
      record { named = e; meets = subst (λ (c : Claim). IsMetIn ms c.need.range q) r.2 met }

  pub unfit_conflict : (d : Demand) (q : ℕ) (both : List ℕ) → Contains demands d → slice_index_or chosen d.number None ≡ Some q →
      (IsMetIn ms d.range.now q → ⊥) → ((x : ℕ) → Contains both x ↔ (place ≡ x) ⊎ (Some q ≡ Some x)) → IsConflictWith ms wanted taken place both
  unfit_conflict d q both i e bad are =
      let there = is.only q d.number e in
      let at = there.1 in
      let known = at.is in
      let numbered = number_for ms (claims_from (Some place) (needs_of ms place)) demands d h i in
      let named : name_of ms q ≡ Some d.name.now = at.named ∙ sym known.named ∙ numbered.named in
      let by = from_claims_from (Some place) (needs_of ms place) (claim d) (claim_for ms (claims_from (Some place) (needs_of ms place)) demands d h i) in
      record {
        nogood = nogood_need ms wanted both place q (demand_need d) ((are place).1 (inl refl)) ((are q).1 (inr refl)) by.1 named (λ m. bad m.meets);
        within = λ x j. elim ((are x).0 j) [
          | inl f ↦ subst (Contains (taken ++ place ∷ [])) f (Contains-push taken place)
          | inr f ↦ Contains-append_left taken (place ∷ []) x (subst (Contains taken) (same_Some q x f) there.0)
        ];
      }

-- the place asks for a name that no candidate has
pub unknown_conflict : (ms : List Member) (wanted : List Need) (taken : List ℕ) (place : ℕ) (d : Need) (both : List ℕ) → Contains (needs_of ms place) d →
    IsUnknown ms d.name → ((x : ℕ) → Contains both x ↔ (place ≡ x) ⊎ (None ≡ Some x)) → IsConflictWith ms wanted taken place both
unknown_conflict ms wanted taken place d both i unknown are = record {
  nogood = nogood_unknown ms wanted both place d ((are place).1 (inl refl)) i unknown;
  within = λ x j. elim ((are x).0 j) [
    | inl f ↦ subst (Contains (taken ++ place ∷ [])) f (Contains-push taken place)
    | inr f ↦ absurd (none-some x f)
  ];
}
