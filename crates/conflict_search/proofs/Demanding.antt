-- What a demand rules out.
use Rattle.std.proofs.Common.{◌≡◌, ◌↔◌, ℕ, ◌+◌, ◌-◌, ◌<◌, ◌≤◌, ◌⊎◌, List, [], ◌∷◌, length, Option, Some, refl, sym, ap, ◌∙◌, subst, inl, inr, arith}
use Rattle.std.specs.List.{All, Contains}
use Rattle.std.proofs.lemmas.Option.{same_Some}
use Rattle.nuc_base.specs.Leads.{direct}
use Rattle.nuc_base.proofs.Lists.{in_one, in_cons, in_here, in_there, all_from_in}
use Rattle.recipe_reader.specs.Members.{Need, Member}
use Rattle.recipe_reader.specs.Sets.{name_of, needs_of}
use Rattle.recipe_reader.proofs.Required.{required_by_wanted, required_by_need}
use Rattle.recipe_reader.proofs.ValidSets.{complete_from}
use Rattle.conflict_search.specs.Numbers.{IsNumber, IsFirstPlace}
use Rattle.conflict_search.specs.Claims.{Claim, claims_from, demand_need, claim, AreDemands}
use Rattle.conflict_search.specs.Stands.{IsMetIn}
use Rattle.conflict_search.specs.Terms.{Has, IsValue, IsTerm, Stands, Meets, IsNogood}
use Rattle.conflict_search.specs.Facts.{IsDemandOf, IsGroup}
use Rattle.conflict_search.specs.declared.demands.Demand.{Demand}
use Rattle.conflict_search.specs.declared.groups.Group.{Group}
use Rattle.conflict_search.specs.declared.terms.Term.{Term}
use Rattle.conflict_search.proofs.Claiming.{from_claims_from, claim_for, number_for}
use Rattle.conflict_search.proofs.Learning.{name_same, value_same}

-- the values are "absent", and those of places out of the range
abbrev pub HasAgainst : List Member → ℕ → List ℕ → Term → Type 0
HasAgainst ms number range t = (v : ℕ) → Has t.set.items v ↔ (v ≡ 0)
    ⊎ ((q : ℕ) × (name_of ms q ≡ name_of ms number) × (v ≡ q + 1 - t.from) × (IsMetIn ms range q → ⊥))

module _ (ms : List Member) (wanted : List Need) where
  -- a walk with a place in the range does not meet the term
  out_of_range : (walk : List ℕ) (n : List ℕ) (u : Term) (number : ℕ) (range : List ℕ) (q : ℕ) → Stands ms wanted walk → IsNumber ms n number →
      IsFirstPlace ms n u.from → HasAgainst ms number range u → Contains walk q → name_of ms q ≡ Some n → IsMetIn ms range q → Meets ms walk u → ⊥
  out_of_range walk n u number range q s is first against i e holds m =
      let own : IsValue ms walk u.from (q + 1 - u.from) = record { name = n; is = first; choice = inr (q, i, e, refl) } in
      let same : m.0 ≡ q + 1 - u.from = value_same ms wanted walk u.from m.0 (q + 1 - u.from) s m.1 own in
      let low = first.least q e in
      elim ((against m.0).0 m.2) [
        | inl z ↦ absurd (omega (arith, same, z, low))
        | inr r ↦ (let low' = first.least r.0 (r.1 ∙ is.named) in
            let here = r.2 in
            let is_q : q ≡ r.0 = omega (arith, low, low', same, here) in
            r.3 (subst (IsMetIn ms range) is_q holds))
      ]

  -- what is wanted
  pub wish_fact : (w : Need) (number : ℕ) (u : Term) → Contains wanted w → IsNumber ms w.name number → IsTerm ms u → IsFirstPlace ms w.name u.from →
      HasAgainst ms number w.range u → IsNogood ms wanted (u ∷ [])
  wish_fact w number u i is term first against = record {
    sets = λ t j. subst (IsTerm ms) (in_one u t j) term;
    none = λ walk s met.
        (let q = complete_from ms wanted [] walk s.is_walk w.name (required_by_wanted ms wanted walk w i) in
        let good = s.consistent in
        let holds = good.wanted_hold w i q.0 q.1 q.2 in
        out_of_range walk w.name u number w.range q.0 s is first against q.1 q.2 holds.meets (met u (in_here u [])));
  }

  -- a walk that meets the term of a group has one of its places
  group_place : (walk : List ℕ) (first : ℕ) (g : Group) → IsGroup ms first g → Meets ms walk g.by →
      (p : ℕ) × Contains walk p × Contains (needs_of ms p) (demand_need g.need) × ((n : List ℕ) → IsFirstPlace ms n first → name_of ms p ≡ Some n)
  group_place walk first g h m =
      let value = m.1 in
      let q = h.only m.0 m.2 in
      let low = q.1 in
      let val = q.2 in
      let from = h.from in
      elim value.choice [
        | inl z ↦ (let zero = z.0 in absurd (omega (arith, zero, low, val)))
        | inr r ↦ (let is = value.is in
            let below = is.least r.0 r.2 in
            let here = r.3 in
            let same : q.0 ≡ r.0 = omega (arith, low, val, from, below, here) in (
              r.0,
              r.1,
              subst (λ z. Contains (needs_of ms z) (demand_need g.need)) same q.3,
              λ n f. r.2 ∙ ap Some (name_same ms value.name n g.by.from value.is (subst (IsFirstPlace ms n) (sym from) f)),
            ))
      ]

  -- what versions of a name need
  pub group_fact : (first : ℕ) (g : Group) (u : Term) → IsGroup ms first g → IsTerm ms u → IsFirstPlace ms g.need.name.now u.from →
      HasAgainst ms g.need.number g.need.range.now u → IsNogood ms wanted (g.by ∷ u ∷ [])
  group_fact first g u h term_u first_u against = record {
    sets = λ x j. elim (in_cons g.by (u ∷ []) x j) [ inl e ↦ subst (IsTerm ms) e h.term | inr k ↦ subst (IsTerm ms) (in_one u x k) term_u ];
    none = λ walk s met.
        (let d = demand_need g.need in
        let p = group_place walk first g h (met g.by (in_here g.by (u ∷ []))) in
        let q = complete_from ms wanted [] walk s.is_walk d.name (required_by_need ms wanted walk p.0 d p.1 p.2) in
        let good = s.consistent in
        let holds = good.needs_hold p.0 p.1 d p.2 q.0 q.1 q.2 in
        out_of_range walk d.name u g.need.number d.range q.0 s h.number first_u against q.1 q.2 holds.meets
        (met u (in_there g.by (u ∷ []) u (in_here u []))));
  }

  -- what versions of a name that need the name itself need
  pub own_fact : (first : ℕ) (g : Group) → IsGroup ms first g → IsFirstPlace ms g.need.name.now first → IsNogood ms wanted (g.by ∷ [])
  own_fact first g h own = record {
    sets = λ x j. subst (IsTerm ms) (in_one g.by x j) h.term;
    none = λ walk s met.
        (let d = demand_need g.need in
        let p = group_place walk first g h (met g.by (in_here g.by [])) in
        let q = complete_from ms wanted [] walk s.is_walk d.name (required_by_need ms wanted walk p.0 d p.1 p.2) in
        let good = s.consistent in
        good.acyclic p.0 (direct (record { from = p.1; to = p.1; by = d; is = p.2; named = p.3 d.name own })));
  }

  -- ---- groups

  pub group_empty : (first : ℕ) (g : Group) → IsNumber ms g.need.name.now g.need.number → IsTerm ms g.by → g.by.from ≡ first →
      ((v : ℕ) → Has g.by.set.items v → ⊥) → IsGroup ms first g
  group_empty first g number term from none = record { number = number; term = term; from = from; only = λ v b. absurd (none v b) }

  pub group_more : (g new : Group) (p : ℕ) → IsGroup ms g.by.from g → new.need ≡ g.need → IsTerm ms new.by → new.by.from ≡ g.by.from →
      ((v : ℕ) → Has new.by.set.items v → Has g.by.set.items v ⊎ (v ≡ p + 1 - g.by.from)) →
      ((n : List ℕ) → IsFirstPlace ms n g.by.from → name_of ms p ≡ Some n) → Contains (needs_of ms p) (demand_need g.need) → IsGroup ms g.by.from new
  group_more g new p h need term from added named needs = record {
    number = subst (λ (d : Demand). IsNumber ms d.name.now d.number) (sym need) h.number;
    term = term;
    from = from;
    only = λ v b. subst (λ (d : Demand). (q : ℕ) × (g.by.from ≤ q) × (v ≡ q + 1 - g.by.from) × Contains (needs_of ms q) (demand_need d)) (sym need)
        (elim (added v b) [
          | inl o ↦ h.only v o
          | inr e ↦ (let own = h.term in
              let is = own.is in
              (p, is.least p (named own.name is), e, needs))
        ]);
  }

  -- the same number and range is the same need
  pub same_need : (d e : Demand) → IsNumber ms d.name.now d.number → IsNumber ms e.name.now e.number → d.number ≡ e.number → d.range.now ≡ e.range.now →
      demand_need e ≡ demand_need d
  same_need d e is_d is_e number range =
      let name : e.name.now ≡ d.name.now = same_Some e.name.now d.name.now (sym is_e.named ∙ ap (name_of ms) (sym number) ∙ is_d.named) in
      subst (λ n. demand_need e ≡ record { name = n; range = d.range.now }) name
      (subst (λ r. demand_need e ≡ record { name = e.name.now; range = r }) (sym range) refl)

  -- demands for what is needed or wanted
  pub demands_among : (from : Option ℕ) (needs : List Need) (ds : List Demand) → AreDemands ms (claims_from from needs) ds → All (IsDemandOf ms needs) ds
  demands_among from needs ds h = all_from_in (IsDemandOf ms needs) ds (λ d i.
      (let by = from_claims_from from needs (claim d) (claim_for ms (claims_from from needs) ds d h i) in
      record { number = number_for ms (claims_from from needs) ds d h i; among = by.1 }))
