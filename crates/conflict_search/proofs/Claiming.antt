-- Claims and the demands that stand for them.
use Rattle.std.proofs.Common.{◌≡◌, ℕ, ◌+◌, ◌-◌, ◌<◌, ◌≤◌, ◌⊎◌, List, [], ◌∷◌, ◌++◌, length, get_or, map, take, Option, Some, None, refl, sym, ap, ◌∙◌, subst}
use Rattle.std.proofs.Common.{inl, inr, arith, append_assoc, append-nil, length-append}
use Rattle.std.specs.List.{All, Contains}
use Rattle.std.proofs.lemmas.List.{take_more, take_all, map-append, length-map, take-map, take-append-le}
use Rattle.std.proofs.lemmas.List.Elements.{All-push, All-append, All-contains, Contains-append_left, Contains-append_right, Contains-append_cases, All-take}
use Rattle.nuc_base.proofs.Lists.{in_nil, in_cons, in_here, in_there, in_map, from_map, all_from_in}
use Rattle.recipe_reader.specs.Members.{Need, Member}
use Rattle.recipe_reader.specs.Sets.{needs_of, required_names}
use Rattle.recipe_reader.proofs.Required.{required_from, required_by_wanted, required_by_need}
use Rattle.conflict_search.specs.Numbers.{IsNumber}
use Rattle.conflict_search.specs.Claims.{Claim, claims_from, claims_by, claims_of, demand_need, claim, AreNumbered, AreDemands}
use Rattle.conflict_search.specs.declared.demands.Demand.{Demand}

-- ---- one after another

pub demands_none : (ms : List Member) (from : Option ℕ) → AreDemands ms (claims_from from []) []
demands_none ms from = record { are = refl; numbered = λ k d lt. absurd (omega (arith, lt)) }

pub demands_more : {X : Type 0} (f : X → Need) (ms : List Member) (from : Option ℕ) (xs : List X) (i : ℕ) (x : X) (old new : List Demand) (d : Demand) →
    i < length xs → AreDemands ms (claims_from from (map f (take i xs))) old
    → new ≡ old ++ d ∷ [] → claim d ≡ record { from = from; need = f (get_or xs i x) } → IsNumber ms d.name.now d.number →
    AreDemands ms (claims_from from (map f (take (i + 1) xs))) new
demands_more f ms from xs i x old new d lt h e is number = record {
  are = ap (map claim) e
      ∙ map-append claim old (d ∷ [])
      ∙ ap (λ l. l ++ claim d ∷ []) h.are
      ∙ ap (λ c. claims_from from (map f (take i xs)) ++ c ∷ []) is
      ∙ sym (map-append (λ (n : Need). record { from = from; need = n }) (map f (take i xs)) (f (get_or xs i x) ∷ []))
      ∙ ap (claims_from from) (sym (map-append f (take i xs) (get_or xs i x ∷ [])) ∙ ap (map f) (sym (take_more xs i x lt)));
  numbered = subst (AreNumbered ms) (sym e) (All-push (λ (d : Demand). IsNumber ms d.name.now d.number) old d h.numbered number);
}

pub demands_all : {X : Type 0} (f : X → Need) (ms : List Member) (from : Option ℕ) (xs : List X) (i : ℕ) (ds : List Demand) (needs : List Need) →
    length xs ≤ i → map f xs ≡ needs → AreDemands ms (claims_from from (map f (take i xs))) ds → AreDemands ms (claims_from from needs) ds
demands_all f ms from xs i ds needs le e h = subst (λ l. AreDemands ms (claims_from from l) ds) (ap (map f) (take_all i xs le) ∙ e) h

-- ---- one more place

claims_by_push : (ms : List Member) (taken : List ℕ) (p : ℕ) → claims_by ms (taken ++ p ∷ []) ≡ claims_by ms taken ++ claims_from (Some p) (needs_of ms p)
claims_by_push ms [] p = append-nil (claims_from (Some p) (needs_of ms p))
claims_by_push ms (q ∷ taken) p =
    ap (λ l. claims_from (Some q) (needs_of ms q) ++ l) (claims_by_push ms taken p)
    ∙ sym (append_assoc (claims_from (Some q) (needs_of ms q)) (claims_by ms taken) (claims_from (Some p) (needs_of ms p)))

claims_push : (ms : List Member) (wanted : List Need) (taken : List ℕ) (p : ℕ) → claims_of ms wanted (taken ++ p ∷ []) ≡ claims_of ms wanted taken
    ++ claims_from (Some p) (needs_of ms p)
claims_push ms wanted taken p =
    ap (λ l. claims_from None wanted ++ l) (claims_by_push ms taken p)
    ∙ sym (append_assoc (claims_from None wanted) (claims_by ms taken) (claims_from (Some p) (needs_of ms p)))

pub demands_push : (ms : List Member) (wanted : List Need) (taken all : List ℕ) (p : ℕ) (old ds new : List Demand) → all ≡ taken ++ p ∷ [] →
    new ≡ old ++ ds → AreDemands ms (claims_of ms wanted taken) old → AreDemands ms (claims_from (Some p) (needs_of ms p)) ds →
    AreDemands ms (claims_of ms wanted all) new
demands_push ms wanted taken all p old ds new e f h here = record {
  are = ap (map claim) f
      ∙ map-append claim old ds
      ∙ ap (λ l. l ++ map claim ds) h.are
      ∙ ap (λ l. claims_of ms wanted taken ++ l) here.are
      ∙ sym (claims_push ms wanted taken p)
      ∙ ap (claims_of ms wanted) (sym e);
  numbered = subst (AreNumbered ms) (sym f) (All-append (λ (d : Demand). IsNumber ms d.name.now d.number) old ds h.numbered here.numbered);
}

pub demands_pop : (ms : List Member) (wanted : List Need) (taken all : List ℕ) (p count : ℕ) (old new : List Demand) → all ≡ taken ++ p ∷ [] →
    count ≡ length (needs_of ms p) → new ≡ take (length old - count) old → AreDemands ms (claims_of ms wanted all) old →
    AreDemands ms (claims_of ms wanted taken) new
demands_pop ms wanted taken all p count old new e n f h =
    let before = claims_of ms wanted taken in
    let last = claims_from (Some p) (needs_of ms p) in
    let whole : map claim old ≡ before ++ last = h.are ∙ ap (claims_of ms wanted) e ∙ claims_push ms wanted taken p in
    let len : length old ≡ length before + length (needs_of ms p) =
    sym (length-map old claim) ∙ ap length whole ∙ length-append before last ∙ ap (λ m. length before + m) (length-map (needs_of ms p)
    (λ (d : Need). record { from = Some p; need = d })) in
    let k : length old - count ≡ length before = omega (arith, len, n) in
    record {
      are = ap (map claim) f
          ∙ sym (take-map claim (length old - count) old)
          ∙ ap (λ m. take m (map claim old)) k
          ∙ ap (take (length before)) whole
          ∙ take-append-le (length before) before last (omega arith)
          ∙ take_all (length before) before (omega arith);
      numbered = subst (AreNumbered ms) (sym f) (All-take (λ (d : Demand). IsNumber ms d.name.now d.number) (length old - count) old h.numbered);
    }

-- ---- who asks

pub wanted_claim : (ms : List Member) (wanted : List Need) (taken : List ℕ) (w : Need) → Contains wanted w →
    Contains (claims_of ms wanted taken) (record { from = None; need = w })
wanted_claim ms wanted taken w i =
    Contains-append_left (claims_from None wanted) (claims_by ms taken) (record {
      from = None;
      need =
          w;
    }) (in_map (λ (d : Need). record { from = None; need = d }) wanted w i)

claim_by : (ms : List Member) (taken : List ℕ) (p : ℕ) (d : Need) → Contains taken p → Contains (needs_of ms p) d →
    Contains (claims_by ms taken) (record { from = Some p; need = d })
claim_by ms [] p d h i = absurd (in_nil p h)
claim_by ms (q ∷ taken) p d h i = elim (in_cons q taken p h) [
  | inl e ↦ Contains-append_left (claims_from (Some q) (needs_of ms q)) (claims_by ms taken) (record { from = Some p; need = d })
      (subst (λ z. Contains (claims_from (Some z) (needs_of ms z)) (record { from = Some p; need = d })) (sym e) (in_map (λ (d : Need). record {
        from =
            Some p;
        need = d;
      }) (needs_of ms p) d i))
  | inr j ↦ Contains-append_right (claims_from (Some q) (needs_of ms q)) (claims_by ms taken) (record { from = Some p; need = d }) (claim_by ms taken p d j i)
]

pub need_claim : (ms : List Member) (wanted : List Need) (taken : List ℕ) (p : ℕ) (d : Need) → Contains taken p → Contains (needs_of ms p) d →
    Contains (claims_of ms wanted taken) (record { from = Some p; need = d })
need_claim ms wanted taken p d h i =
    Contains-append_right (claims_from None wanted) (claims_by ms taken) (record { from = Some p; need = d }) (claim_by ms taken p d h i)

pub claim_in : (from : Option ℕ) (needs : List Need) (d : Need) → Contains needs d → Contains (claims_from from needs) (record { from = from; need = d })
claim_in from needs d i = in_map (λ (d : Need). record { from = from; need = d }) needs d i

-- a claim is of what is wanted, or of a place that is taken
pub record IsClaimOf (ms : List Member) (taken : List ℕ) (p : ℕ) (c : Claim) : Type 0 where
  pub from : c.from ≡ Some p
  pub place : Contains taken p
  pub is : Contains (needs_of ms p) c.need

pub from_claims_from : (from : Option ℕ) (needs : List Need) (c : Claim) → Contains (claims_from from needs) c → (c.from ≡ from) × Contains needs c.need
from_claims_from from needs c i =
    let r = from_map (λ (d : Need). record { from = from; need = d }) needs c i in (
      ap (λ (x : Claim). x.from) (sym r.2),
      subst (Contains needs) (ap (λ (x : Claim). x.need) r.2) r.1,
    )

from_claims_by : (ms : List Member) (taken : List ℕ) (c : Claim) → Contains (claims_by ms taken) c → (p : ℕ) × IsClaimOf ms taken p c
from_claims_by ms [] c i = absurd (in_nil c i)
from_claims_by ms (q ∷ taken) c i = elim (Contains-append_cases (claims_from (Some q) (needs_of ms q)) (claims_by ms taken) c i) [
  | inl j ↦ (let r = from_claims_from (Some q) (needs_of ms q) c j in (q, record { from = r.0; place = in_here q taken; is = r.1 }))
  | inr j ↦ (let r = from_claims_by ms taken c j in let k = r.1 in (r.0, record { from = k.from; place = in_there q taken r.0 k.place; is = k.is }))
]

pub from_claims : (ms : List Member) (wanted : List Need) (taken : List ℕ) (c : Claim) → Contains (claims_of ms wanted taken) c →
    ((c.from ≡ None) × Contains wanted c.need) ⊎ ((p : ℕ) × IsClaimOf ms taken p c)
from_claims ms wanted taken c i = elim (Contains-append_cases (claims_from None wanted) (claims_by ms taken) c i) [
  | inl j ↦ inl (from_claims_from None wanted c j)
  | inr j ↦ inr (from_claims_by ms taken c j)
]

-- ---- claims and demands

pub demand_for : (ms : List Member) (claims : List Claim) (ds : List Demand) (c : Claim) → AreDemands ms claims ds → Contains claims c → (d : Demand) ×
    Contains ds d × (claim d ≡ c)
demand_for ms claims ds c h i = from_map claim ds c (subst (λ l. Contains l c) (sym h.are) i)

pub claim_for : (ms : List Member) (claims : List Claim) (ds : List Demand) (d : Demand) → AreDemands ms claims ds → Contains ds d → Contains claims (claim d)
claim_for ms claims ds d h i = subst (λ l. Contains l (claim d)) h.are (in_map claim ds d i)

pub number_for : (ms : List Member) (claims : List Claim) (ds : List Demand) (d : Demand) → AreDemands ms claims ds → Contains ds d →
    IsNumber ms d.name.now d.number
number_for ms claims ds d h i = All-contains (λ (d : Demand). IsNumber ms d.name.now d.number) ds d h.numbered i

-- a name that is required is asked for by a demand, and the other way round
pub demand_required : (ms : List Member) (wanted : List Need) (taken : List ℕ) (ds : List Demand) (n : List ℕ) →
    AreDemands ms (claims_of ms wanted taken) ds → Contains (required_names ms wanted taken) n → (d : Demand) × Contains ds d × (d.name.now ≡ n)
demand_required ms wanted taken ds n h i = elim (required_from ms wanted taken n i) [
  | inl r ↦ (let d = demand_for ms (claims_of ms wanted taken) ds (record { from = None; need = r.0 }) h (wanted_claim ms wanted taken r.0 r.1) in
      (d.0, d.1, ap (λ (c : Claim). c.need.name) d.2 ∙ r.2))
  | inr r ↦ (let d = demand_for ms (claims_of ms wanted taken) ds (record { from = Some r.0; need = r.1 }) h (need_claim ms wanted taken r.0 r.1 r.2 r.3) in
      (d.0, d.1, ap (λ (c : Claim). c.need.name) d.2 ∙ r.4))
]

pub required_demand : (ms : List Member) (wanted : List Need) (taken : List ℕ) (ds : List Demand) (d : Demand) →
    AreDemands ms (claims_of ms wanted taken) ds → Contains ds d → Contains (required_names ms wanted taken) d.name.now
required_demand ms wanted taken ds d h i = elim (from_claims ms wanted taken (claim d) (claim_for ms (claims_of ms wanted taken) ds d h i)) [
  | inl r ↦ required_by_wanted ms wanted taken (demand_need d) r.1
  | inr r ↦ (let by = r.1 in required_by_need ms wanted taken r.0 (demand_need d) by.place by.is)
]
