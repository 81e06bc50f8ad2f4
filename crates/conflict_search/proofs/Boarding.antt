-- A board as places are taken and taken back, and the name that comes next.
use Rattle.std.proofs.Common.{◌≡◌, ◌≢◌, ℕ, ◌+◌, ◌-◌, ◌<◌, ◌≤◌, ◌⊎◌, List, [], ◌∷◌, ◌++◌, length, get_or, take, Option, Some, None, refl, sym, ap, ◌∙◌, subst}
use Rattle.std.proofs.Common.{inl, inr, eqb, length-append, append-nil, arith}
use Rattle.std.proofs.Math.Seq.{take-append_seam}
use Rattle.std.specs.Prelude.{slice_get, slice_set, slice_index_or, MatchOption}
use Rattle.std.specs.List.{All, Contains}
use Rattle.std.proofs.lemmas.Bool.{cases_eq, eqb-true}
use Rattle.std.proofs.lemmas.Option.{same_Some, none-some, slice_get_within, get_or_from_slice_get}
use Rattle.std.proofs.lemmas.List.{length-map, get_or-set_same, get_or-set_other}
use Rattle.std.proofs.lemmas.List.Elements.{All-push, All-contains, Contains-append_left, Contains-push, Contains-push_cases}
use Rattle.nuc_base.proofs.Lists.{in_nil, in_one, all_from_in}
use Rattle.dep_order.proofs.Filtered.{in_filter}
use Rattle.recipe_reader.specs.Members.{Need, Member, member, members, IsRising}
use Rattle.recipe_reader.specs.Sets.{name_of, needs_of, required_names, IsTaken, IsNext, IsComplete}
use Rattle.recipe_reader.specs.declared.candidate.Candidate.{Candidate}
use Rattle.recipe_reader.proofs.Required.{required_by_wanted, required_by_need}
use Rattle.recipe_reader.proofs.Searching.{within_from_name}
use Rattle.conflict_search.specs.Numbers.{IsNumber, IsNumberAt, IsNextNumber}
use Rattle.conflict_search.specs.Claims.{Claim, claims_from, claims_of, demand_need, claim, AreDemands}
use Rattle.conflict_search.specs.Boards.{IsAsked, IsIndexed, IsChosen, IsBoard}
use Rattle.conflict_search.specs.declared.demands.Demand.{Demand}
use Rattle.conflict_search.specs.declared.board.Board.{Board}
use Rattle.conflict_search.proofs.Finding.{number_same, numbers_rise}
use Rattle.conflict_search.proofs.Indexing.{row, asked_in_row}
use Rattle.conflict_search.proofs.Claiming.{IsClaimOf, demands_push, demands_pop, from_claims, claim_for, number_for, demand_required, required_demand}

-- ---- what is chosen

module _ (ms : List Member) (taken all : List ℕ) (chosen new : List (Option ℕ)) (p k : ℕ) (whole : all ≡ taken ++ p
    ∷ []) (at : IsNumberAt ms p k) (free : IsTaken ms taken at.name → ⊥) (inside : k < length chosen) where
  -- a place that was taken before has another number
  other_number : (q j : ℕ) (n : List ℕ) → Contains taken q → name_of ms q ≡ Some n → IsNumber ms n j → j ≢ k
  other_number q j n i e is same =
      let known = at.is in
      free (q, i, e ∙ sym is.named ∙ ap (name_of ms) same ∙ known.named)

  pub chosen_push : IsChosen ms taken chosen → new ≡ slice_set chosen k (Some p) → IsChosen ms all new
  chosen_push h f = record {
    has = λ q j n i e is. elim (Contains-push_cases taken p q (subst (λ l. Contains l q) whole i)) [
      | inl old ↦ ap (λ l. get_or l j None) f ∙ get_or-set_other chosen k j (Some p) None (other_number q j n old e is) ∙ h.has q j n old e is
      | inr same ↦ (let name : n ≡ at.name = same_Some n at.name (sym e ∙ ap (name_of ms) (sym same) ∙ at.named) in
          let number : j ≡ k = number_same ms at.name j k (subst (λ n. IsNumber ms n j) name is) at.is in
          ap (λ l. get_or l j None) f ∙ ap (λ z. get_or (slice_set chosen k (Some p)) z None) number ∙ get_or-set_same chosen k (Some p) None inside
          ∙ ap Some same)
    ];
    only = λ q j e. (let e' = ap (λ l. get_or l j None) (sym f) ∙ e in
        elim (cases_eq j k) [
          | inl same ↦ (let is : p ≡ q = same_Some p q (sym (get_or-set_same chosen k (Some p) None inside)
              ∙ ap (λ z. get_or (slice_set chosen k (Some p)) z None) (sym same) ∙ e') in (
                subst (λ l. Contains l q) (sym whole) (subst (Contains (taken ++ p ∷ [])) is (Contains-push taken p)),
                subst (λ z. IsNumberAt ms z j) is (subst (IsNumberAt ms p) (sym same) at),
              ))
          | inr ne ↦ (let old = h.only q j (sym (get_or-set_other chosen k j (Some p) None ne) ∙ e') in (
            subst (λ l. Contains l q) (sym whole) (Contains-append_left taken (p ∷ []) q old.0),
            old.1,
          ))
        ]);
  }

  pub chosen_pop : IsChosen ms all chosen → new ≡ slice_set chosen k None → IsChosen ms taken new
  chosen_pop h f = record {
    has = λ q j n i e is. ap (λ l. get_or l j None) f ∙ get_or-set_other chosen k j None None (other_number q j n i e is)
        ∙ h.has q j n (subst (λ l. Contains l q) (sym whole) (Contains-append_left taken (p ∷ []) q i)) e is;
    only = λ q j e. (let e' = ap (λ l. get_or l j None) (sym f) ∙ e in
        elim (cases_eq j k) [
          | inl same ↦ absurd (none-some q (sym (get_or-set_same chosen k None None inside) ∙ ap (λ z. get_or (slice_set chosen k None) z None) (sym same)
              ∙ e'))
          | inr ne ↦ (let old = h.only q j (sym (get_or-set_other chosen k j None None ne) ∙ e') in
              elim (Contains-push_cases taken p q (subst (λ l. Contains l q) whole old.0)) [
                | inl i ↦ (i, old.1)
                | inr is ↦ (let there = old.1 in
                    let name : there.name ≡ at.name = same_Some there.name at.name (sym there.named ∙ ap (name_of ms) (sym is) ∙ at.named) in
                    absurd (ne (number_same ms at.name j k (subst (λ n. IsNumber ms n j) name there.is) at.is)))
              ])
        ]);
  }

-- what is left without the last
pub popped : (before old new : List ℕ) (p : ℕ) → old ≡ before ++ p ∷ [] → new ≡ take (length old - 1) old → new ≡ before
popped before old new p e f =
    let n : length old - 1 ≡ length before = omega (arith, ap length e, length-append before (p ∷ [])) in
    f ∙ ap (λ k. take k old) n ∙ ap (take (length before)) e ∙ take-append_seam before (p ∷ [])

-- nothing is chosen where nothing is taken
pub chosen_start : (ms : List Member) (taken : List ℕ) (chosen : List (Option ℕ)) → taken ≡ [] → ((k : ℕ) → slice_index_or chosen k None ≡ None) →
    IsChosen ms taken chosen
chosen_start ms taken chosen e h = record {
  has = λ q j n i f is. absurd (in_nil q (subst (λ l. Contains l q) e i));
  only = λ q j f. absurd (none-some q (sym (h j) ∙ f));
}

-- the number of a place lies among those of the board
pub number_within : (ms : List Member) (n : List ℕ) (k : ℕ) → IsNumber ms n k → k < length ms
number_within ms n k is = within_from_name ms k n is.named

-- ---- one place more, and one less

pub board_take : (ms : List Member) (wanted : List Need) (old new : Board) (p k : ℕ) (ds : List Demand) → IsBoard ms wanted old →
    IsNextNumber ms wanted old.places.items k → IsNumberAt ms p k → AreDemands ms (claims_from (Some p) (needs_of ms p)) ds
    → new.places.items ≡ old.places.items ++ p ∷ [] → new.asked.items ≡ old.asked.items ++ ds → new.chosen.items ≡ slice_set old.chosen.items k (Some p) →
    IsIndexed (length ms) new → IsBoard ms wanted new
board_take ms wanted old new p k ds h next at demands places asked chosen indexed =
    let index = h.indexed in
    let known = next.next in
    let is = at.is in
    let num = next.is in
    let inside : k < length old.chosen.items = (let lt = number_within ms at.name k at.is in omega (arith, lt, index.chosen_count)) in
    let name : at.name ≡ next.name = same_Some at.name next.name (sym is.named ∙ num.named) in
    let free : IsTaken ms old.places.items at.name → ⊥ = λ t. known.untaken (subst (IsTaken ms old.places.items) name t) in
    record {
      inside = subst (All (λ p. p < length ms)) (sym places) (All-push (λ p. p < length ms) old.places.items p h.inside (within_from_name ms p at.name
          at.named));
      indexed = indexed;
      demands = demands_push ms wanted old.places.items new.places.items p old.asked.items ds new.asked.items places asked h.demands demands;
      chosen = chosen_push ms old.places.items new.places.items old.chosen.items new.chosen.items p k places at free inside h.chosen chosen;
    }

-- what is wanted is asked, and no place is taken
pub board_start : (ms : List Member) (wanted : List Need) (board : Board) (ds : List Demand) → board.places.items ≡ [] → board.asked.items ≡ ds →
    AreDemands ms (claims_from None wanted) ds → IsIndexed (length ms) board → ((k : ℕ) → slice_index_or board.chosen.items k None ≡ None) →
    IsBoard ms wanted board
board_start ms wanted board ds places asked h indexed none = record {
  inside = subst (All (λ p. p < length ms)) (sym places) (λ k d lt. absurd (omega (arith, lt)));
  indexed = indexed;
  demands = subst (λ l. AreDemands ms (claims_of ms wanted l) board.asked.items) (sym places)
      (subst (λ l. AreDemands ms l board.asked.items) (sym (append-nil (claims_from None wanted))) (subst (AreDemands ms (claims_from None wanted))
      (sym asked) h));
  chosen = chosen_start ms board.places.items board.chosen.items places none;
}

-- ---- the next name

chosen_or_not : (o : Option ℕ) → (o ≡ None) ⊎ ((p : ℕ) × (o ≡ Some p))
chosen_or_not None = inl refl
chosen_or_not (Some p) = inr (p, refl)

module _ (ms : List Member) (wanted : List Need) (board : Board) (h : IsBoard ms wanted board) where
  -- of a name that is required the number waits, or a place is taken
  waits_or_taken : (n : List ℕ) → Contains (required_names ms wanted board.places.items) n → ((k : ℕ) × IsNumber ms n k × Contains board.waiting.keys k)
      ⊎ IsTaken ms board.places.items n
  waits_or_taken n i =
      let r = demand_required ms wanted board.places.items board.asked.items n h.demands i in
      let k = r.0.number in
      let is = subst (λ n. IsNumber ms n k) r.2 (number_for ms (claims_of ms wanted board.places.items) board.asked.items r.0 h.demands r.1) in
      let index = h.indexed in
      elim (chosen_or_not (get_or board.chosen.items k None)) [
        | inl none ↦ inl (k, is, (index.waiting k).1 (number_within ms n k is, (r.0, r.1, refl), none))
        | inr some ↦ (let chosen = h.chosen in
            let there = chosen.only some.0 k some.1 in
            let at = there.1 in
            let known = at.is in
            inr (some.0, there.0, at.named ∙ sym known.named ∙ is.named))
      ]

  pub all_taken : ((k : ℕ) → Contains board.waiting.keys k → ⊥) → IsComplete ms wanted board.places.items
  all_taken none = λ n i. elim (waits_or_taken n i) [ inl w ↦ absurd (none w.0 w.2) | inr t ↦ t ]

pub next_found : (cs : List Candidate) (wanted : List Need) (board : Board) (k : ℕ) → IsRising (members cs) → IsBoard (members cs) wanted board →
    Contains board.waiting.keys k → ((j : ℕ) → Contains board.waiting.keys j → k ≤ j) → IsNextNumber (members cs) wanted board.places.items k
next_found cs wanted board k up h there least =
    let ms = members cs in
    let index = h.indexed in
    let waits = (index.waiting k).0 there in
    let asked = waits.1 in
    let d = asked.0 in
    let is = subst (IsNumber ms d.name.now) asked.2 (number_for ms (claims_of ms wanted board.places.items) board.asked.items d h.demands asked.1) in
    let chosen = h.chosen in
    record {
      name = d.name.now;
      is = is;
      next = record {
        listed = required_demand ms wanted board.places.items board.asked.items d h.demands asked.1;
        untaken = λ t. none-some t.0 (sym waits.2 ∙ chosen.has t.0 k d.name.now t.1 t.2 is);
        least = λ m i out. elim (waits_or_taken ms wanted board h m i) [
          | inl w ↦ (let other = w.1 in numbers_rise cs k w.0 d.name.now m up (least w.0 w.2) is.named other.named)
          | inr t ↦ absurd (out t)
        ];
      };
    }
