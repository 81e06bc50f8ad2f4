-- Edges among decided places, and cycles.
use Rattle.std.proofs.Common.{◌≡◌, ℕ, ◌+◌, ◌<◌, ◌⊎◌, List, [], ◌∷◌, ◌++◌, length, get_or, take, Option, Some, None, refl, sym, ap, ◌∙◌, subst, inl, inr}
use Rattle.std.specs.Prelude.{slice_index_or}
use Rattle.std.specs.List.{All, Contains}
use Rattle.std.proofs.lemmas.Option.{same_Some, none-some}
use Rattle.std.proofs.lemmas.List.{take_more, take_all}
use Rattle.std.proofs.lemmas.List.Elements.{Contains-append_left, Contains-push, Contains-push_cases, All-contains}
use Rattle.nuc_base.specs.Leads.{HasPath, direct, through}
use Rattle.nuc_base.proofs.Lists.{in_nil, in_cons, in_here, in_there, all_from_in}
use Rattle.nuc_base.proofs.Leading.{leads_more}
use Rattle.dep_order.specs.declared.Need.{Need as Edge}
use Rattle.dep_order.specs.declared.Edges.{Edges}
use Rattle.dep_order.specs.Orders as orders
use Rattle.recipe_reader.specs.Members.{Need, Member}
use Rattle.recipe_reader.specs.Sets.{name_of, needs_of, HasDependency}
use Rattle.recipe_reader.specs.Searches.{IsConsistent}
use Rattle.conflict_search.specs.Conflicts.{CannotStand, IsConflict}
use Rattle.conflict_search.specs.Numbers.{IsNumber}
use Rattle.conflict_search.specs.Claims.{Claim, claims_of, demand_need, claim, AreDemands}
use Rattle.conflict_search.specs.Boards.{IsChosen, IsBoard}
use Rattle.conflict_search.specs.Edges.{HasEdge, HasDemand, AreEdgesOf}
use Rattle.conflict_search.specs.declared.demands.Demand.{Demand}
use Rattle.conflict_search.specs.declared.board.Board.{Board}
use Rattle.conflict_search.proofs.Claiming.{IsClaimOf, need_claim, from_claims, demand_for, claim_for, number_for}

-- ---- the edges so far

pub edges_none : (chosen : List (Option ℕ)) → AreEdgesOf [] chosen []
edges_none chosen = record { has = λ a b h. absurd (in_nil h.by h.is); only = λ a b h. absurd (in_nil h.by h.is) }

module _ (asked : List Demand) (chosen : List (Option ℕ)) (i : ℕ) (d : Demand) (lt : i < length asked) where
  this : Contains (take (i + 1) asked) (get_or asked i d)
  this = subst (λ l. Contains l (get_or asked i d)) (sym (take_more asked i d lt)) (Contains-push (take i asked) (get_or asked i d))

  before : (e : Demand) → Contains (take i asked) e → Contains (take (i + 1) asked) e
  before e j = subst (λ l. Contains l e) (sym (take_more asked i d lt)) (Contains-append_left (take i asked) (get_or asked i d ∷ []) e j)

  cases : (e : Demand) → Contains (take (i + 1) asked) e → Contains (take i asked) e ⊎ (get_or asked i d ≡ e)
  cases e j = Contains-push_cases (take i asked) (get_or asked i d) e (subst (λ l. Contains l e) (take_more asked i d lt) j)

  asks_before : (a b : ℕ) → HasDemand (take i asked) chosen a b → HasDemand (take (i + 1) asked) chosen a b
  asks_before a b h = record { by = h.by; is = before h.by h.is; from = h.from; to = h.to }

  -- the demand gives an edge
  pub edges_more : (old new : List Edge) (e : Edge) → AreEdgesOf (take i asked) chosen old → new ≡ old ++ e ∷ [] → (get_or asked i d).from ≡ Some e.from →
      slice_index_or chosen (get_or asked i d).number None ≡ Some e.to → AreEdgesOf (take (i + 1) asked) chosen new
  edges_more old new e h items from to = record {
    has = λ a b r. elim (cases r.by r.is) [
      | inl j ↦ (let old' = h.has a b (record { by = r.by; is = j; from = r.from; to = r.to }) in
          record {
            by = old'.by;
            is = subst (λ l. Contains l old'.by) (sym items) (Contains-append_left old (e ∷ []) old'.by old'.is);
            from = old'.from;
            to =
                old'.to;
          })
      | inr same ↦ record {
        by = e;
        is = subst (λ l. Contains l e) (sym items) (Contains-push old e);
        from = same_Some e.from a (sym from ∙ ap (λ (x : Demand). x.from) same ∙ r.from);
        to = same_Some e.to b (sym to ∙ ap (λ (x : Demand). slice_index_or chosen x.number None) same ∙ r.to);
      }
    ];
    only = λ a b r. elim (Contains-push_cases old e r.by (subst (λ l. Contains l r.by) items r.is)) [
      | inl j ↦ asks_before a b (h.only a b (record { by = r.by; is = j; from = r.from; to = r.to }))
      | inr same ↦ record {
        by = get_or asked i d;
        is = this;
        from = from ∙ ap Some (ap (λ (x : Edge). x.from) same ∙ r.from);
        to = to ∙ ap Some (ap (λ (x : Edge). x.to) same ∙ r.to);
      }
    ];
  }

  -- it gives none
  pub edges_same : (old : List Edge) → AreEdgesOf (take i asked) chosen old → ((a b : ℕ) → (get_or asked i d).from ≡ Some a →
      slice_index_or chosen (get_or asked i d).number None ≡ Some b → ⊥) → AreEdgesOf (take (i + 1) asked) chosen old
  edges_same old h none = record {
    has = λ a b r. elim (cases r.by r.is) [
      | inl j ↦ h.has a b (record { by = r.by; is = j; from = r.from; to = r.to })
      | inr same ↦ absurd (none a b (ap (λ (x : Demand). x.from) same ∙ r.from) (ap (λ (x : Demand). slice_index_or chosen x.number None) same ∙ r.to))
    ];
    only = λ a b r. asks_before a b (h.only a b r);
  }

-- ---- edges and dependencies

module _ (ms : List Member) (wanted : List Need) (board : Board) (edges : Edges) (h : IsBoard ms wanted board) (are : AreEdgesOf board.asked.items
    board.chosen.items edges.needs) where
  need_edge : (a b : ℕ) → HasDependency ms board.places.items a b → orders.HasNeed edges a b
  need_edge a b n =
      let r = demand_for ms (claims_of ms wanted board.places.items) board.asked.items (record {
        from = Some a;
        need =
            n.by;
      }) h.demands (need_claim ms wanted board.places.items a n.by n.from n.is) in
      let is = subst (λ (c : Claim). IsNumber ms c.need.name r.0.number) r.2 (number_for ms (claims_of ms wanted board.places.items) board.asked.items r.0
      h.demands r.1) in
      let chosen = h.chosen in
      let j = are.has a b (record { by = r.0; is = r.1; from = ap (λ (c : Claim). c.from) r.2; to = chosen.has b r.0.number n.by.name n.to n.named is }) in
      record { by = j.by; is = j.is; from = j.from; to = j.to }

  edge_need : (a b : ℕ) → orders.HasNeed edges a b → HasDependency ms board.places.items a b
  edge_need a b e =
      let r = are.only a b (record { by = e.by; is = e.is; from = e.from; to = e.to }) in
      let chosen = h.chosen in
      let there = chosen.only b r.by.number r.to in
      let at = there.1 in
      let known = at.is in
      let is = number_for ms (claims_of ms wanted board.places.items) board.asked.items r.by h.demands r.is in
      elim (from_claims ms wanted board.places.items (claim r.by) (claim_for ms (claims_of ms wanted board.places.items) board.asked.items r.by h.demands
      r.is)) [
        | inl w ↦ absurd (none-some a (sym w.0 ∙ r.from))
        | inr w ↦ (let by = w.1 in
            let same : w.0 ≡ a = same_Some w.0 a (sym by.from ∙ r.from) in
            record {
              from = subst (Contains board.places.items) same by.place;
              to = there.0;
              by = demand_need r.by;
              is = subst (λ z. Contains (needs_of ms z) (demand_need r.by)) same by.is;
              named = at.named ∙ sym known.named ∙ is.named;
            })
      ]

  pub edges_nodes : edges.nodes ≡ length ms → orders.AreNodes edges
  edges_nodes e = all_from_in (λ (x : Edge). (x.from < edges.nodes) × (x.to < edges.nodes)) edges.needs (λ x i.
      (let n = edge_need x.from x.to (record { by = x; is = i; from = refl; to = refl }) in (
        subst (λ m. x.from < m) (sym e) (All-contains (λ p. p < length ms) board.places.items x.from h.inside n.from),
        subst (λ m. x.to < m) (sym e) (All-contains (λ p. p < length ms) board.places.items x.to h.inside n.to),
      )))

  pub edges_acyclic : orders.IsAcyclic edges → (p : ℕ) → HasPath (HasDependency ms board.places.items) p p → ⊥
  edges_acyclic free p r = free p (leads_more need_edge r)

  -- linked places lead on, wherever they all are
  linked : (s : List ℕ) (p : ℕ) (ps : List ℕ) (last : ℕ) → orders.AreLinked edges (p ∷ ps) last → ((x : ℕ) → Contains (p ∷ ps) x → Contains s x) →
      Contains s last → HasPath (HasDependency ms s) p last
  linked s p [] last l within end = (let n = edge_need p last l.0 in
      direct (record { from = within p (in_here p []); to = end; by = n.by; is = n.is; named = n.named }))
  linked s p (q ∷ qs) last l within end = (let n = edge_need p q l.0 in
      through (record { from = within p (in_here p (q ∷ qs)); to = within q (in_there p (q ∷ qs) q (in_here q qs)); by = n.by; is = n.is; named = n.named })
      (linked s q qs last l.1 (λ x i. within x (in_there p (q ∷ qs) x i)) end))

  linked_within : (ps : List ℕ) (last : ℕ) → orders.AreLinked edges ps last → (x : ℕ) → Contains ps x → Contains board.places.items x
  linked_within [] last l x i = absurd (in_nil x i)
  linked_within (p ∷ ps) last l x i = elim (in_cons p ps x i) [
    | inl e ↦ (let n = edge_need p (orders.head_or ps last) l.0 in subst (Contains board.places.items) e n.from)
    | inr j ↦ linked_within ps last l.1 x j
  ]

  pub cycle_conflict : (cycle : List ℕ) → orders.IsCycle edges cycle → IsConflict ms wanted board.places.items cycle
  cycle_conflict [] l = absurd l
  cycle_conflict (p ∷ ps) l = record {
    nogood = record { none = λ walk w c within. c.acyclic p (linked walk p ps p l within (within p (in_here p ps))) };
    within = linked_within (p ∷ ps) p l;
  }
