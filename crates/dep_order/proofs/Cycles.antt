-- Cycles: linked places, and what an order leaves out.
use Rattle.std.proofs.Common.{◌≡◌, ℕ, zero, suc, ◌<◌, List, [], ◌∷◌, ◌++◌, length, get_or, drop, refl, sym, subst, inl, inr, arith, append_assoc, append-nil}
use Rattle.std.specs.List.{Contains}
use Rattle.std.proofs.lemmas.List.Elements.{Contains-push_cases, All-contains}
use Rattle.nuc_base.specs.Leads.{HasPath, direct, through}
use Rattle.nuc_base.proofs.Leading.{leads_push}
use Rattle.nuc_base.proofs.Lists.{in_nil}
use Rattle.dep_order.specs.declared.Need.{Need}
use Rattle.dep_order.specs.declared.Edges.{Edges}
use Rattle.dep_order.specs.Orders.{HasNeed, AreNodes, IsAcyclic, IsOpen, IsOrderAfter, IsWhole, IsOrder, head_or, AreLinked, IsCycle}

pub needs_nodes : (edges : Edges) (p q : ℕ) → AreNodes edges → HasNeed edges p q → (p < edges.nodes) × (q < edges.nodes)
needs_nodes edges p q h n =
    let b = All-contains (λ (e : Need). (e.from < edges.nodes) × (e.to < edges.nodes)) edges.needs n.by h n.is in
    (subst (λ x. x < edges.nodes) n.from b.0, subst (λ x. x < edges.nodes) n.to b.1)

head_push : (ps : List ℕ) (p q : ℕ) → head_or (ps ++ p ∷ []) q ≡ head_or ps p
head_push [] p q = refl
head_push (x ∷ ps) p q = refl

pub linked_push : (edges : Edges) (ps : List ℕ) (p q : ℕ) → AreLinked edges ps p → HasNeed edges p q → AreLinked edges (ps ++ p ∷ []) q
linked_push edges [] p q h n = (n, tt)
linked_push edges (x ∷ ps) p q h n = (subst (HasNeed edges x) (sym (head_push ps p q)) h.0, linked_push edges ps p q h.1 n)

pub cycle_at : (edges : Edges) (ps : List ℕ) (i p d : ℕ) → i < length ps → get_or ps i d ≡ p → AreLinked edges ps p → IsCycle edges (drop i ps)
cycle_at edges [] i p d lt e h = absurd (omega (arith, lt))
cycle_at edges (x ∷ ps) zero p d lt e h = subst (AreLinked edges (x ∷ ps)) (sym e) h
cycle_at edges (x ∷ ps) (suc i) p d lt e h = cycle_at edges ps i p d (omega (arith, lt)) e h.1

-- places of which each needs one of them are not taken by an order
pub never_taken : (edges : Edges) (C : ℕ → Type 0) → ((x : ℕ) → C x → (y : ℕ) × HasNeed edges x y × C y) → (taken list : List ℕ) →
    IsOrderAfter edges taken list → ((x : ℕ) → C x → Contains taken x → ⊥) → (x : ℕ) → C x → Contains (taken ++ list) x → ⊥
never_taken edges C next taken [] o free = λ x c i. free x c (subst (λ l. Contains l x) (append-nil taken) i)
never_taken edges C next taken (p ∷ ps) o free = λ x c i.
    never_taken edges C next (taken ++ p ∷ []) ps o.1
    (λ y d j. elim (Contains-push_cases taken p y j) [
      | inl k ↦ free y d k
      | inr e ↦ (let n = next y d in
          let least = o.0 in
          let is_open = least.is_open in
          free n.0 n.2 (is_open.ready n.0 (subst (λ z. HasNeed edges z n.0) (sym e) n.1)))
    ])
    x c (subst (λ l. Contains l x) (sym (append_assoc taken (p ∷ []) ps)) i)

round_next : {R : ℕ → ℕ → Type 0} (a b : ℕ) → HasPath R a b → b ≡ a → (y : ℕ) × R a y × HasPath R y y
round_next {R} a b (direct {a = x} {b = y} r) e = (y, r, direct (subst (λ z. R z y) (sym e) r))
round_next {R} a b (through {a = x} {b = y} {c = z} r m) e = (y, r, leads_push m (subst (λ w. R w y) (sym e) r))

first_step : {R : ℕ → ℕ → Type 0} {a b : ℕ} → HasPath R a b → (y : ℕ) × R a y
first_step (direct {a} {b} r) = (b, r)
first_step (through {a} {b} {c} r m) = (b, r)

-- a whole order has no cycle
pub order_acyclic : (edges : Edges) (list : List ℕ) → AreNodes edges → IsOrder edges list → IsWhole edges list → IsAcyclic edges
order_acyclic edges list nodes o whole = λ p r.
    let s = first_step r in
    let lt = needs_nodes edges p s.0 nodes s.1 in
    never_taken edges (λ x. HasPath (HasNeed edges) x x) (λ x m. round_next x x m refl) [] list o (λ x m i. in_nil x i) p r (whole p lt.0)

-- a cycle leads from its first place to itself
linked_leads : (edges : Edges) (p : ℕ) (ps : List ℕ) (q : ℕ) → AreLinked edges (p ∷ ps) q → HasPath (HasNeed edges) p q
linked_leads edges p [] q h = direct h.0
linked_leads edges p (x ∷ ps) q h = through h.0 (linked_leads edges x ps q h.1)

pub cycle_leads : (edges : Edges) (list : List ℕ) → IsCycle edges list → (p : ℕ) × HasPath (HasNeed edges) p p
cycle_leads edges [] h = absurd h
cycle_leads edges (p ∷ ps) h = (p, linked_leads edges p ps p h)

-- after an order nothing is open
pub order_ends : (edges : Edges) (taken list : List ℕ) → IsOrderAfter edges taken list → (p : ℕ) → IsOpen edges (taken ++ list) p → ⊥
order_ends edges taken [] o = λ p i. o p (subst (λ l. IsOpen edges l p) (append-nil taken) i)
order_ends edges taken (x ∷ xs) o = λ p i. order_ends edges (taken ++ x ∷ []) xs o.1 p (subst (λ l. IsOpen edges l p) (sym (append_assoc taken (x ∷ []) xs)) i)
