-- What the chosen candidates need of one another, by their places.
use Rattle.std.proofs.Common.{◌≡◌, ℕ, suc, ◌<◌, ◌+◌, Bool, true, false, List, [], ◌∷◌, ◌++◌, length, get_or, refl, sym, ap, subst, ◌∙◌, arith, inl, inr}
use Rattle.std.specs.Prelude.{Option, Some, None, slice_get, option_map, if◌then◌else◌}
use Rattle.std.specs.List.{All, Contains}
use Rattle.std.specs.Str.{bytes_eq}
use Rattle.std.proofs.lemmas.Slice.Eq.{bytes_eq-Decides}
use Rattle.std.proofs.lemmas.List.Elements.{Contains-append_cases, All-nil, All-cons}
use Rattle.std.proofs.lemmas.Option.{slice_get_within, get_or_from_slice_get, slice_get-map}
use Rattle.nuc_base.specs.Leads.{HasPath, direct, through}
use Rattle.nuc_base.proofs.Lists.{in_nil, in_one, in_here, in_there, in_map, all_from_in}
use Rattle.dep_order.specs.declared.Need.{Need as Edge}
use Rattle.dep_order.specs.declared.Edges.{Edges}
use Rattle.dep_order.specs.Orders.{HasNeed as NeedsOf, AreNodes, IsAcyclic, IsOrderAfter, IsWholeOrder}
use Rattle.recipe_reader.specs.Members.{Member, Need, need, member, members}
use Rattle.recipe_reader.specs.Sets.{IsValid, HasDependency, needs_in, name_in}
use Rattle.recipe_reader.specs.declared.candidate.Candidate.{Candidate}
use Rattle.recipe_reader.specs.declared.recipe.Dependency.{Dependency}
use Rattle.plan_core.specs.Boots.{place_from, place_of, edge_to, edges_at, edges_from, edges_of}
use Rattle.plan_core.specs.Set.{chosen}
use Rattle.plan_core.proofs.Growing.{element, chosen_at}

-- ---- edges

-- a candidate of that name stands there
pub record IsAt (cs : List Candidate) (n : List ℕ) (p : ℕ) : Type 0 where
  pub candidate : Candidate
  pub there : slice_get cs p ≡ Some candidate
  pub named : candidate.recipe.name ≡ n

from_step : (k : ℕ) (n : List ℕ) (c : Candidate) (cs : List Candidate) (p : ℕ) (b : Bool) → bytes_eq n c.recipe.name ≡ b
    → (place_from (k + 1) n cs ≡ Some p → (at : ℕ) × (p ≡ (k + 1) + at) × IsAt cs n at)
    → (if b then Some k else place_from (k + 1) n cs) ≡ Some p → (at : ℕ) × (p ≡ k + at) × IsAt (c ∷ cs) n at
from_step k n c cs p true e more is =
    let same : k ≡ p = cc in
    (0, omega (arith, same), record { candidate = c; there = refl; named = sym ((bytes_eq-Decides n c.recipe.name).0 e) })
from_step k n c cs p false e more is =
    let m = more is in
    let far = m.1 in
    (suc m.0, omega (arith, far), record { candidate = m.2.candidate; there = m.2.there; named = m.2.named })

from_found : (k : ℕ) (n : List ℕ) (cs : List Candidate) (p : ℕ) → place_from k n cs ≡ Some p → (at : ℕ) × (p ≡ k + at) × IsAt cs n at
from_found k n [] p is = absurd (cc)
from_found k n (c ∷ cs) p is = from_step k n c cs p (bytes_eq n c.recipe.name) refl (from_found (k + 1) n cs p) is

place_found : (n : List ℕ) (cs : List Candidate) (p : ℕ) → place_of n cs ≡ Some p → IsAt cs n p
place_found n cs p is =
    let f = from_found 0 n cs p is in
    let same = f.1 in
    subst (IsAt cs n) (omega (arith, same)) f.2

-- a need of the candidate at a place
record IsEdge (all cs : List Candidate) (k : ℕ) (e : Edge) : Type 0 where
  at : ℕ
  from : e.from ≡ k + at
  candidate : Candidate
  there : slice_get cs at ≡ Some candidate
  dependency : Dependency
  has : Contains candidate.recipe.dependencies dependency
  to : IsAt all dependency.name e.to

edge_is : (from : ℕ) (hard : Bool) (o : Option ℕ) (e : Edge) → Contains (edge_to from hard o) e → (e.from ≡ from) × (o ≡ Some e.to)
edge_is from hard None e h = absurd (in_nil e h)
edge_is from hard (Some to) e h =
    let same = in_one (record { from = from; to = to; hard = hard }) e h in
    (sym (ap (λ (x : Edge). x.from) same), ap (λ (x : Edge). Some x.to) same)

row_edge : (all : List Candidate) (from : ℕ) (ds : List Dependency) (e : Edge) → Contains (edges_at all from ds) e
    → (d : Dependency) × Contains ds d × (e.from ≡ from) × IsAt all d.name e.to
row_edge all from [] e h = absurd (in_nil e h)
row_edge all from (d ∷ ds) e h = elim (Contains-append_cases (edge_to from d.hard (place_of d.name all)) (edges_at all from ds) e h) [
  | inl here ↦ (let i = edge_is from d.hard (place_of d.name all) e here in (d, in_here d ds, i.0, place_found d.name all e.to i.1))
  | inr later ↦ (let r = row_edge all from ds e later in (r.0, in_there d ds r.0 r.1, r.2, r.3))
]

edge_in : (all : List Candidate) (k : ℕ) (cs : List Candidate) (e : Edge) → Contains (edges_from all k cs) e → IsEdge all cs k e
edge_in all k [] e h = absurd (in_nil e h)
edge_in all k (c ∷ cs) e h = elim (Contains-append_cases (edges_at all k c.recipe.dependencies) (edges_from all (k + 1) cs) e h) [
  | inl here ↦ (let r = row_edge all k c.recipe.dependencies e here in
      let from = r.2 in
      record { at = 0; from = omega (arith, from); candidate = c; there = refl; dependency = r.0; has = r.1; to = r.3 })
  | inr later ↦ (let i = edge_in all (k + 1) cs e later in
      let from = i.from in
      record { at = suc i.at; from = omega (arith, from); candidate = i.candidate; there = i.there; dependency = i.dependency; has = i.has; to = i.to })
]

pub are_nodes : (cs : List Candidate) → AreNodes (edges_of cs)
are_nodes cs = all_from_in (λ (e : Edge). (e.from < length cs) × (e.to < length cs)) (edges_from cs 0 cs) (λ e h.
    let i = edge_in cs 0 cs e h in
    let from = i.from in
    let below = slice_get_within cs i.at i.candidate i.there in
    (omega (arith, from, below), slice_get_within cs e.to i.to.candidate i.to.there))

-- ---- no cycles

-- steps of one relation are steps of another
leads_by : {A B : Type 0} {R : A → A → Type 0} {S : B → B → Type 0} (f : A → B) → ((x y : A) → R x y → S (f x) (f y)) → {p q : A} → HasPath R p q →
    HasPath S (f p) (f q)
leads_by f step (direct {a = x} {b = y} r) = direct (step x y r)
leads_by f step (through {a = x} {b = y} {c = z} r m) = through (step x y r) (leads_by f step m)

module _ (cs : List Candidate) (set : List ℕ) (below : All (λ p. p < length cs) set) where
  stands : (a : ℕ) (c : Candidate) → slice_get (chosen cs set) a ≡ Some c → (slice_get cs (get_or set a 0) ≡ Some c) × Contains set (get_or set a 0)
  stands a c there =
      let at = chosen_at cs set below a c there in
      let same = get_or_from_slice_get set a at.place 0 at.listed in
      (subst (λ p. slice_get cs p ≡ Some c) (sym same) at.there, subst (Contains set) (sym same) (element set a at.place at.listed))

  needs_too : (a b : ℕ) → NeedsOf (edges_of (chosen cs set)) a b → HasDependency (members cs) set (get_or set a 0) (get_or set b 0)
  needs_too a b n =
      let i = edge_in (chosen cs set) 0 (chosen cs set) n.by n.is in
      let start = i.from in
      let first = n.from in
      let from = stands a i.candidate (subst (λ p. slice_get (chosen cs set) p ≡ Some i.candidate) (omega (arith, start, first)) i.there) in
      let to = stands b i.to.candidate (subst (λ p. slice_get (chosen cs set) p ≡ Some i.to.candidate) n.to i.to.there) in
      let source : slice_get (members cs) (get_or set a 0) ≡ Some (member i.candidate) = slice_get-map member cs (get_or set a 0) ∙ ap (option_map member)
      from.0 in
      let target : slice_get (members cs) (get_or set b 0) ≡ Some (member i.to.candidate) = slice_get-map member cs (get_or set b 0) ∙ ap (option_map member)
      to.0 in
      record {
        from = from.1;
        to = to.1;
        by = need i.dependency;
        is = subst (λ (o : Option Member). Contains (needs_in o) (need i.dependency)) (sym source)
            (in_map need i.candidate.recipe.dependencies i.dependency i.has);
        named = ap name_in target ∙ ap (λ (n : List ℕ). Some n) i.to.named;
      }

-- the dependencies among the members of a valid set have no cycle
pub choice_is_acyclic : (cs : List Candidate) (wanted : List Need) (set : List ℕ) → IsValid (members cs) wanted set → All (λ p. p < length cs) set →
    IsAcyclic (edges_of (chosen cs set))
choice_is_acyclic cs wanted set valid below p l = valid.acyclic (get_or set p 0) (leads_by (λ a. get_or set a 0) (needs_too cs set below) l)

-- ---- orders

order_below : (edges : Edges) (taken list : List ℕ) → IsOrderAfter edges taken list → All (λ p. p < edges.nodes) list
order_below edges taken [] h = All-nil (λ p. p < edges.nodes)
order_below edges taken (p ∷ ps) h = All-cons (λ q. q < edges.nodes) p ps h.0.is_open.node (order_below edges (taken ++ p ∷ []) ps h.1)

-- an order takes places of nodes
pub order_places : (edges : Edges) (list : List ℕ) → IsWholeOrder edges list → All (λ p. p < edges.nodes) list
order_places edges list h = order_below edges [] list h.order
