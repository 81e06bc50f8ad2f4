-- An order of some places always exists, there is one, and without cycles it takes all.
use Rattle.std.proofs.Common.{◌≡◌, ℕ, zero, suc, ◌+◌, ◌<◌, ◌≤◌, ◌⊎◌, eqb, List, [], ◌∷◌, ◌++◌, length, length-append, refl, sym, ap, ◌∙◌, subst, inl, inr}
use Rattle.std.proofs.Common.{arith, append_assoc, append-nil}
use Rattle.std.specs.List.{All, Contains, IsDistinct, list_any}
use Rattle.std.proofs.lemmas.Bool.{cases_eq, cases_lt, cases_Bool, false≢true}
use Rattle.std.proofs.lemmas.List.Elements.{All-push, All-nil}
use Rattle.nuc_base.proofs.Lists.{in_nil, in_cons, in_here, in_there, distinct_push, distinct_nil, at_most}
use Rattle.dep_order.specs.declared.Need.{Need}
use Rattle.dep_order.specs.declared.Edges.{Edges}
use Rattle.dep_order.specs.Orders.{HasNeed, AreNodes, IsReady, IsOpen, IsLeastOpen, IsOrderAfter, IsOrder, IsWhole, IsWholeOrder, IsAcyclic, NeedsComeFirst}
use Rattle.dep_order.specs.Orders.{AreLinked}
use Rattle.dep_order.proofs.Counted.{any_to, any_from}
use Rattle.dep_order.proofs.Cycles.{needs_nodes, linked_push, cycle_at, cycle_leads, order_ends}

in_or_not : (q : ℕ) (xs : List ℕ) → Contains xs q ⊎ (Contains xs q → ⊥)
in_or_not q xs = elim (cases_Bool (list_any (eqb q) xs)) [ inl t ↦ inl (any_to q xs t) | inr f ↦ inr (λ i. false≢true (sym f ∙ any_from q xs i)) ]

-- a need of the place to what is not taken
record Lacks (taken : List ℕ) (p : ℕ) (needs : List Need) : Type 0 where
  by : Need
  is : Contains needs by
  from : by.from ≡ p
  untaken : Contains taken by.to → ⊥

lacks_later : (taken : List ℕ) (p : ℕ) (e : Need) (needs : List Need) → Lacks taken p needs → Lacks taken p (e ∷ needs)
lacks_later taken p e needs h = record { by = h.by; is = in_there e needs h.by h.is; from = h.from; untaken = h.untaken }

-- what the place needs by these needs is taken
record AreMet (taken : List ℕ) (p : ℕ) (needs : List Need) : Type 0 where
  all : (e : Need) → Contains needs e → e.from ≡ p → Contains taken e.to

met_more : (taken : List ℕ) (p : ℕ) (e : Need) (needs : List Need) → AreMet taken p needs → (e.from ≡ p → Contains taken e.to) → AreMet taken p (e ∷ needs)
met_more taken p e needs h here = record {
  all = λ x i f. elim (in_cons e needs x i) [
    | inl s ↦ subst (λ (y : Need). y.from ≡ p → Contains taken y.to) s here f
    | inr j ↦ h.all x j f
  ];
}

met_or_lacks : (taken : List ℕ) (p : ℕ) (needs : List Need) → AreMet taken p needs ⊎ Lacks taken p needs
met_or_lacks taken p [] = inl (record { all = λ x i. absurd (in_nil x i) })
met_or_lacks taken p (e ∷ needs) = elim (met_or_lacks taken p needs) [
  | inr l ↦ inr (lacks_later taken p e needs l)
  | inl met ↦ elim (cases_eq e.from p) [
    | inr ne ↦ inl (met_more taken p e needs met (λ s. absurd (ne s)))
    | inl f ↦ elim (in_or_not e.to taken) [
      | inl i ↦ inl (met_more taken p e needs met (λ _. i))
      | inr free ↦ inr (record { by = e; is = in_here e needs; from = f; untaken = free })
    ]
  ]
]

ready_or_not : (edges : Edges) (taken : List ℕ) (p : ℕ) → IsReady edges taken p ⊎ ((q : ℕ) × HasNeed edges p q × (Contains taken q → ⊥))
ready_or_not edges taken p = elim (met_or_lacks taken p edges.needs) [
  | inl met ↦ inl (λ q n. subst (Contains taken) n.to (met.all n.by n.is n.from))
  | inr l ↦ (let e = l.by in inr (e.to, record { by = e; is = l.is; from = l.from; to = refl }, l.untaken))
]

below_more' : (P : ℕ → Type 0) (n : ℕ) → ((q : ℕ) → q < n → P q) → P n → (q : ℕ) → q < suc n → P q
below_more' P n h here = λ q lt. elim (cases_eq n q) [ inl e ↦ subst P e here | inr ne ↦ h q (omega (arith, lt, ne)) ]

least_below : (edges : Edges) (taken : List ℕ) (n : ℕ) → n ≤ edges.nodes → ((q : ℕ) → q < n → IsOpen edges taken q → ⊥) ⊎ ((p : ℕ) × IsLeastOpen edges taken p)
least_below edges taken zero le = inl (λ q lt. absurd (omega (arith, lt)))
least_below edges taken (suc n) le = elim (least_below edges taken n (omega (arith, le))) [
  | inr found ↦ inr found
  | inl none ↦ elim (in_or_not n taken) [
    | inl i ↦ inl (below_more' (λ q. IsOpen edges taken q → ⊥) n none (λ o. o.untaken i))
    | inr free ↦ elim (ready_or_not edges taken n) [
      | inl ready ↦ inr (
        n,
        record {
          is_open = record { node = omega (arith, le); untaken = free; ready = ready };
          least = λ q o. elim (cases_lt q n) [ inl lt ↦ absurd (none q lt o) | inr up ↦ up ];
        },
      )
      | inr lacks ↦ inl (below_more' (λ q. IsOpen edges taken q → ⊥) n none (λ o. lacks.2 (o.ready lacks.0 lacks.1)))
    ]
  ]
]

next_or_none : (edges : Edges) (taken : List ℕ) → ((q : ℕ) → IsOpen edges taken q → ⊥) ⊎ ((p : ℕ) × IsLeastOpen edges taken p)
next_or_none edges taken = elim (least_below edges taken edges.nodes (omega arith)) [ inl none ↦ inl (λ q o. none q o.node o) | inr found ↦ inr found ]

one_longer : (xs : List ℕ) (x : ℕ) → length (xs ++ x ∷ []) ≡ length xs + 1
one_longer xs x = length-append xs (x ∷ [])

-- places that are different nodes, and one more, are at most the nodes
room_left : (nodes : ℕ) (xs : List ℕ) (x : ℕ) → IsDistinct eqb xs → All (λ p. p < nodes) xs → (Contains xs x → ⊥) → x < nodes → length xs + 1 ≤ nodes
room_left nodes xs x d b free lt =
    let m = at_most (xs ++ x ∷ []) nodes (distinct_push xs x d free) (All-push (λ p. p < nodes) xs x b lt) in
    omega (arith, m, one_longer xs x)

order_after : (edges : Edges) (fuel : ℕ) (taken : List ℕ) → IsDistinct eqb taken → All (λ p. p < edges.nodes) taken → edges.nodes ≤ fuel + length taken →
    (list : List ℕ) × IsOrderAfter edges taken list
order_after edges zero taken d b le = elim (next_or_none edges taken) [
  | inl none ↦ ([], none)
  | inr found ↦
      (let least = found.1 in
      let is = least.is_open in
      let m = room_left edges.nodes taken found.0 d b is.untaken is.node in
      absurd (omega (arith, m, le)))
]
order_after edges (suc fuel) taken d b le = elim (next_or_none edges taken) [
  | inl none ↦ ([], none)
  | inr found ↦
      (let p = found.0 in
      let least = found.1 in
      let is = least.is_open in
      let rest = order_after edges fuel (taken ++ p ∷ []) (distinct_push taken p d is.untaken) (All-push (λ q. q < edges.nodes) taken p b is.node)
      (omega (arith, le, one_longer taken p)) in
      (p ∷ rest.0, (least, rest.1)))
]

order_exists : (edges : Edges) → (list : List ℕ) × IsOrder edges list
order_exists edges = order_after edges edges.nodes [] distinct_nil (All-nil (λ p. p < edges.nodes)) (omega arith)

-- a walk through places that are left out comes to a cycle
no_walk : (edges : Edges) (list : List ℕ) → AreNodes edges → IsAcyclic edges → ((q : ℕ) → IsOpen edges list q → ⊥) → (fuel : ℕ) (path : List ℕ) (x : ℕ) →
    IsDistinct eqb path → All (λ p. p < edges.nodes) path → AreLinked edges path x → x < edges.nodes → (Contains list x → ⊥) →
    edges.nodes ≤ fuel + length path → ⊥
no_walk edges list nodes acyclic stuck zero path x d b linked lt free le = elim (in_or_not x path) [
  | inl i ↦ (let c = cycle_leads edges _ (cycle_at edges path i.0 x x i.1 i.2 linked) in acyclic c.0 c.1)
  | inr new ↦ (let m = room_left edges.nodes path x d b new lt in omega (arith, m, le))
]
no_walk edges list nodes acyclic stuck (suc fuel) path x d b linked lt free le = elim (in_or_not x path) [
  | inl i ↦ (let c = cycle_leads edges _ (cycle_at edges path i.0 x x i.1 i.2 linked) in acyclic c.0 c.1)
  | inr new ↦ elim (ready_or_not edges list x) [
    | inl ready ↦ stuck x (record { node = lt; untaken = free; ready = ready })
    | inr lacks ↦
        (let y = lacks.0 in
        let below = needs_nodes edges x y nodes lacks.1 in
        no_walk edges list nodes acyclic stuck fuel (path ++ x ∷ []) y (distinct_push path x d new) (All-push (λ p. p < edges.nodes) path x b lt)
        (linked_push edges path x y linked lacks.1) below.1 lacks.2 (omega (arith, le, one_longer path x)))
  ]
]

whole_if_acyclic : (edges : Edges) (list : List ℕ) → AreNodes edges → IsAcyclic edges → IsOrder edges list → IsWhole edges list
whole_if_acyclic edges list nodes acyclic o = λ p lt. elim (in_or_not p list) [
  | inl i ↦ i
  | inr free ↦ absurd (no_walk edges list nodes acyclic (order_ends edges [] list o) edges.nodes [] p distinct_nil (All-nil (λ q. q < edges.nodes)) tt lt
      free (omega arith))
]

-- without cycles there is an order of all
pub ordered : (edges : Edges) → AreNodes edges → IsAcyclic edges → (list : List ℕ) × IsWholeOrder edges list
ordered edges nodes acyclic =
    let o = order_exists edges in
    (o.0, record { order = o.1; whole = whole_if_acyclic edges o.0 nodes acyclic o.1 })

first_after : (edges : Edges) (taken before after : List ℕ) (p q : ℕ) → IsOrderAfter edges taken (before ++ p ∷ after) → HasNeed edges p q →
    Contains (taken ++ before) q
first_after edges taken [] after p q o n =
    let least = o.0 in
    let is = least.is_open in
    subst (λ l. Contains l q) (sym (append-nil taken)) (is.ready q n)
first_after edges taken (x ∷ xs) after p q o n = subst (λ l. Contains l q) (append_assoc taken (x ∷ []) xs) (first_after edges (taken ++ x
    ∷ []) xs after p q o.1 n)

-- what a place needs stands before it
pub come_first : (edges : Edges) (list : List ℕ) → IsOrder edges list → NeedsComeFirst edges list
come_first edges list o = λ before after p q e n. first_after edges [] before after p q (subst (IsOrder edges) e o) n

pub same_order : (edges : Edges) (taken some other : List ℕ) → IsOrderAfter edges taken some → IsOrderAfter edges taken other → some ≡ other
same_order edges taken [] [] a b = refl
same_order edges taken [] (q ∷ qs) a b = (let least = b.0 in absurd (a q least.is_open))
same_order edges taken (p ∷ ps) [] a b = (let least = a.0 in absurd (b p least.is_open))
same_order edges taken (p ∷ ps) (q ∷ qs) a b =
    let first = a.0 in
    let second = b.0 in
    let up = first.least q second.is_open in
    let down = second.least p first.is_open in
    let e : p ≡ q = omega (arith, up, down) in
    let rest = subst (λ x. IsOrderAfter edges (taken ++ x ∷ []) qs) (sym e) b.1 in
    ap (λ x. x ∷ ps) e ∙ ap (λ l. q ∷ l) (same_order edges (taken ++ p ∷ []) ps qs a.1 rest)
