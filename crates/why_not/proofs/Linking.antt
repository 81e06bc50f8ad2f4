-- Edges among places, and loops.
use Rattle.std.proofs.Common.{◌≡◌, ℕ, ◌+◌, ◌<◌, List, [], ◌∷◌, ◌++◌, length, get_or, take, Option, Some, None, refl, sym, ap, ◌∙◌, ◌⊎◌, subst, inl, inr}
use Rattle.std.specs.Prelude.{slice_get}
use Rattle.std.specs.List.{Contains}
use Rattle.std.proofs.lemmas.List.Elements.{Contains-append_left, Contains-push, Contains-push_cases}
use Rattle.nuc_base.specs.Leads.{HasPath}
use Rattle.nuc_base.proofs.Leading.{leads_more}
use Rattle.nuc_base.proofs.Lists.{in_nil, in_cons, all_from_in}
use Rattle.dep_order.specs.declared.Need.{Need as Edge}
use Rattle.dep_order.specs.declared.Edges.{Edges}
use Rattle.dep_order.specs.Orders as orders
use Rattle.recipe_reader.specs.Members.{Need, Member}
use Rattle.recipe_reader.specs.Sets.{name_in, needs_in, needs_of, HasDependency}
use Rattle.recipe_reader.proofs.Searching.{within_from_name, acyclic_push}
use Rattle.why_not.specs.Certificates.{DependsOn, AreChained, IsLoop}
use Rattle.why_not.specs.Edges.{HasEdge, AreEdges, LeadsFrom, AddsEdges}
use Rattle.why_not.proofs.Each.{this, before, cases}

-- ---- the edges so far

pub adds_none : (ms : List Member) (place : ℕ) (old : List Edge) → AddsEdges ms place [] old old
adds_none ms place old = record { kept = λ a b j. j; has = λ b i d. absurd (in_nil b i); only = λ a b j. inl j }

joins_before : (old : List Edge) (e : Edge) (a b : ℕ) → HasEdge old a b → HasEdge (old ++ e ∷ []) a b
joins_before old e a b j = record { by = j.by; is = Contains-append_left old (e ∷ []) j.by j.is; from = j.from; to = j.to }

module _ (ms : List Member) (place : ℕ) (tos : List ℕ) (i : ℕ) (lt : i < length tos) (old mid : List Edge) (h : AddsEdges ms place (take i tos) old mid) where
  only_more : (a b : ℕ) → HasEdge mid a b → HasEdge old a b ⊎ LeadsFrom ms place (take (i + 1) tos) a b
  only_more a b j = elim (h.only a b j) [
    | inl o ↦ inl o
    | inr f ↦ inr (record { from = f.from; to = before tos i lt b f.to; depends = f.depends })
  ]

  pub adds_more : (new : List Edge) (e : Edge) → new ≡ mid ++ e ∷ [] → e.from ≡ place → e.to ≡ get_or tos i 0 → DependsOn ms place (get_or tos i 0) →
      AddsEdges ms place (take (i + 1) tos) old new
  adds_more new e is from to d = subst (AddsEdges ms place (take (i + 1) tos) old) (sym is) (record {
    kept = λ a b j. joins_before mid e a b (h.kept a b j);
    has = λ b k n. elim (cases tos i lt b k) [
      | inl l ↦ joins_before mid e place b (h.has b l n)
      | inr same ↦ record { by = e; is = Contains-push mid e; from = from; to = to ∙ same }
    ];
    only = λ a b j. elim (Contains-push_cases mid e j.by j.is) [
      | inl l ↦ only_more a b (record { by = j.by; is = l; from = j.from; to = j.to })
      | inr same ↦ inr (
          let source : place ≡ a = sym from ∙ ap (λ (x : Edge). x.from) same ∙ j.from in
          let target : get_or tos i 0 ≡ b = sym to ∙ ap (λ (x : Edge). x.to) same ∙ j.to in
          record {
            from = source;
            to = subst (Contains (take (i + 1) tos)) target (this tos i lt);
            depends = subst (λ z. DependsOn ms z b) source (subst (DependsOn ms place) target d);
          })
    ];
  })

  pub adds_same : (DependsOn ms place (get_or tos i 0) → ⊥) → AddsEdges ms place (take (i + 1) tos) old mid
  adds_same out = record {
    kept = h.kept;
    has = λ b k n. elim (cases tos i lt b k) [ inl l ↦ h.has b l n | inr same ↦ absurd (out (subst (DependsOn ms place) (sym same) n)) ];
    only = only_more;
  }

pub edges_none : (ms : List Member) (tos : List ℕ) → AreEdges ms [] tos []
edges_none ms tos = record {
  has = λ a b i j d. absurd (in_nil a i);
  from = λ a b j. absurd (in_nil j.by j.is);
  to = λ a b j. absurd (in_nil j.by j.is);
  depends = λ a b j. absurd (in_nil j.by j.is);
}

pub edges_more : (ms : List Member) (froms tos : List ℕ) (i : ℕ) → i < length froms → (old new : List Edge) → AreEdges ms (take i froms) tos old →
    AddsEdges ms (get_or froms i 0) tos old new → AreEdges ms (take (i + 1) froms) tos new
edges_more ms froms tos i lt old new h more = record {
  has = λ a b k l d. elim (cases froms i lt a k) [
    | inl j ↦ more.kept a b (h.has a b j l d)
    | inr same ↦ subst (λ z. HasEdge new z b) same (more.has b l (subst (λ z. DependsOn ms z b) (sym same) d))
  ];
  from = λ a b j. elim (more.only a b j) [
    | inl o ↦ before froms i lt a (h.from a b o)
    | inr f ↦ subst (Contains (take (i + 1) froms)) f.from (this froms i lt)
  ];
  to = λ a b j. elim (more.only a b j) [ inl o ↦ h.to a b o | inr f ↦ f.to ];
  depends = λ a b j. elim (more.only a b j) [ inl o ↦ h.depends a b o | inr f ↦ f.depends ];
}

-- ---- edges and dependencies

needed_at : (ms : List Member) (p : ℕ) (d : Need) (o : Option Member) → slice_get ms p ≡ o → Contains (needs_in o) d → (n : List ℕ) × (name_in o ≡ Some n)
needed_at ms p d None e i = absurd (in_nil d i)
needed_at ms p d (Some m) e i = (m.name, refl)

within_from_need : (ms : List Member) (p : ℕ) (d : Need) → Contains (needs_of ms p) d → p < length ms
within_from_need ms p d i = let n = needed_at ms p d (slice_get ms p) refl i in within_from_name ms p n.0 n.1

module _ (ms : List Member) (places : List ℕ) (edges : Edges) (are : AreEdges ms places places edges.needs) where
  edge_of : (a b : ℕ) → orders.HasNeed edges a b → HasEdge edges.needs a b
  edge_of a b e = record { by = e.by; is = e.is; from = e.from; to = e.to }

  need_edge : (a b : ℕ) → HasDependency ms places a b → orders.HasNeed edges a b
  need_edge a b n =
      let j = are.has a b n.from n.to (record { by = n.by; is = n.is; named = n.named }) in
      record { by = j.by; is = j.is; from = j.from; to = j.to }

  pub edges_nodes : edges.nodes ≡ length ms → orders.AreNodes edges
  edges_nodes e = all_from_in (λ (x : Edge). (x.from < edges.nodes) × (x.to < edges.nodes)) edges.needs (λ x i.
      (let d = are.depends x.from x.to (record { by = x; is = i; from = refl; to = refl }) in (
        subst (λ m. x.from < m) (sym e) (within_from_need ms x.from d.by d.is),
        subst (λ m. x.to < m) (sym e) (within_from_name ms x.to d.by.name d.named),
      )))

  pub edges_acyclic : orders.IsAcyclic edges → (x : ℕ) → HasPath (HasDependency ms places) x x → ⊥
  edges_acyclic free x r = free x (leads_more need_edge r)

  chained : (p : ℕ) (ps : List ℕ) (last : ℕ) → orders.AreLinked edges (p ∷ ps) last → AreChained ms p ps last
  chained p [] last l = are.depends p last (edge_of p last l.0)
  chained p (q ∷ qs) last l = (are.depends p q (edge_of p q l.0), chained q qs last l.1)

  linked_within : (ps : List ℕ) (last : ℕ) → orders.AreLinked edges ps last → (x : ℕ) → Contains ps x → Contains places x
  linked_within [] last l x i = absurd (in_nil x i)
  linked_within (p ∷ ps) last l x i = elim (in_cons p ps x i) [
    | inl e ↦ subst (Contains places) e (are.from p (orders.head_or ps last) (edge_of p (orders.head_or ps last) l.0))
    | inr j ↦ linked_within ps last l.1 x j
  ]

  pub cycle_loop : (cycle : List ℕ) → orders.IsCycle edges cycle → ((x : ℕ) → Contains cycle x → Contains places x) × IsLoop ms cycle
  cycle_loop [] l = absurd l
  cycle_loop (p ∷ ps) l = (linked_within (p ∷ ps) p l, chained p ps p l)

-- a place that depends on none of them closes no loop
pub nowhere_acyclic : (ms : List Member) (taken : List ℕ) (p : ℕ) → ((x : ℕ) → Contains (taken ++ p ∷ []) x → DependsOn ms p x → ⊥) →
    ((x : ℕ) → HasPath (HasDependency ms taken) x x → ⊥) → (x : ℕ) → HasPath (HasDependency ms (taken ++ p ∷ [])) x x → ⊥
nowhere_acyclic ms taken p out h = acyclic_push ms taken p (λ q n. out q n.to (record { by = n.by; is = n.is; named = n.named })) h
