-- Names each of which needs one of them again have no end: no walk that stands has any of them.
use Rattle.std.proofs.Common.{◌≡◌, ◌≢◌, ◌⊎◌, ℕ, zero, suc, ◌+◌, ◌-◌, ◌*◌, ◌<◌, ◌≤◌, eqb, Bool, true, false, List, [], ◌∷◌, ◌++◌, length, get_or, take, Some, refl, sym, ap, ◌∙◌, subst, inl, inr, arith}
use Rattle.std.specs.Prelude.{slice_set}
use Rattle.std.specs.List.{All, Contains, IsDistinct}
use Rattle.std.proofs.lemmas.Bool.{cases_eq, false≢true}
use Rattle.std.proofs.lemmas.List.{length_push, take_more, get_or-set_other}
use Rattle.std.proofs.lemmas.List.Elements.{Contains-append_left, Contains-push, Contains-push_cases, All-contains}
use Rattle.nuc_base.specs.Leads.{HasPath, direct, through}
use Rattle.nuc_base.proofs.Lists.{in_nil, in_cons, in_here, in_there, all_from_in, at_most, distinct_push, distinct_nil}
use Rattle.nuc_base.proofs.Leading.{leads_push}
use Rattle.recipe_reader.specs.Members.{Need, Member}
use Rattle.recipe_reader.specs.Sets.{name_of, needs_of, HasDependency}
use Rattle.recipe_reader.proofs.Required.{required_by_need}
use Rattle.recipe_reader.proofs.Searching.{within_from_name}
use Rattle.recipe_reader.proofs.ValidSets.{complete_from}
use Rattle.conflict_search.specs.Numbers.{IsFirstPlace}
use Rattle.conflict_search.specs.Terms.{Has, IsValue, IsTerm, Stands, IsNogood}
use Rattle.conflict_search.specs.Endless.{IsAmong, NeedsSome, IsNeeding, AreListedOf, IsClosed, AreNeeding}
use Rattle.conflict_search.specs.declared.terms.Term.{Term}
use Rattle.conflict_search.proofs.Learning.{value_same, first_same}

contains_or_not : (q : ℕ) (xs : List ℕ) → Contains xs q ⊎ (Contains xs q → ⊥)
contains_or_not q [] = inr (in_nil q)
contains_or_not q (x ∷ xs) = elim (cases_eq x q) [
  | inl e ↦ inl (subst (Contains (x ∷ xs)) e (in_here x xs))
  | inr ne ↦ elim (contains_or_not q xs) [
    | inl i ↦ inl (in_there x xs q i)
    | inr out ↦ inr (λ i. elim (in_cons x xs q i) [ inl e ↦ ne e | inr j ↦ out j ])
  ]
]

-- places below n, each of which leads to another of them, lead back: what was seen leads to p
comes_back : (R : ℕ → ℕ → Type 0) (Q : ℕ → Type 0) (n : ℕ) → ((p : ℕ) → Q p → p < n) → ((p : ℕ) → Q p → (q : ℕ) × Q q × R p q) →
    (k : ℕ) (seen : List ℕ) (p : ℕ) → length seen + k ≡ suc n → IsDistinct eqb seen → All (λ x. x < n) seen →
    ((x : ℕ) → Contains seen x → HasPath R x p) → (Contains seen p → ⊥) → Q p → (x : ℕ) × HasPath R x x
comes_back R Q n below next zero seen p count distinct small lead new h =
    let most = at_most seen n distinct small in absurd (omega (arith, count, most))
comes_back R Q n below next (suc k) seen p count distinct small lead new h =
    let step = next p h in
    let q = step.0 in
    let lead' : (x : ℕ) → Contains (seen ++ p ∷ []) x → HasPath R x q = λ x i. elim (Contains-push_cases seen p x i) [
      | inl j ↦ leads_push (lead x j) step.2
      | inr e ↦ subst (λ z. HasPath R z q) e (direct step.2)
    ] in
    elim (contains_or_not q (seen ++ p ∷ [])) [
      | inl i ↦ (q, lead' q i)
      | inr out ↦ comes_back R Q n below next k (seen ++ p ∷ []) q (let l = length_push seen p in omega (arith, count, l)) (distinct_push seen p distinct new)
          (all_from_in (λ x. x < n) (seen ++ p ∷ []) (λ x i. elim (Contains-push_cases seen p x i) [
            | inl j ↦ All-contains (λ x. x < n) seen x small j
            | inr e ↦ subst (λ z. z < n) e (below p h)
          ]))
          lead' out step.1
    ]

module _ (ms : List Member) (wanted : List Need) (among listed : List Bool) (first : ℕ → ℕ) (places : List ℕ) (terms : List Term)
    (are : AreListedOf first places listed) (closed : IsClosed ms listed among) (h : AreNeeding ms among first places terms) where
  -- a place of a walk that stands and meets all terms needs some name, where its name is among them
  needs_again : (walk : List ℕ) → Stands ms wanted walk → ((t : Term) → Contains terms t → (v : ℕ) × IsValue ms walk t.from v × Has t.set.items v) →
      (p : ℕ) (n : List ℕ) (f : ℕ) → Contains walk p → name_of ms p ≡ Some n → IsFirstPlace ms n f → IsAmong among f → NeedsSome ms among p
  needs_again walk s met p n f i e is in_table = elim (closed p n f e is in_table) [
    | inr needs ↦ needs
    | inl there ↦ (let x = are f there in
        let u = h.each x.0 x.1 in
        let from : u.0.from ≡ f = u.2 ∙ x.2 in
        let m = met u.0 u.1 in
        let own : IsValue ms walk f (p + 1 - f) = record { name = n; is = is; choice = inr (p, i, e, refl) } in
        let same = value_same ms wanted walk f m.0 (p + 1 - f) s (subst (λ z. IsValue ms walk z m.0) from m.1) own in
        let low = is.least p e in
        let needing = h.sets u.0 u.1 in
        elim (needing.only m.0 m.2) [
          | inl z ↦ absurd (omega (arith, z, same, low))
          | inr r ↦ (let q : r.0 ≡ p = (let le = r.1 in let val = r.2 in omega (arith, le, val, same, from, low)) in subst (NeedsSome ms among) q r.3)
        ])
  ]

  pub never_ending : IsNogood ms wanted terms
  never_ending = record {
    sets = λ t i. (let n = h.sets t i in n.term);
    none = λ walk s met.
        (let Q = λ (p : ℕ). (n : List ℕ) × (f : ℕ) × Contains walk p × (name_of ms p ≡ Some n) × IsFirstPlace ms n f × IsAmong among f in
        let next : (p : ℕ) → Q p → (q : ℕ) × Q q × HasDependency ms walk p q = λ p a.
        (let d = needs_again walk s met p a.0 a.1 a.2 a.3 a.4 a.5 in
        let q = complete_from ms wanted [] walk s.is_walk d.0.name (required_by_need ms wanted walk p d.0 a.2 d.1) in
        (q.0, (d.0.name, d.2, q.1, q.2, d.3, d.4), record { from = a.2; to = q.1; by = d.0; is = d.1; named = q.2 })) in
        let start = h.present in
        let m = met start.0 start.1 in
        let value = m.1 in
        elim value.choice [
          | inl z ↦ absurd (start.3 (subst (Has start.0.set.items) z.0 m.2))
          | inr r ↦ (let round = comes_back (HasDependency ms walk) Q (length ms) (λ p a. within_from_name ms p a.0 a.3) next (suc (length ms)) [] r.0 (omega arith)
              distinct_nil (all_from_in (λ x. x < length ms) [] (λ x i. absurd (in_nil x i))) (λ x i. absurd (in_nil x i)) (in_nil r.0)
              (value.name, start.0.from, r.1, r.2, value.is, start.2) in
              let c = s.consistent in
              c.acyclic round.0 round.1)
        ]);
  }

-- ---- terms of versions that need some name

module _ (ms : List Member) (among : List Bool) (t : Term) (h : IsNeeding ms among t) where
  pub needing_place : (new : Term) (q : ℕ) → IsTerm ms new → new.from ≡ t.from → ((v : ℕ) → Has new.set.items v → Has t.set.items v ⊎ (v ≡ q + 1 - t.from)) →
      t.from ≤ q → NeedsSome ms among q → IsNeeding ms among new
  needing_place new q term from added low needs = record {
    term = term;
    only = λ v b. elim (added v b) [
      | inl o ↦ elim (h.only v o) [ inl z ↦ inl z | inr r ↦ inr (r.0, subst (λ f. f ≤ r.0) (sym from) r.1, subst (λ f. v ≡ r.0 + 1 - f) (sym from) r.2, r.3) ]
      | inr e ↦ inr (q, subst (λ f. f ≤ q) (sym from) low, subst (λ f. v ≡ q + 1 - f) (sym from) e, needs)
    ];
  }

pub needing_absent : (ms : List Member) (among : List Bool) (t new : Term) → IsNeeding ms among t → IsTerm ms new → new.from ≡ t.from →
    ((v : ℕ) → Has new.set.items v → Has t.set.items v ⊎ (v ≡ 0)) → IsNeeding ms among new
needing_absent ms among t new h term from added = record {
  term = term;
  only = λ v b. elim (added v b) [
    | inl o ↦ elim (h.only v o) [ inl z ↦ inl z | inr r ↦ inr (r.0, subst (λ f. f ≤ r.0) (sym from) r.1, subst (λ f. v ≡ r.0 + 1 - f) (sym from) r.2, r.3) ]
    | inr e ↦ inl e
  ];
}

pub needing_none : (ms : List Member) (among : List Bool) (t : Term) → IsTerm ms t → ((v : ℕ) → Has t.set.items v → ⊥) → IsNeeding ms among t
needing_none ms among t term none = record { term = term; only = λ v b. absurd (none v b) }

pub needing_start : (ms : List Member) (among : List Bool) (first : ℕ → ℕ) (t : Term) → IsNeeding ms among t → IsAmong among t.from → (Has t.set.items 0 → ⊥) →
    AreNeeding ms among first [] (t ∷ [])
needing_start ms among first t h is bare = record {
  each = λ x i. absurd (in_nil x i);
  sets = λ u i. elim (in_cons t [] u i) [ inl e ↦ subst (IsNeeding ms among) e h | inr j ↦ absurd (in_nil u j) ];
  present = (t, in_here t [], is, bare);
}

pub needing_more : (ms : List Member) (among : List Bool) (first : ℕ → ℕ) (places : List ℕ) (i : ℕ) (terms : List Term) (t : Term) → i < length places →
    AreNeeding ms among first (take i places) terms → IsNeeding ms among t → t.from ≡ first (get_or places i 0) →
    AreNeeding ms among first (take (i + 1) places) (terms ++ t ∷ [])
needing_more ms among first places i terms t lt h needing from = record {
  each = λ x j. elim (Contains-push_cases (take i places) (get_or places i 0) x (subst (λ l. Contains l x) (take_more places i 0 lt) j)) [
    | inl k ↦ (let e = h.each x k in (e.0, Contains-append_left terms (t ∷ []) e.0 e.1, e.2))
    | inr e ↦ (t, Contains-push terms t, from ∙ ap first e)
  ];
  sets = λ u j. elim (Contains-push_cases terms t u j) [ inl k ↦ h.sets u k | inr e ↦ subst (IsNeeding ms among) e needing ];
  present = (let p = h.present in (p.0, Contains-append_left terms (t ∷ []) p.0 p.1, p.2, p.3));
}

-- ---- the table of the names of places

module _ (first : ℕ → ℕ) (places : List ℕ) (i : ℕ) (listed : List Bool) where
  so_far : i < length places → (x : ℕ) → Contains (take i places) x → Contains (take (i + 1) places) x
  so_far lt x k = subst (λ l. Contains l x) (sym (take_more places i 0 lt)) (Contains-append_left (take i places) (get_or places i 0 ∷ []) x k)

  pub listed_same : i < length places → AreListedOf first (take i places) listed → AreListedOf first (take (i + 1) places) listed
  listed_same lt h f is = let x = h f is in (x.0, so_far lt x.0 x.1, x.2)

  pub listed_more : (at : ℕ) → i < length places → AreListedOf first (take i places) listed → first (get_or places i 0) ≡ at →
      AreListedOf first (take (i + 1) places) (slice_set listed at true)
  listed_more at lt h here f is = elim (cases_eq f at) [
    | inl e ↦ (
      get_or places i 0,
      subst (λ l. Contains l (get_or places i 0)) (sym (take_more places i 0 lt)) (Contains-push (take i places) (get_or places i 0)),
      here ∙ sym e,
    )
    | inr ne ↦ (let x = h f (sym (get_or-set_other listed at f true false ne) ∙ is) in (x.0, so_far lt x.0 x.1, x.2))
  ]

pub not_both : (b : Bool) → b ≡ true → b ≡ false → ⊥
not_both b yes' no' = false≢true (sym no' ∙ yes')
