-- Hard dependents: what is found leads to the place, and what leads to it is found.
use Rattle.std.proofs.Common.{◌≡◌, ℕ, ◌+◌, ◌<◌, ◌≤◌, ◌⊎◌, Bool, true, false, eqb, List, [], ◌∷◌, ◌++◌, length, get_or, take, refl, sym, ap, ◌∙◌, subst, inl}
use Rattle.std.proofs.Common.{inr, arith, append_assoc, append-nil}
use Rattle.std.specs.Bool.{MatchBool}
use Rattle.std.specs.List.{Contains, filter}
use Rattle.std.proofs.lemmas.Bool.{eqb-true, eq-eqb, false≢true}
use Rattle.std.proofs.lemmas.List.{take_more, take_all, take-append-le}
use Rattle.std.proofs.lemmas.List.Elements.{Contains-push, Contains-push_cases, Contains-append_left, Contains-append_cases}
use Rattle.std.proofs.lemmas.List.Sorted.{IsPermutation-sym, Contains-permutation}
use Rattle.nuc_base.specs.Leads.{HasPath, direct, through}
use Rattle.nuc_base.proofs.Lists.{in_nil}
use Rattle.dep_order.specs.declared.Need.{Need}
use Rattle.dep_order.specs.declared.Edges.{Edges}
use Rattle.dep_order.specs.Orders.{NeedsHard}
use Rattle.dep_order.specs.Rows.{AreRows}
use Rattle.dep_order.specs.Dependents.{IsHardIn, AddsRow, HasFound, IsClosed}
use Rattle.dep_order.proofs.Filtered.{in_filter, filter_has}

hard_earlier : (row : List Need) (i : ℕ) (d : Need) (a : ℕ) → i < length row → IsHardIn (take i row) a → IsHardIn (take (i + 1) row) a
hard_earlier row i d a lt h = record {
  by = h.by;
  is = subst (λ l. Contains l h.by) (sym (take_more row i d lt)) (Contains-append_left (take i row) (get_or row i d ∷ []) h.by h.is);
  hard = h.hard;
  from = h.from;
}

hard_here : (row : List Need) (i : ℕ) (d : Need) → i < length row → (get_or row i d).hard ≡ true → IsHardIn (take (i + 1) row) (get_or row i d).from
hard_here row i d lt h = record {
  by = get_or row i d;
  is = subst (λ l. Contains l (get_or row i d)) (sym (take_more row i d lt)) (Contains-push (take i row) (get_or row i d));
  hard = h;
  from = refl;
}

hard_cases : (row : List Need) (i : ℕ) (d : Need) (a : ℕ) → i < length row → IsHardIn (take (i + 1) row) a → IsHardIn (take i row) a
    ⊎ (((get_or row i d).hard ≡ true) × ((get_or row i d).from ≡ a))
hard_cases row i d a lt h = elim (Contains-push_cases (take i row) (get_or row i d) h.by (subst (λ l. Contains l h.by) (take_more row i d lt) h.is)) [
  | inl k ↦ inl (record { by = h.by; is = k; hard = h.hard; from = h.from })
  | inr same ↦ inr (ap (λ (x : Need). x.hard) same ∙ h.hard, ap (λ (x : Need). x.from) same ∙ h.from)
]

pub adds_none : (old : List ℕ) → AddsRow [] old old
adds_none old = record {
  rest = [];
  grows = sym (append-nil old);
  only = λ a i. absurd (in_nil a i);
  all = λ a h. absurd (in_nil h.by h.is);
}

-- a soft need adds nothing
pub adds_soft : (row : List Need) (i : ℕ) (d : Need) (old new : List ℕ) → i < length row → (get_or row i d).hard ≡ false → AddsRow (take i row) old new →
    AddsRow (take (i + 1) row) old new
adds_soft row i d old new lt soft h = record {
  rest = h.rest;
  grows = h.grows;
  only = λ a j. hard_earlier row i d a lt (h.only a j);
  all = λ a j. elim (hard_cases row i d a lt j) [ inl k ↦ h.all a k | inr here ↦ absurd (false≢true (sym soft ∙ here.0)) ];
}

-- nor does one of a place that is there
pub adds_known : (row : List Need) (i : ℕ) (d : Need) (old new : List ℕ) → i < length row → Contains new (get_or row i d).from →
    AddsRow (take i row) old new → AddsRow (take (i + 1) row) old new
adds_known row i d old new lt known h = record {
  rest = h.rest;
  grows = h.grows;
  only = λ a j. hard_earlier row i d a lt (h.only a j);
  all = λ a j. elim (hard_cases row i d a lt j) [ inl k ↦ h.all a k | inr here ↦ subst (Contains new) here.1 known ];
}

pub adds_new : (row : List Need) (i : ℕ) (d : Need) (old new : List ℕ) → i < length row → (get_or row i d).hard ≡ true → AddsRow (take i row) old new →
    AddsRow (take (i + 1) row) old (new ++ (get_or row i d).from ∷ [])
adds_new row i d old new lt hard h =
    let f = (get_or row i d).from in
    record {
      rest = h.rest ++ f ∷ [];
      grows = ap (λ l. l ++ f ∷ []) h.grows ∙ append_assoc old h.rest (f ∷ []);
      only = λ a j. elim (Contains-push_cases h.rest f a j) [
        | inl k ↦ hard_earlier row i d a lt (h.only a k)
        | inr e ↦ subst (IsHardIn (take (i + 1) row)) e
            (hard_here row i d lt hard)
      ];
      all = λ a j. elim (hard_cases row i d a lt j) [
        | inl k ↦ Contains-append_left new (f ∷ []) a (h.all a k)
        | inr here ↦ subst (Contains (new ++ f ∷ [])) here.1 (Contains-push new f)
      ];
    }

-- the hard needs of a place's row
pub needs_from_row : (edges : Edges) (rows : List Need) (a b : ℕ) → AreRows edges.needs rows → IsHardIn (filter (λ e. eqb e.to b) rows) a → NeedsHard edges a b
needs_from_row edges rows a b r h =
    let is = in_filter (λ (e : Need). eqb e.to b) rows h.by h.is in
    record {
      by = h.by;
      is = Contains-permutation rows edges.needs h.by (IsPermutation-sym edges.needs rows r.same) is.0;
      from = h.from;
      to = eqb-true (h.by).to b is.1;
      hard = h.hard;
    }

pub row_from_needs : (edges : Edges) (rows : List Need) (a b : ℕ) → AreRows edges.needs rows → NeedsHard edges a b → IsHardIn (filter (λ e. eqb e.to b) rows) a
row_from_needs edges rows a b r n = record {
  by = n.by;
  is = filter_has (λ (e : Need). eqb e.to b) rows n.by (Contains-permutation edges.needs rows n.by r.same n.is) (eq-eqb (n.by).to b n.to);
  hard = n.hard;
  from = n.from;
}

-- what was there is there
pub adds_keeps : (row : List Need) (old new : List ℕ) (a : ℕ) → AddsRow row old new → Contains old a → Contains new a
adds_keeps row old new a h i = subst (λ l. Contains l a) (sym h.grows) (Contains-append_left old h.rest a i)

-- a row's places lead where the row's place does
pub found_more : (edges : Edges) (of b : ℕ) (rows : List Need) (old new : List ℕ) → AreRows edges.needs rows → (b ≡ of) ⊎ Contains old b →
    HasFound edges of old → AddsRow (filter (λ e. eqb e.to b) rows) old new → HasFound edges of new
found_more edges of b rows old new r from h adds = λ p i. elim (Contains-append_cases old adds.rest p (subst (λ l. Contains l p) adds.grows i)) [
  | inl j ↦ h p j
  | inr j ↦
      (let n = needs_from_row edges rows p b r (adds.only p j) in
      elim from [ inl e ↦ direct (subst (NeedsHard edges p) e n) | inr k ↦ through n (h b k) ])
]

-- all that needs the place, or one of these, hard is found
pub record IsClosedFor (edges : Edges) (of : ℕ) (done found : List ℕ) : Type 0 where
  pub all : (a b : ℕ) → NeedsHard edges a b → (b ≡ of) ⊎ Contains done b → Contains found a

pub closed_first : (edges : Edges) (of : ℕ) (rows : List Need) (found : List ℕ) → AreRows edges.needs rows →
    AddsRow (filter (λ e. eqb e.to of) rows) [] found → IsClosedFor edges of [] found
closed_first edges of rows found r adds = record {
  all = λ a b n l. elim l [
    | inl e ↦ adds.all a (row_from_needs edges rows a of r (subst (NeedsHard edges a) e n))
    | inr i ↦ absurd (in_nil b i)
  ];
}

pub closed_more : (edges : Edges) (of : ℕ) (rows : List Need) (i d : ℕ) (old new : List ℕ) → AreRows edges.needs rows → i < length old →
    AddsRow (filter (λ e. eqb e.to (get_or old i d)) rows) old new → IsClosedFor edges of (take i old) old → IsClosedFor edges of (take (i + 1) new) new
closed_more edges of rows i d old new r lt adds h =
    let prefix : take (i + 1) new ≡ take i old ++ get_or old i d ∷ [] = ap (take (i + 1)) adds.grows
    ∙ take-append-le (i + 1) old adds.rest (omega (arith, lt)) ∙ take_more old i d lt in
    record {
      all = λ a b n l.
          let keep = adds_keeps (filter (λ e. eqb e.to (get_or old i d)) rows) old new a adds in
          elim l [
            | inl e ↦ keep (h.all a b n (inl e))
            | inr j ↦ elim (Contains-push_cases (take i old) (get_or old i d) b (subst (λ l. Contains l b) prefix j)) [
              | inl k ↦ keep (h.all a b n (inr k))
              | inr e ↦ adds.all a (row_from_needs edges rows a (get_or old i d) r (subst (NeedsHard edges a) (sym e) n))
            ]
          ];
    }

pub closed_all : (edges : Edges) (of : ℕ) (i : ℕ) (found : List ℕ) → length found ≤ i → IsClosedFor edges of (take i found) found → IsClosed edges of found
closed_all edges of i found le h =
    let all = subst (λ l. IsClosedFor edges of l found) (take_all i found le) h in
    record { all = all.all }

-- what leads to the place is found
pub found_from : (edges : Edges) (of : ℕ) (found : List ℕ) → IsClosed edges of found → {p q : ℕ} → HasPath (NeedsHard edges) p q → q ≡ of → Contains found p
found_from edges of found h (direct {a = x} {b = y} r) e = h.all x y r (inl e)
found_from edges of found h (through {a = x} {b = y} {c = z} r m) e = h.all x y r (inr (found_from edges of found h m e))

-- a hard need, by what `add` says
pub adds_hard : (b : Bool) (row : List Need) (i : ℕ) (d : Need) (old new next : List ℕ) → i < length row → (get_or row i d).hard ≡ true →
    AddsRow (take i row) old new → MatchBool b ((Contains new (get_or row i d).from → ⊥) ×
    (next ≡ new ++ (get_or row i d).from ∷ [])) (Contains new (get_or row i d).from × (next ≡ new)) → AddsRow (take (i + 1) row) old next
adds_hard true row i d old new next lt hard h m = subst (AddsRow (take (i + 1) row) old) (sym m.1) (adds_new row i d old new lt hard h)
adds_hard false row i d old new next lt hard h m = subst (AddsRow (take (i + 1) row) old) (sym m.1) (adds_known row i d old new lt m.0 h)
