-- Counting the open needs.
use Rattle.std.proofs.Common.{◌≡◌, ℕ, ◌+◌, ◌<◌, ◌≤◌, ◌↔◌, ◌⊎◌, Bool, true, false, cond, not, ◌&&◌, ◌||◌, eqb, List, [], ◌∷◌, ◌++◌, length, get_or, refl, sym}
use Rattle.std.proofs.Common.{ap, ◌∙◌, subst, inl, inr, arith}
use Rattle.std.specs.Bool.{MatchBool}
use Rattle.std.specs.List.{Contains, count_by, list_any, filter}
use Rattle.std.proofs.lemmas.List.{get_or_past}
use Rattle.std.proofs.lemmas.List.Elements.{Contains-append_left, Contains-push, Contains-push_cases}
use Rattle.std.proofs.lemmas.List.Folds.{list_any-append}
use Rattle.std.proofs.lemmas.List.Sorted.{IsPermutation-sym, Contains-permutation}
use Rattle.std.proofs.lemmas.Map.Views.{Contains-from_any}
use Rattle.std.proofs.lemmas.Bool.{cases_eq, cases_lt, cases_Bool, eqb-true, eq-eqb, ne_eqb, false≢true}
use Rattle.nuc_base.proofs.Lists.{in_nil, in_cons, in_here, in_there}
use Rattle.dep_order.specs.declared.Need.{Need}
use Rattle.dep_order.specs.declared.Edges.{Edges}
use Rattle.dep_order.specs.Orders.{IsReady, IsOpen, IsLeastOpen}
use Rattle.dep_order.specs.Rows.{AreRows}
use Rattle.dep_order.specs.Counts.{is_waiting, is_between, waiting, TakesLeast}
use Rattle.dep_order.proofs.Filtered.{count_cons, count-filter}

pub any_to : (q : ℕ) (xs : List ℕ) → list_any (eqb q) xs ≡ true → Contains xs q
any_to q xs h = Contains-from_any {eq = eqb} eqb-true q xs h

or_right : (a b : Bool) → b ≡ true → a || b ≡ true
or_right true b h = refl
or_right false b h = h

pub any_from : (q : ℕ) (xs : List ℕ) → Contains xs q → list_any (eqb q) xs ≡ true
any_from q [] i = absurd (in_nil q i)
any_from q (x ∷ xs) i = elim (in_cons x xs q i) [
  | inl e ↦ ap (λ b. b || list_any (eqb q) xs) (eq-eqb q x (sym e))
  | inr j ↦ or_right (eqb q x) (list_any (eqb q) xs) (any_from q xs j)
]

any_not : (q : ℕ) (xs : List ℕ) → (Contains xs q → ⊥) → list_any (eqb q) xs ≡ false
any_not q xs free = elim (cases_Bool (list_any (eqb q) xs)) [ inl t ↦ absurd (free (any_to q xs t)) | inr f ↦ f ]

or_none : (b : Bool) → b || false ≡ b
or_none true = refl
or_none false = refl

any_other : (q p : ℕ) (xs : List ℕ) → (q ≡ p → ⊥) → list_any (eqb q) (xs ++ p ∷ []) ≡ list_any (eqb q) xs
any_other q p xs ne = list_any-append (eqb q) xs (p ∷ []) ∙ ap (λ b. list_any (eqb q) xs || (b || false)) (ne_eqb q p ne) ∙ or_none (list_any (eqb q) xs)

-- one need, before and after a place is taken
Splits : Bool → Bool → Bool → Bool → Type 0
Splits b f g t = cond (b && not f) 1 0 ≡ cond (b && not g) 1 0 + cond (b && t) 1 0

splits_here : (b : Bool) → Splits b false true true
unfolding Splits
splits_here true = refl
splits_here false = refl

splits_other : (b f : Bool) → Splits b f f false
unfolding Splits
splits_other true true = refl
splits_other true false = refl
splits_other false f = refl

one_need : (taken : List ℕ) (q p : ℕ) (e : Need) → (Contains taken p → ⊥) → Splits (eqb e.from q) (list_any (eqb e.to) taken) (list_any (eqb e.to) (taken
    ++ p ∷ [])) (eqb e.to p)
one_need taken q p e free = elim (cases_eq e.to p) [
  | inl same ↦
      (let a = any_not e.to taken (λ i. free (subst (Contains taken) same i)) in
      let b = any_from e.to (taken ++ p ∷ []) (subst (Contains (taken ++ p ∷ [])) (sym same) (Contains-push taken p)) in
      let c = eq-eqb e.to p same in
      subst (λ f. Splits (eqb e.from q) f (list_any (eqb e.to) (taken ++ p ∷ [])) (eqb e.to p)) (sym a)
      (subst (λ g. Splits (eqb e.from q) false g (eqb e.to p)) (sym b)
      (subst (λ t. Splits (eqb e.from q) false true t) (sym c) (splits_here (eqb e.from q)))))
  | inr ne ↦
      (let b = any_other e.to p taken ne in
      let c = ne_eqb e.to p ne in
      subst (λ g. Splits (eqb e.from q) (list_any (eqb e.to) taken) g (eqb e.to p)) (sym b)
      (subst (λ t. Splits (eqb e.from q) (list_any (eqb e.to) taken) (list_any (eqb e.to) taken) t) (sym c) (splits_other (eqb e.from q)
      (list_any (eqb e.to) taken))))
]

joined : (x y a b c d s t : ℕ) → x ≡ a + b → y ≡ c + d → s ≡ a + c → t ≡ b + d → x + y ≡ s + t
joined x y a b c d s t h i j k = omega (arith, h, i, j, k)

-- to take a place takes its needs from the counts
pub waiting_push : (needs : List Need) (taken : List ℕ) (q p : ℕ) → (Contains taken p → ⊥) →
    waiting needs taken q ≡ waiting needs (taken ++ p ∷ []) q + count_by (is_between q p) needs
unfolding Splits
waiting_push [] taken q p free = refl
waiting_push (e ∷ needs) taken q p free =
    let a = one_need taken q p e free in
    let b = waiting_push needs taken q p free in
    let c = count_cons (is_waiting taken q) e needs in
    let d = count_cons (is_waiting (taken ++ p ∷ []) q) e needs in
    let g = count_cons (is_between q p) e needs in
    c ∙ joined (cond (is_waiting taken q e) 1 0) (count_by (is_waiting taken q) needs) (cond (is_waiting (taken ++ p ∷ []) q e) 1 0) (cond (is_between q p e)
    1 0)
    (waiting needs (taken ++ p ∷ []) q) (count_by (is_between q p) needs) (waiting (e ∷ needs) (taken ++ p ∷ []) q) (count_by (is_between q p) (e
    ∷ needs)) a b d g

rest_zero : (a n : ℕ) → a + n ≡ 0 → n ≡ 0
rest_zero a n h = omega (arith, h)

bit_zero : (b : Bool) (n : ℕ) → cond b 1 0 + n ≡ 0 → b ≡ false
bit_zero true n h = absurd (omega (arith, h))
bit_zero false n h = refl

count_zero : {X : Type 0} (f : X → Bool) (xs : List X) → count_by f xs ≡ 0 → (x : X) → Contains xs x → f x ≡ false
count_zero f [] z x i = absurd (in_nil x i)
count_zero f (y ∷ xs) z x i = elim (in_cons y xs x i) [
  | inl e ↦ subst (λ w. f w ≡ false) e (bit_zero (f y) (count_by f xs) (sym (count_cons f y xs) ∙ z))
  | inr j ↦ count_zero f xs (rest_zero (cond (f y) 1 0) (count_by f xs) (sym (count_cons f y xs) ∙ z)) x j
]

zero_count : {X : Type 0} (f : X → Bool) (xs : List X) → ((x : X) → Contains xs x → f x ≡ false) → count_by f xs ≡ 0
zero_count f [] h = refl
zero_count f (y ∷ xs) h =
    let a = h y (in_here y xs) in
    let b = zero_count f xs (λ x i. h x (in_there y xs x i)) in
    count_cons f y xs ∙ ap (λ t. cond t 1 0 + count_by f xs) a ∙ ap (λ n. 0 + n) b

both_false : (b f : Bool) → b ≡ true → b && not f ≡ false → f ≡ true
both_false true true e h = refl
both_false true false e h = absurd (false≢true (sym h))
both_false false f e h = absurd (false≢true e)

other_from : (b f : Bool) → (b ≡ true → f ≡ true) → b && not f ≡ false
other_from true true h = refl
other_from true false h = absurd (false≢true (h refl))
other_from false f h = refl

-- a place whose count is 0 is ready
ready_from_zero : (edges : Edges) (rows : List Need) (taken : List ℕ) (p : ℕ) → AreRows edges.needs rows → waiting rows taken p ≡ 0 → IsReady edges taken p
ready_from_zero edges rows taken p r z = λ q n.
    let e = n.by in
    let w = count_zero (is_waiting taken p) rows z e (Contains-permutation edges.needs rows e r.same n.is) in
    let t = both_false (eqb e.from p) (list_any (eqb e.to) taken) (eq-eqb e.from p n.from) w in
    subst (Contains taken) n.to (any_to e.to taken t)

-- the count of a ready place is 0
zero_from_ready : (edges : Edges) (rows : List Need) (taken : List ℕ) (p : ℕ) → AreRows edges.needs rows → IsReady edges taken p → waiting rows taken p ≡ 0
zero_from_ready edges rows taken p r ready =
    zero_count (is_waiting taken p) rows (λ e i.
    other_from (eqb e.from p) (list_any (eqb e.to) taken) (λ same.
    any_from e.to taken (ready e.to (record {
      by = e;
      is = Contains-permutation rows edges.needs e (IsPermutation-sym edges.needs rows r.same) i;
      from =
          eqb-true e.from p same;
      to = refl;
    }))))

same_bit : (b : Bool) → ◌≡◌ {A = ℕ} (cond b 1 0) (cond (b && not false) 1 0)
same_bit true = refl
same_bit false = refl

pub waiting_start : (needs : List Need) (q : ℕ) → count_by (λ (e : Need). eqb e.from q) needs ≡ waiting needs [] q
waiting_start [] q = refl
waiting_start (e ∷ needs) q =
    let a = same_bit (eqb e.from q) in
    let b = waiting_start needs q in
    let c = count_cons (λ (e : Need). eqb e.from q) e needs in
    let d = count_cons (is_waiting [] q) e needs in
    c ∙ ap (λ n. n + count_by (λ (e : Need). eqb e.from q) needs) a ∙ ap (λ n. cond (is_waiting [] q e) 1 0 + n) b ∙ sym d

-- the counts are those of what is not taken, and the places with none are ready or taken
pub record AreCounts (edges : Edges) (rows : List Need) (taken counts ready : List ℕ) : Type 0 where
  pub count : length counts ≡ edges.nodes
  pub each : (q : ℕ) → get_or counts q 0 ≡ waiting rows taken q
  pub members : (q : ℕ) → Contains ready q ↔ ((q < edges.nodes) × (get_or counts q 0 ≡ 0) × (Contains taken q → ⊥))
  pub done : (q : ℕ) → Contains taken q → get_or counts q 0 ≡ 0

pub counts_start : (edges : Edges) (rows : List Need) (counts ready : List ℕ) → length counts ≡ edges.nodes →
    ((q : ℕ) → get_or counts q 0 ≡ count_by (λ (e : Need). eqb e.from q) rows) → ((q : ℕ) →
    Contains ready q ↔ ((q < edges.nodes) × (get_or counts q 0 ≡ 0))) → AreCounts edges rows [] counts ready
counts_start edges rows counts ready len each h = record {
  count = len;
  each = λ q. each q ∙ waiting_start rows q;
  members = λ q. (λ i. (let both = (h q).0 i in (both.0, both.1, λ j. in_nil q j)), λ all. (h q).1 (all.0, all.1));
  done = λ q i. absurd (in_nil q i);
}

-- the least ready place is the least open one
pub least_open : (edges : Edges) (rows : List Need) (taken counts ready rest : List ℕ) (p : ℕ) → AreRows edges.needs rows →
    AreCounts edges rows taken counts ready → TakesLeast ready rest p → IsLeastOpen edges taken p
least_open edges rows taken counts ready rest p r h t =
    let here = (h.members p).0 t.taken in
    record {
      is_open = record { node = here.0; untaken = here.2; ready = ready_from_zero edges rows taken p r (sym (h.each p) ∙ here.1) };
      least = λ q o. t.least q ((h.members q).1 (o.node, h.each q ∙ zero_from_ready edges rows taken q r o.ready, o.untaken));
    }

-- where none is ready, none is open
pub none_open : (edges : Edges) (rows : List Need) (taken counts ready : List ℕ) → AreRows edges.needs rows → AreCounts edges rows taken counts ready →
    ((q : ℕ) → Contains ready q → ⊥) → (q : ℕ) → IsOpen edges taken q → ⊥
none_open edges rows taken counts ready r h none = λ q o. none q ((h.members q).1 (o.node, h.each q ∙ zero_from_ready edges rows taken q r o.ready, o.untaken))

abbrev between : List Need → ℕ → ℕ → ℕ
between rows q p = count_by (λ (e : Need). eqb e.from q) (filter (λ (e : Need). eqb e.to p) rows)

-- what a place's needs are before it is taken and after
split_at : (rows : List Need) (taken : List ℕ) (q p : ℕ) → (Contains taken p → ⊥) → waiting rows taken q ≡ waiting rows (taken ++ p ∷ []) q + between rows q p
split_at rows taken q p free = waiting_push rows taken q p free ∙ ap (λ n. waiting rows (taken ++ p
    ∷ []) q + n) (sym (count-filter (λ (e : Need). eqb e.from q) (λ (e : Need). eqb e.to p) rows))

-- there are enough counted to take the place's needs from them
pub enough : (edges : Edges) (rows : List Need) (taken counts ready rest : List ℕ) (p : ℕ) → AreCounts edges rows taken counts ready →
    TakesLeast ready rest p → (q : ℕ) → count_by (λ (e : Need). eqb e.from q) (filter (λ (e : Need). eqb e.to p) rows) ≤ get_or counts q 0
enough edges rows taken counts ready rest p h t = λ q.
    let here = (h.members p).0 t.taken in
    let a = h.each q in
    let b = split_at rows taken q p here.2 in
    omega (arith, a, b)

-- the counts after a place is taken
pub counts_more : (edges : Edges) (rows : List Need) (taken counts next ready rest then' : List ℕ) (p : ℕ) → AreCounts edges rows taken counts ready →
    TakesLeast ready rest p → length next ≡ length counts → ((q : ℕ) → get_or next q 0 + between rows q p ≡ get_or counts q 0) →
    ((q : ℕ) → Contains then' q ↔ (Contains rest q ⊎ ((0 < between rows q p) × (get_or next q 0 ≡ 0)))) → AreCounts edges rows (taken ++ p ∷ []) next then'
counts_more edges rows taken counts next ready rest then' p h t len settled more =
    let here = (h.members p).0 t.taken in
    record {
      count = len ∙ h.count;
      each = λ q. (let a = h.each q in let b = split_at rows taken q p here.2 in let s = settled q in omega (arith, a, b, s));
      members = λ q.
          let s = settled q in (
            λ i. elim ((more q).0 i) [
              | inl j ↦
                  (let was = (t.others q).0 j in
                  let old = (h.members q).0 was.0 in
                  let z = old.1 in
                  (old.0, omega (arith, s, z), λ k. elim (Contains-push_cases taken p q k) [ inl m ↦ old.2 m | inr e ↦ was.1 (sym e) ]))
              | inr new ↦
                  (let some = new.0 in
                  let node : q < edges.nodes = elim (cases_lt q (length counts)) [
                    | inl lt ↦ (let n = h.count in omega (arith, lt, n))
                    | inr le ↦ (let z = get_or_past counts q 0 le in absurd (omega (arith, z, s, some)))
                  ] in (
                    node,
                    new.1,
                    λ k. elim (Contains-push_cases taken p q k) [
                      | inl m ↦ (let z = h.done q m in absurd (omega (arith, z, s, some)))
                      | inr e ↦ (let z : get_or counts q 0 ≡ 0 = subst (λ x. get_or counts x 0 ≡ 0) e here.1 in absurd (omega (arith, z, s, some)))
                    ],
                  ))
            ],
            λ all. (more q).1 (elim (cases_eq (between rows q p) 0) [
              | inl none ↦
                  (let z = all.1 in
                  inl ((t.others q).1 (
                    (h.members q).1 (all.0, omega (arith, s, z, none), λ m. all.2 (Contains-append_left taken (p ∷ []) q m)),
                    λ e. all.2 (subst (Contains (taken ++ p ∷ [])) (sym e) (Contains-push taken p)),
                  )))
              | inr some ↦ inr (omega (arith, some), all.1)
            ]),
          );
      done = λ q i. (let s = settled q in elim (Contains-push_cases taken p q i) [
        | inl m ↦ (let z = h.done q m in omega (arith, s, z))
        | inr e ↦ (let z : get_or counts q 0 ≡ 0 = subst (λ x. get_or counts x 0 ≡ 0) e here.1 in omega (arith, s, z))
      ]);
    }

-- what `add` says where the place was there, and where not
pub not_added : (A B : Type 0) (b : Bool) → b ≡ false → MatchBool b A B → B
not_added A B true e m = absurd (false≢true (sym e))
not_added A B false e m = m

pub is_added : (A B : Type 0) (b : Bool) → b ≡ true → MatchBool b A B → A
is_added A B true e m = m
is_added A B false e m = absurd (false≢true e)

pub added_new : (b : Bool) (old new : List ℕ) (p : ℕ) → (Contains old p → ⊥) → MatchBool b ((Contains old p → ⊥) × (new ≡ old ++ p ∷ [])) (Contains old p ×
    (new ≡ old)) → new ≡ old ++ p ∷ []
added_new true old new p free m = m.1
added_new false old new p free m = absurd (free m.0)
