-- One need less to wait for.
use Rattle.std.proofs.Common.{◌≡◌, ℕ, ◌+◌, ◌-◌, ◌<◌, ◌≤◌, ◌↔◌, ◌⊎◌, cond, eqb, List, length, get_or, set, take, refl, sym, ap, ◌∙◌, inl, inr, arith}
use Rattle.std.specs.List.{Contains, count_by}
use Rattle.std.proofs.lemmas.List.{get_or-set_same, get_or-set_other}
use Rattle.std.proofs.lemmas.List.Sums.{count_by_more_yes, count_by_more_no, sum_by-take-le}
use Rattle.std.proofs.lemmas.Bool.{cases_eq, eq-eqb, ne_eqb}
use Rattle.dep_order.specs.declared.Need.{Need}

-- a need that is counted has something left to take
pub something_left : (needs : List Need) (i : ℕ) (d : Need) (have old : ℕ) → i < length needs →
    have + count_by (λ (e : Need). eqb e.from (get_or needs i d).from) (take i needs) ≡ old →
    count_by (λ (e : Need). eqb e.from (get_or needs i d).from) needs ≤ old → 0 < have
something_left needs i d have old lt h le =
    let f = (get_or needs i d).from in
    let more = count_by_more_yes (λ (e : Need). eqb e.from f) needs i d lt (eq-eqb f f refl) in
    let whole = sum_by-take-le (λ (e : Need). cond (eqb e.from f) 1 0) needs (i + 1) in
    omega (arith, h, le, more, whole)

pub counts_more : (needs : List Need) (i : ℕ) (d : Need) (old now next : List ℕ) → i < length needs → (get_or needs i d).from < length now →
    0 < get_or now (get_or needs i d).from 0 → next ≡ set now (get_or needs i d).from (get_or now (get_or needs i d).from 0 - 1) →
    ((q : ℕ) → get_or now q 0 + count_by (λ (e : Need). eqb e.from q) (take i needs) ≡ get_or old q 0) → (q : ℕ) →
    get_or next q 0 + count_by (λ (e : Need). eqb e.from q) (take (i + 1) needs) ≡ get_or old q 0
counts_more needs i d old now next lt place some e h = λ q.
    let f = (get_or needs i d).from in
    elim (cases_eq q f) [
      | inl s ↦
          (let here : get_or next q 0 ≡ get_or now f 0 - 1 = ap (λ l. get_or l q 0) e ∙ ap (λ k. get_or (set now f (get_or now f 0 - 1)) k 0) s
          ∙ get_or-set_same now f (get_or now f 0 - 1) 0 place in
          let more = count_by_more_yes (λ (e : Need). eqb e.from q) needs i d lt (eq-eqb f q (sym s)) in
          let was = h q in
          let same : get_or now q 0 ≡ get_or now f 0 = ap (λ k. get_or now k 0) s in
          omega (arith, here, more, was, same, some))
      | inr ne ↦
          (let here : get_or next q 0 ≡ get_or now q 0 = ap (λ l. get_or l q 0) e ∙ get_or-set_other now f q (get_or now f 0 - 1) 0 ne in
          let more = count_by_more_no (λ (e : Need). eqb e.from q) needs i d lt (ne_eqb f q (λ s. ne (sym s))) in
          let was = h q in
          omega (arith, here, more, was))
    ]

pub ready_more : (needs : List Need) (i : ℕ) (d : Need) (now next : List ℕ) (first before after : List ℕ) → i < length needs →
    (get_or needs i d).from < length now → 0 < get_or now (get_or needs i d).from 0 → next ≡ set now (get_or needs i d).from
    (get_or now (get_or needs i d).from 0 - 1) → ((q : ℕ) → Contains before q ↔ (Contains first q
    ⊎ ((0 < count_by (λ (e : Need). eqb e.from q) (take i needs)) × (get_or now q 0 ≡ 0)))) →
    ((q : ℕ) → Contains after q ↔ (Contains before q ⊎ ((q ≡ (get_or needs i d).from) × (get_or now (get_or needs i d).from 0 ≡ 1)))) → (q : ℕ) →
    Contains after q ↔ (Contains first q ⊎ ((0 < count_by (λ (e : Need). eqb e.from q) (take (i + 1) needs)) × (get_or next q 0 ≡ 0)))
ready_more needs i d now next first before after lt place some e h more = λ q.
    let f = (get_or needs i d).from in
    elim (cases_eq q f) [
      | inl s ↦
          (let here : get_or next q 0 ≡ get_or now f 0 - 1 = ap (λ l. get_or l q 0) e ∙ ap (λ k. get_or (set now f (get_or now f 0 - 1)) k 0) s
          ∙ get_or-set_same now f (get_or now f 0 - 1) 0 place in
          let one_more = count_by_more_yes (λ (e : Need). eqb e.from q) needs i d lt (eq-eqb f q (sym s)) in
          let same : get_or now q 0 ≡ get_or now f 0 = ap (λ k. get_or now k 0) s in (
            λ a. elim ((more q).0 a) [
              | inl b ↦ elim ((h q).0 b) [ inl z ↦ inl z | inr w ↦ (let none = w.1 in absurd (omega (arith, none, same, some))) ]
              | inr one ↦ (let is = one.1 in inr (omega (arith, one_more), omega (arith, here, is)))
            ],
            λ z. (more q).1 (elim z [
              | inl b ↦ inl ((h q).1 (inl b))
              | inr w ↦ (let none = w.1 in inr (s, omega (arith, here, none, some)))
            ]),
          ))
      | inr ne ↦
          (let here : get_or next q 0 ≡ get_or now q 0 = ap (λ l. get_or l q 0) e ∙ get_or-set_other now f q (get_or now f 0 - 1) 0 ne in
          let none_more = count_by_more_no (λ (e : Need). eqb e.from q) needs i d lt (ne_eqb f q (λ s. ne (sym s))) in (
            λ a. elim ((more q).0 a) [
              | inl b ↦ elim ((h q).0 b) [ inl z ↦ inl z | inr w ↦ (let l = w.0 in let none = w.1 in inr (omega (arith, none_more, l), here ∙ none)) ]
              | inr one ↦ absurd (ne one.0)
            ],
            λ z. (more q).1 (inl ((h q).1 (elim z [
              | inl b ↦ inl b
              | inr w ↦ (let l = w.0 in let none = w.1 in inr (omega (arith, none_more, l), sym here ∙ none))
            ]))),
          ))
    ]
