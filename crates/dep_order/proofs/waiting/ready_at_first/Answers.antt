use Rattle.std.proofs.Common.{BTreeSet, ◌≡◌, ◌<◌, ◌+◌, ◌↔◌, ◌⊎◌, ℕ, List, get_or, arith, subst, sym, inl, inr}
use Rattle.std.specs.List.{Contains}
use Rattle.std.proofs.lemmas.Bool.{cases_eq}
use Rattle.dep_order.proofs.waiting.ready_at_first.Goals as goal
use Rattle.dep_order.proofs.waiting.ready_at_first.Goals.{then-counts-place-eq0+in_ok-add_ready, else-counts-place-eq0}

Have : List ℕ → List ℕ → ℕ → Type 0
Have ready counts i = (q : ℕ) → Contains ready q ↔ ((q < i) × (get_or counts q 0 ≡ 0))

taken_in : (ready new counts : List ℕ) (i : ℕ) → Have ready counts i → get_or counts i 0 ≡ 0 → ((q : ℕ) → Contains new q ↔ (Contains ready q ⊎ (q ≡ i))) →
    Have new counts (i + 1)
unfolding Have
taken_in ready new counts i h zero' more = λ q. (
  λ j. elim ((more q).0 j) [
    | inl k ↦ (let was = (h q).0 k in (omega (arith, was.0), was.1))
    | inr e ↦ (omega (arith, e), subst (λ p. get_or counts p 0 ≡ 0) (sym e) zero')
  ],
  λ both. (more q).1 (elim (cases_eq q i) [ inl e ↦ inr e | inr ne ↦ inl ((h q).1 (omega (arith, both.0, ne), both.1)) ]),
)

left_out : (ready counts : List ℕ) (i : ℕ) → Have ready counts i → (get_or counts i 0 ≡ 0 → ⊥) → Have ready counts (i + 1)
unfolding Have
left_out ready counts i h some = λ q. (
  λ j. (let was = (h q).0 j in (omega (arith, was.0), was.1)),
  λ both. elim (cases_eq q i) [ inl e ↦ absurd (some (subst (λ p. get_or counts p 0 ≡ 0) e both.1)) | inr ne ↦ (h q).1 (omega (arith, both.0, ne), both.1) ],
)

pub loop-place-preserved : goal.loop-place-preserved
unfolding Have
loop-place-preserved c = elim c.if-counts-place-eq0.branch [
  | then-counts-place-eq0+in_ok-add_ready w ↦
      subst (λ (set : BTreeSet ℕ). Have set.keys c.args.counts.now (c.loop-place.place + 1)) (sym w.ready-is)
      (taken_in c.loop-place.ready.keys w.add_ready.new.ready.keys c.args.counts.now c.loop-place.place c.loop-place.invariant w.if-counts-place-eq0.true
      w.in_ok-add_ready.ensures)
  | else-counts-place-eq0 w ↦
      subst (λ (set : BTreeSet ℕ). Have set.keys c.args.counts.now (c.loop-place.place + 1)) (sym w.ready-is)
      (left_out c.loop-place.ready.keys c.args.counts.now c.loop-place.place c.loop-place.invariant w.if-counts-place-eq0.false)
]

pub returns : goal.returns
returns c = λ q.
    let h = c.loop-place.invariant q in
    let done = c.loop-place-test.false in
    let within = c.loop-place.auto.place-end in (
      λ i. (let was = h.0 i in let lt = was.0 in (omega (arith, lt, within), was.1)),
      λ both. (let lt = both.0 in h.1 (omega (arith, lt, done), both.1)),
    )
