use Rattle.std.proofs.Common.{◌≡◌, ◌-◌, get_or, get_or-set_same, arith, inl, inr}
use Rattle.std.proofs.lemmas.List.{get_or_default}
use Rattle.dep_order.proofs.waiting.Waiting.lower.Goals as goal

pub returns-in_ok-add_ready-clause-ready : goal.returns-in_ok-add_ready-clause-ready
returns-in_ok-add_ready-clause-ready c = λ q.
    let h = c.in_ok-add_ready.ensures q in
    let counts = c.args.self.now.counts.items in
    let place = c.args.place in
    let written = get_or-set_same counts place (c.index_mut.result.now - 1) c.index.result.now c.requires.place in
    let was = get_or_default counts place c.index_mut.result.now 0 c.requires.place in
    let one : get_or counts place 0 ≡ 1 = omega (arith, c.requires.some, written, was, c.if-index-eq0.true, c.index.ensures, c.index_mut.ensures.value) in (
      λ i. elim (h.0 i) [ inl j ↦ inl j | inr e ↦ inr (e, one) ],
      λ s. h.1 (elim s [ inl j ↦ inl j | inr both ↦ inr both.0 ]),
    )
