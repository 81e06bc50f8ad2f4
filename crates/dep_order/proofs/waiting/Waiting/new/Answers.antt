use Rattle.std.proofs.Common.{◌≡◌, ◌<◌, ◌↔◌, ℕ, List, get_or, length, subst}
use Rattle.std.specs.List.{Contains}
use Rattle.dep_order.proofs.waiting.Waiting.new.Goals as goal

pub returns-clause-ready : goal.returns-clause-ready
returns-clause-ready c = λ q.
    let e = c.deref.ensures.value in
    let h = subst (λ (l : List ℕ). Contains c.in_ok-ready.ready.keys q ↔ ((q < length l) × (get_or l q 0 ≡ 0))) e (c.in_ok-ready.ensures q) in
    subst (λ n. Contains c.in_ok-ready.ready.keys q ↔ ((q < n) × (get_or c.in_ok-counts.counts.items q 0 ≡ 0))) c.in_ok-counts.ensures.count h
