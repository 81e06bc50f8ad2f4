use Rattle.std.proofs.Common.{◌≡◌, ◌+◌, ◌<◌, ◌↔◌, ◌⊎◌, ℕ, length, eqb, get_or, take}
use Rattle.std.specs.List.{Contains, count_by}
use Rattle.dep_order.specs.declared.Need.{Need}
use Rattle.dep_order.proofs.waiting.Waiting.settle.Given as goal

abbrev pub invariant-loop-need : goal.invariant-loop-need
invariant-loop-need l = record {
  len : length l.self.counts.items ≡ length l.fn.self.counts.items;
  counts : (q : ℕ) → get_or l.self.counts.items q 0 + count_by (λ (e : Need). eqb e.from q) (take l.need-index l.needs) ≡ get_or l.fn.self.counts.items q 0;
  ready : (q : ℕ) → Contains l.self.ready.keys q ↔ (Contains l.fn.self.ready.keys q ⊎ ((0 < count_by (λ (e : Need). eqb e.from q)
      (take l.need-index l.needs)) × (get_or l.self.counts.items q 0 ≡ 0)));
}
