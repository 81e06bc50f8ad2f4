use Rattle.std.proofs.Common.{◌≡◌, ℕ, eqb, length, get_or, take}
use Rattle.std.specs.List.{count_by}
use Rattle.dep_order.specs.declared.Need.{Need}
use Rattle.dep_order.proofs.waiting.counts_of.Given as goal

abbrev pub invariant-loop-need : goal.invariant-loop-need
invariant-loop-need l = record {
  len : length l.counts.items ≡ l.nodes;
  each : (q : ℕ) → get_or l.counts.items q 0 ≡ count_by (λ (e : Need). eqb e.from q) (take l.need-index l.needs);
}
