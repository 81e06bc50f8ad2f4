use Rattle.std.proofs.Common.{◌≡◌, ◌<◌, ◌↔◌, ℕ, get_or}
use Rattle.std.specs.List.{Contains}
use Rattle.dep_order.proofs.waiting.ready_at_first.Given as goal

abbrev pub invariant-loop-place : goal.invariant-loop-place
invariant-loop-place l = (q : ℕ) → Contains l.ready.keys q ↔ ((q < l.place) × (get_or l.counts q 0 ≡ 0))
