use Rattle.std.proofs.Common.{◌≡◌, ℕ, None, length, get_or}
use Rattle.dep_order.proofs.orders.nothing.Given as goal

abbrev pub invariant-loop-place : goal.invariant-loop-place
invariant-loop-place l = record { len : length l.list.items ≡ l._place; each : (p : ℕ) → get_or l.list.items p None ≡ None }
