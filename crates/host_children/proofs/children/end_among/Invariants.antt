use Rattle.std.proofs.Common.{◌≡◌, ◌==◌, filter, not}
use Rattle.host_children.proofs.children.end_among.Given as goal

abbrev pub invariant-loop-child : goal.invariant-loop-child
invariant-loop-child g l = filter (λ c. not (c.number == l.number)) l.child-items ≡ filter (λ c. not (c.number == l.number)) l.fn.children.items
