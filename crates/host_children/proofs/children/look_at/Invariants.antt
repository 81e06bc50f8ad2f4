use Rattle.std.proofs.Common.{◌≡◌, map}
use Rattle.host_children.proofs.children.look_at.Given as goal

abbrev pub invariant-loop-child : goal.invariant-loop-child
invariant-loop-child g l = map (λ c. c.number) l.child-items ≡ map (λ c. c.number) l.fn.children.items
