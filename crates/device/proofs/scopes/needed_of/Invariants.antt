use Rattle.std.proofs.Common.{drop}
use Rattle.device.specs.Scopes.{is_needed_at}
use Rattle.device.proofs.ScopeLoops.{Keeps}
use Rattle.device.proofs.scopes.needed_of.Given as goal

abbrev pub invariant-loop-item : goal.invariant-loop-item
invariant-loop-item l = Keeps (is_needed_at l.recipe) l.items (drop l.item-index l.items) l.places.items
