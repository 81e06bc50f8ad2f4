use Rattle.std.proofs.Common.{ℕ, get_or, take}
use Rattle.conflict_search.specs.Stands.{members_in}
use Rattle.conflict_search.specs.Endless.{AreNeeding}
use Rattle.conflict_search.proofs.library.Library.needing_all.Given as goal

abbrev pub invariant-loop-place : goal.invariant-loop-place
invariant-loop-place l = AreNeeding (members_in l.self) l.among (λ (x : ℕ). get_or l.self.names.now.first.items x 0) (take l.place-index l.places) l.terms.items
