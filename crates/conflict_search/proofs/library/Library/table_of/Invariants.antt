use Rattle.std.proofs.Common.{ℕ, get_or, take}
use Rattle.conflict_search.specs.Endless.{AreListedOf}
use Rattle.conflict_search.proofs.library.Library.table_of.Given as goal

abbrev pub invariant-loop-place : goal.invariant-loop-place
invariant-loop-place l = AreListedOf (λ (x : ℕ). get_or l.self.names.now.first.items x 0) (take l.place-index l.places) l.listed.items
