use Rattle.std.proofs.Common.{ℕ, get_or}
use Rattle.conflict_search.specs.Stands.{members_in, IsMetIn}
use Rattle.conflict_search.proofs.Gathering.{AreGathered}
use Rattle.conflict_search.proofs.library.Library.against.Given as goal

abbrev pub invariant-loop-place : goal.invariant-loop-place
invariant-loop-place l = AreGathered (members_in l.self) (get_or l.self.names.now.first.items l.number 0) l.place
    (λ q. IsMetIn (members_in l.self) l.range q → ⊥) l.term
