use Rattle.std.proofs.Common.{◌≡◌, get_or}
use Rattle.conflict_search.specs.Stands.{members_in}
use Rattle.conflict_search.specs.Terms.{Has}
use Rattle.conflict_search.specs.Endless.{IsNeeding}
use Rattle.conflict_search.proofs.library.Library.needing_some.Given as goal

abbrev pub invariant-loop-other : goal.invariant-loop-other
invariant-loop-other l = IsNeeding (members_in l.self) l.among l.term × (l.term.from ≡ get_or l.self.names.now.first.items l.place 0) × (Has l.term.set.items 0 → ⊥)
