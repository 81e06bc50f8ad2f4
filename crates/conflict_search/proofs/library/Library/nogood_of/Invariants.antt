use Rattle.std.proofs.Common.{take}
use Rattle.conflict_search.specs.Stands.{members_in}
use Rattle.conflict_search.proofs.Drafting.{AreAlone}
use Rattle.conflict_search.proofs.library.Library.nogood_of.Given as goal

abbrev pub invariant-loop-place : goal.invariant-loop-place
invariant-loop-place l = AreAlone (members_in l.self) (take l.place-index l.places) l.terms.items
