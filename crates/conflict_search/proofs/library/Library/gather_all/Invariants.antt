use Rattle.std.proofs.Common.{get_or}
use Rattle.std.specs.List.{All}
use Rattle.conflict_search.specs.Stands.{members_in}
use Rattle.conflict_search.specs.Facts.{IsGroup}
use Rattle.conflict_search.proofs.library.Library.gather_all.Given as goal

abbrev pub invariant-loop-need : goal.invariant-loop-need
invariant-loop-need l = All (IsGroup (members_in l.self) (get_or l.self.names.now.first.items l.number 0)) l.groups.items
