use Rattle.std.proofs.Common.{◌≡◌, ◌++◌}
use Rattle.folder_edges.specs.Entries.{entries_of}
use Rattle.folder_edges.proofs.listing.add.Given as goal

abbrev pub invariant-loop-name : goal.invariant-loop-name
invariant-loop-name l = l.entries.items ++ entries_of l.place l.name-iterator.rest.items ≡ l.fn.entries.items ++ entries_of l.place l.fn.names.items
