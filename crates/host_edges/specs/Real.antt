-- What the real library and the real inbox count and tell.
use Rattle.std.specs.Prelude.{ℕ}
use Rattle.edges.specs.declared.answered.Answered.{Answered}
use Rattle.host_edges.specs.declared.inbox.FolderInbox.{FolderInbox}
use Rattle.host_edges.specs.declared.library.FolderLibrary.{FolderLibrary}

abbrev pub library_faults : {R D : Type 0} → FolderLibrary R D → ℕ
library_faults l = l.faults

abbrev pub inbox_faults : {R D : Type 0} → FolderInbox R D → ℕ
inbox_faults i = i.faults

abbrev pub inbox_answered : {R D : Type 0} → FolderInbox R D → Answered
inbox_answered i = i.answered
