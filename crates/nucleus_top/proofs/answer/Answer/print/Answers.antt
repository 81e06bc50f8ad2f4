use Rattle.nucleus_top.proofs.Forms.{made_joined, pending_joined, damaged_joined, initialised_joined}
use Rattle.nucleus_top.proofs.answer.Answer.print.Goals as goal

pub returns-in-WrongWords-clause-lines : goal.returns-in-WrongWords-clause-lines
returns-in-WrongWords-clause-lines g c = rw c.in-WrongWords.is c.write_pieces-in-WrongWords.ensures.bytes

pub returns-in-DiskFailed-clause-lines : goal.returns-in-DiskFailed-clause-lines
returns-in-DiskFailed-clause-lines g c = rw c.in-DiskFailed.is c.write_pieces-in-DiskFailed.ensures.bytes

pub returns-in-SourceFailed-clause-lines : goal.returns-in-SourceFailed-clause-lines
returns-in-SourceFailed-clause-lines g c = rw c.in-SourceFailed.is c.write_pieces-in-SourceFailed.ensures.bytes

pub returns-in-LibraryFailed-clause-lines : goal.returns-in-LibraryFailed-clause-lines
returns-in-LibraryFailed-clause-lines g c = rw c.in-LibraryFailed.is c.write_pieces-in-LibraryFailed.ensures.bytes

pub returns-in-NotInitialised-clause-lines : goal.returns-in-NotInitialised-clause-lines
returns-in-NotInitialised-clause-lines g c = rw c.in-NotInitialised.is c.write_pieces-in-NotInitialised.ensures.bytes

pub returns-in-Made-clause-lines : goal.returns-in-Made-clause-lines
returns-in-Made-clause-lines g c = rw (c.in-Made.is, ← made_joined c.in-Made.thing, ← c.as_str.ensures.value) c.write_pieces.ensures.bytes

pub returns-in-Pending-clause-lines : goal.returns-in-Pending-clause-lines
returns-in-Pending-clause-lines g c = rw (c.in-Pending.is, ← pending_joined c.in-Pending.id, ← c.as_str-in-Pending.ensures.value)
    c.write_pieces-in-Pending.ensures.bytes

pub returns-in-Damaged-clause-lines : goal.returns-in-Damaged-clause-lines
returns-in-Damaged-clause-lines g c = rw (c.in-Damaged.is, ← damaged_joined c.in-Damaged.place, ← c.as_str-in-Damaged.ensures)
    c.write_pieces-in-Damaged.ensures.bytes

pub returns-in-Initialised-clause-lines : goal.returns-in-Initialised-clause-lines
returns-in-Initialised-clause-lines g c = rw (c.in-Initialised.is, ← initialised_joined c.in-Initialised.thing, ← c.as_str-in-Initialised.ensures.value)
    c.write_pieces-in-Initialised.ensures.bytes
