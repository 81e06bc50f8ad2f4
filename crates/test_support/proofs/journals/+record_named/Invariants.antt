use Rattle.std.proofs.Common.{length}
use Rattle.test_support.proofs.journals.+record_named.Given as goal

abbrev pub decreases-record_named : goal.decreases-record_named
decreases-record_named l = length l.records.now
