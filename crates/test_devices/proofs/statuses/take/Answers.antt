use Rattle.records.specs.Stored.{record_view}
use Rattle.device.proofs.Regular.{writable}
use Rattle.test_devices.proofs.statuses.take.Goals as goal

pub apply-requires : goal.apply-requires
apply-requires c = record { regular = writable (record_view c.in-Some.record) (rw c.in-Some.is at c.in_ok-record.ensures.writable) }
