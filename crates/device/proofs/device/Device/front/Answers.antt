use Rattle.records.specs.Stored.{record_view}
use Rattle.device.specs.Devices.{device_view}
use Rattle.device.specs.Fronts.{Front}
use Rattle.device.proofs.Telling.{spelled_at, writable_at}
use Rattle.device.proofs.device.Device.front.Goals as goal

pub write-requires : goal.write-requires
write-requires c = writable_at c.args.number c.args.at (device_view c.args.self.now) (record_view c.in_ok-entry.entry) c.requires.has c.requires.regular
    c.in_ok-entry.ensures

pub returns : goal.returns
returns c = spelled_at c.write.result (Front c.args.number (device_view c.args.self.now)) c.args.at (record_view c.in_ok-entry.entry) c.in_ok-entry.ensures
    c.write.ensures
