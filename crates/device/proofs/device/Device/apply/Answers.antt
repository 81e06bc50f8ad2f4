use Rattle.records.specs.Stored.{record_view}
use Rattle.device.specs.Devices.{device_view}
use Rattle.device.proofs.Regular.{after}
use Rattle.device.proofs.Sounding as sounding
use Rattle.device.proofs.device.Device.apply.Goals as goal

pub returns-clause-regular : goal.returns-clause-regular
returns-clause-regular c =
    after (device_view c.args.self.now) (device_view c.take_record.new.self) (record_view c.args.entry) c.take_record.result c.requires.regular
    c.take_record.ensures

pub returns-clause-sound : goal.returns-clause-sound
returns-clause-sound c =
    sounding.after (record_view c.args.entry) (device_view c.args.self.now) (device_view c.take_record.new.self) c.take_record.result c.take_record.ensures
