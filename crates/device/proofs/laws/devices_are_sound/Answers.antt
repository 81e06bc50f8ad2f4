use Rattle.device.specs.Devices.{no_device}
use Rattle.device.proofs.Sounding.{none_sound, stays_sound, run_sound}
use Rattle.device.proofs.laws.devices_are_sound.Goals as goal

pub returns-clause-step : goal.returns-clause-step
returns-clause-step c = stays_sound

pub returns-clause-run : goal.returns-clause-run
returns-clause-run c records d run = run_sound records no_device d none_sound run
