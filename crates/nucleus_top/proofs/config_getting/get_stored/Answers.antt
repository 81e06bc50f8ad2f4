use Rattle.std.proofs.Common.{subst, sym}
use Rattle.device.specs.Devices.{Device, IsRegularDevice}
use Rattle.nucleus_top.specs.Gets.{GetAnswerOn}
use Rattle.nucleus_top.proofs.config_getting.get_stored.Goals as goal

pub get_on-requires : goal.get_on-requires
get_on-requires g c = record { regular = subst IsRegularDevice (sym c.stored.ensures) c.requires.ready.1 }

pub returns : goal.returns
returns g c = subst (λ (d : Device). GetAnswerOn d c.args.name.now c.args.at.now c.get_on.result) c.stored.ensures c.get_on.ensures
