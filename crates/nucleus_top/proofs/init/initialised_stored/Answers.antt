use Rattle.std.proofs.Common.{subst, sym}
use Rattle.std.specs.Option.{IsSome}
use Rattle.device.specs.Devices.{Device}
use Rattle.nucleus_top.specs.Inits.{NamesThing}
use Rattle.nucleus_top.proofs.init.initialised_stored.Goals as goal

pub initialised-requires : goal.initialised-requires
initialised-requires g c = subst (λ (d : Device). IsSome d.origin) (sym c.stored.ensures) c.requires.ready.0

pub returns : goal.returns
returns g c = subst (λ (d : Device). NamesThing d c.initialised.result) c.stored.ensures c.initialised.ensures
