use Rattle.std.proofs.Common.{◌∙◌, ap, subst, sym}
use Rattle.std.specs.Option.{IsSome}
use Rattle.device.specs.Devices.{Device, IsRegularDevice}
use Rattle.nucleus_top.specs.Shows.{shown}
use Rattle.nucleus_top.proofs.status.show.Goals as goal

pub status_of-requires-clause-origin : goal.status_of-requires-clause-origin
status_of-requires-clause-origin g c = subst (λ (d : Device). IsSome d.origin) (sym c.stored.ensures) c.requires.ready.0

pub status_of-requires-clause-regular : goal.status_of-requires-clause-regular
status_of-requires-clause-regular g c = subst IsRegularDevice (sym c.stored.ensures) c.requires.ready.1

pub returns-in-Ok : goal.returns-in-Ok
returns-in-Ok g c = c.in-Ok.ensures ∙ ap (shown c.args.json) c.stored.ensures
