use Rattle.std.proofs.Common.{◌∙◌, ap, subst, sym}
use Rattle.std.specs.Option.{IsSome}
use Rattle.device.specs.Devices.{Device}
use Rattle.nucleus_top.specs.Abouts.{about_text}
use Rattle.nucleus_top.proofs.about.tell_stored.Goals as goal

pub store_text-requires : goal.store_text-requires
store_text-requires g c = record { origin = subst (λ (d : Device). IsSome d.origin) (sym c.stored.ensures) c.requires.ready.0 }

pub returns-in-Ok : goal.returns-in-Ok
returns-in-Ok g c = c.in-Ok.ensures ∙ ap (λ (d : Device). about_text c.args.version.now d c.args.tally.now.records) c.stored.ensures
