use Rattle.std.proofs.Common.{ap}
use Rattle.std.specs.Option.{option_map_or}
use Rattle.std.specs.Prelude.{Option}
use Rattle.device.specs.Devices.{Group}
use Rattle.device.proofs.groups.Groups.revision_of.Goals as goal

pub returns-in-Some : goal.returns-in-Some
returns-in-Some c = ap (λ (o : Option Group). option_map_or (λ g. g.revision) o 0) c.in-Some.ensures

pub returns-in-None : goal.returns-in-None
returns-in-None c = ap (λ (o : Option Group). option_map_or (λ g. g.revision) o 0) c.in-None.ensures
