use Rattle.std.proofs.Common.{◌∙◌, ap}
use Rattle.fleet_core.specs.Takings.{level}
use Rattle.fleet_core.specs.Keeping.{Keeping, takings_of}
use Rattle.fleet_core.proofs.Lookups.{among-some, among-none}
use Rattle.fleet_core.proofs.device.Device.level.Goals as goal

pub returns-in-Some : goal.returns-in-Some
returns-in-Some c =
    c.level.ensures ∙ ap (level c.args.reports) (among-some c.args.group.now c.self.inside.groups.entries c.in-Some.history.now c.in-Some.ensures.value)
    ∙ ap (λ (k : Keeping). level c.args.reports (takings_of k c.args.group.now)) c.self.view_is

pub returns-in-None : goal.returns-in-None
returns-in-None c =
    ap (level c.args.reports) (among-none c.args.group.now c.self.inside.groups.entries c.in-None.ensures.value)
    ∙ ap (λ (k : Keeping). level c.args.reports (takings_of k c.args.group.now)) c.self.view_is
