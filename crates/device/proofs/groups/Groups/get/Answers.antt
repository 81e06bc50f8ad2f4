use Rattle.std.proofs.Common.{◌∙◌, ap}
use Rattle.device.specs.Grouped.{find_group}
use Rattle.device.proofs.Joining.{found}
use Rattle.device.proofs.groups.Groups.get.Goals as goal

pub returns : goal.returns
returns c = c.get.ensures.value ∙ found c.args.arn.now c.self.inside.by_arn.entries c.self.invariant ∙ ap (λ groups. find_group c.args.arn.now groups.list)
    c.self.view_is
