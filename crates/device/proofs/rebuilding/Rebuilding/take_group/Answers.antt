use Rattle.std.proofs.Common.{◌≡◌, ◌∙◌, ◌<◌, false, sym, subst, arith}
use Rattle.device.specs.Grouped.{has_group}
use Rattle.device.specs.Plans.{AreRequirements}
use Rattle.device.proofs.Fronting.{joins_new}
use Rattle.device.proofs.rebuilding.Rebuilding.take_group.Goals as goal

pub returns : goal.returns
returns c =
    let some : 0 < c.args.self.now.groups_to_come = omega arith in
    let new : has_group c.args.group.arn c.args.self.now.groups.list ≡ false = sym c.contains.ensures ∙ c.if-contains.false in
    let asks : AreRequirements c.args.group.requirements = subst AreRequirements c.as_slice.ensures
    (c.are_requirements.ensures.0 c.if-not-are_requirements.false) in
    let listed = c.in_ok-join.ensures ∙ joins_new c.args.self.now.groups.list c.args.group new in
    ((some, new, asks), rw listed)
