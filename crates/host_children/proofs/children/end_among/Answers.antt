use Rattle.std.proofs.Common.{◌∙◌}
use Rattle.host_children.proofs.Numbers.{kept_set}
use Rattle.host_children.proofs.children.end_among.Goals as goal

pub loop-child-preserved : goal.loop-child-preserved
loop-child-preserved g c =
    kept_set _ c.args.number c.loop-child.child-items c.loop-child.child-index c.see_off_numbered.new.child c.child-item.result c.see_off_numbered.ensures.number
    c.see_off_numbered.ensures.other ∙ c.loop-child.invariant
