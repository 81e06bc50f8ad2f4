use Rattle.std.proofs.Common.{◌∙◌, arith, sym}
use Rattle.components.specs.Flags.{with_flags}
use Rattle.supervisor.proofs.Found.{any_flagged}
use Rattle.supervisor.proofs.marks.is_flagged_need.Goals as goal

pub returns : goal.returns
returns c = λ e. any_flagged c.args.needs.now (with_flags c.args.slots.now c.args.flags.now) c.args.at c.index-needs-at.result
    (omega arith) c.index-needs-at.is (sym c.is_need_flagged.ensures ∙ e)
