use Rattle.components.specs.Flags.{with_flags}
use Rattle.supervisor.proofs.Flags.{replanned_is}
use Rattle.supervisor.proofs.marks.replan.Goals as goal

pub returns-clause-replanned : goal.returns-clause-replanned
returns-clause-replanned c = replanned_is c.args.slots.now c.mark.new.slots (with_flags c.args.slots.now c.args.flags.now)
    (with_flags c.args.slots.now c.spread.new.flags) c.mark.ensures c.spread.ensures.reached c.requires.flags
