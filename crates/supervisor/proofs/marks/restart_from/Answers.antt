use Rattle.std.proofs.Common.{sym}
use Rattle.components.specs.Flags.{with_flags}
use Rattle.supervisor.proofs.Flags.{restarted_is}
use Rattle.supervisor.proofs.marks.restart_from.Goals as goal

pub returns-clause-restarted : goal.returns-clause-restarted
returns-clause-restarted c = restarted_is c.args.slots.now c.mark.new.slots c.args.at (with_flags c.args.slots.now c.flag_one.new.flags)
    (with_flags c.args.slots.now c.spread.new.flags) c.mark.ensures c.spread.ensures.reached (c.flag_one.ensures.one c.args.slots.now (sym c.requires.many))
