use Rattle.test_supervisor.proofs.Handing.{if_stands}
use Rattle.test_supervisor.proofs.cases.is_line.Goals as goal

pub returns-clause-stands : goal.returns-clause-stands
returns-clause-stands c = if_stands c.args.device.now.origin c.tell_all.new.supervisor c.is_answer.new.supervisor c.in_ok-fits.ensures.stands
    c.tell_all.ensures.stands
