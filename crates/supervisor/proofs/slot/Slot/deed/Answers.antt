use Rattle.supervisor.proofs.Asked.{stop_given}
use Rattle.supervisor.proofs.slot.Slot.deed.Goals as goal

pub returns-in-Some-stop-clause-deed : goal.returns-in-Some-stop-clause-deed
returns-in-Some-stop-clause-deed c = stop_given c.args.moment c.args.begins c.args.stop c.args.self.now c.in-Some-stop.after c.stop_deed.result
    c.in-Some-stop.is (c.stop_deed.ensures c.args.moment c.args.begins)
