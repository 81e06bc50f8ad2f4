use Rattle.supervisor.proofs.Held.{placed_at}
use Rattle.supervisor.proofs.places.place_of_need.Goals as goal

pub returns-in-Some : goal.returns-in-Some
returns-in-Some c = placed_at c.args.need.now c.in-Some.at c.args.slots.now c.requires c.in-Some.ensures
