use Rattle.std.proofs.Common.{Some, refl}
use Rattle.device.proofs.Places.{same_name}
use Rattle.device.proofs.steps.is_name.Goals as goal

pub returns-in-Some : goal.returns-in-Some
returns-in-Some c = rw c.in-Some.is (same_name (Some c.in-Some.other.now) c.in-Some.other.now c.args.name.now c.eq.result refl c.eq.ensures)
