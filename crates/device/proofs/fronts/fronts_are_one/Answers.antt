use Rattle.device.proofs.Fronting.{one_front}
use Rattle.device.proofs.fronts.fronts_are_one.Goals as goal

pub returns : goal.returns
returns c = one_front
