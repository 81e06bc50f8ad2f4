use Rattle.disk_model.proofs.Closed.{closed}
use Rattle.disk_model.proofs.laws.steps_are_one_sentence.Goals as goal

pub returns : goal.returns
returns c = closed
