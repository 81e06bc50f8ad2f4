use Rattle.device.proofs.Course.{run}
use Rattle.device.proofs.laws.runs_give_the_plain_course.Goals as goal

pub returns : goal.returns
returns c d e records h = run records d e h
