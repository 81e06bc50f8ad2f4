use Rattle.library_core.proofs.OneList.{one_gathered}
use Rattle.library_core.proofs.laws.gathered_are_one.Goals as goal

pub returns : goal.returns
returns c = λ mine p recipes cs ds g h. one_gathered mine p recipes cs ds g h
