use Rattle.components.specs.Components.{owner}
use Rattle.components.proofs.Times.{by_owner}
use Rattle.components.proofs.laws.time_passes.Goals as goal

pub returns : goal.returns
returns c = λ n m e w. by_owner n m w (owner n w.parts) e
