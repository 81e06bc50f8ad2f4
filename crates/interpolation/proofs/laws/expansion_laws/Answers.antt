use Rattle.interpolation.proofs.Alike.{expand_alike}
use Rattle.interpolation.proofs.Cuttings.{one_cutting, one_text}
use Rattle.interpolation.proofs.laws.expansion_laws.Goals as goal

pub returns : goal.returns
returns c = record { one_cutting = one_cutting; one_text = one_text; alike = expand_alike }
