use Rattle.device.proofs.Sounding.{revisions_rise}
use Rattle.device.proofs.laws.revisions_rise.Goals as goal

pub returns : goal.returns
returns c = revisions_rise
