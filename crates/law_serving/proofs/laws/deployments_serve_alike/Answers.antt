use Rattle.law_serving.proofs.Alike.{serve_alike}
use Rattle.law_serving.proofs.laws.deployments_serve_alike.Goals as goal

pub returns : goal.returns
returns c = serve_alike
