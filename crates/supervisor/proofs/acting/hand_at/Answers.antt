use Rattle.std.proofs.Common.{true}
use Rattle.components.proofs.Each.{set_changed}
use Rattle.supervisor.proofs.acting.hand_at.Goals as goal

pub returns : goal.returns
returns c = set_changed (λ p. record p { handed = true }) _ c.args.at _ c.set_handed.new.self c.requires c.set_handed.ensures
