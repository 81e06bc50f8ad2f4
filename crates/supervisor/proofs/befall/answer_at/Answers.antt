use Rattle.std.proofs.Common.{false}
use Rattle.components.proofs.Each.{set_changed}
use Rattle.supervisor.proofs.befall.answer_at.Goals as goal

pub returns : goal.returns
returns c = set_changed (λ p. record p { handed = false }) _ c.args.at _ c.set_handed.new.self c.requires c.set_handed.ensures
