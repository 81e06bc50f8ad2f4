use Rattle.std.proofs.Common.{None}
use Rattle.components.proofs.Each.{set_changed}
use Rattle.supervisor.proofs.acting.tell_at.Goals as goal

pub returns : goal.returns
returns c = set_changed (λ p. record p { owed = None }) _ c.args.at _ c.tell.new.self c.requires c.tell.ensures
