use Rattle.device.proofs.scopes.scope_by.Goals as goal

pub returns : goal.returns
returns c = record { root = c.in_ok-root.ensures; thing = c.in_ok-thing.ensures; own = c.in_ok-own.ensures; needed = c.in_ok-needed.ensures }
