use Rattle.std.proofs.Common.{drop}
use Rattle.local_deploy.specs.Lines.{names_apart}
use Rattle.local_deploy.proofs.Apart.{Checked}
use Rattle.local_deploy.proofs.request.check_apart.Given as goal

abbrev pub invariant-loop-name : goal.invariant-loop-name
invariant-loop-name l = Checked (names_apart l.remove) l.merge (drop l.name-index l.merge)
