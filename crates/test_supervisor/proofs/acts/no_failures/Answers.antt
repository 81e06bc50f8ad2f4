use Rattle.std.proofs.Common.{◌<◌, ℕ, arith}
use Rattle.std.proofs.lemmas.List.Elements.{All-replicate}
use Rattle.test_supervisor.proofs.acts.no_failures.Goals as goal

pub returns : goal.returns
returns c = All-replicate (λ (n : ℕ). n < 3) 128 0 (omega arith)
