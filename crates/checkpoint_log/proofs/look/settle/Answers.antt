use Rattle.std.proofs.lemmas.Result.{on_ok_weaker}
use Rattle.checkpoint_log.proofs.Finding.{both_settled}
use Rattle.checkpoint_log.proofs.look.settle.Goals as goal

pub returns-clause-settled : goal.returns-clause-settled
returns-clause-settled g c =
    on_ok_weaker c.sync-2.result (λ other. both_settled g.met.D.Disk.laws c.sync.new.self c.sync-2.new.self c.in_ok-sync.ensures.durable
    c.sync-2.ensures.moments c.sync-2.ensures.seen other) c.sync-2.ensures.durable
