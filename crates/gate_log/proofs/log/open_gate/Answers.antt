use Rattle.std.proofs.Common.{◌≤◌, [], ◌∷◌, length, sym, subst}
use Rattle.std.proofs.lemmas.Result.{on_ok_weaker}
use Rattle.disk_model.specs.Disk.{Image}
use Rattle.gate_log.proofs.Writes.{put_longer}
use Rattle.gate_log.proofs.log.open_gate.Goals as goal

pub returns-clause-longer : goal.returns-clause-longer
returns-clause-longer g c told =
    let file = c.args.file.now in
    let done = put_longer c.args.end (1 ∷ []) (g.D.Disk.seen c.args.disk.now file) (g.D.Disk.seen c.write_at.new.self file)
    (c.in_ok-write_at.ensures.told told).here in
    on_ok_weaker c.sync.result
    (λ _. subst (λ (i : Image). length (g.D.Disk.seen c.args.disk.now file) ≤ length (i file)) (sym c.sync.ensures.seen) done) c.sync.ensures.durable
