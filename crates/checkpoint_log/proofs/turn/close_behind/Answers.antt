use Rattle.std.proofs.Common.{◌≤◌, length, sym, subst, arith}
use Rattle.std.proofs.lemmas.Result.{on_ok_weaker}
use Rattle.disk_model.specs.Disk.{Image}
use Rattle.disk_model.specs.Moments.{then_same}
use Rattle.gate_log.proofs.Writes.{put_longer}
use Rattle.checkpoint_log.specs.Slots.{IsPutWith}
use Rattle.checkpoint_log.proofs.Opened.{put_long, gate_on}
use Rattle.checkpoint_log.proofs.Turning.{keeps_moments}
use Rattle.std.specs.Prelude.{[], ◌∷◌}
use Rattle.checkpoint_log.proofs.turn.close_behind.Goals as goal

pub write_at-requires : goal.write_at-requires
write_at-requires g c told =
    let put = c.requires.there told in
    omega (arith, put_long _ _ c.args.end put.0 put.1)

pub returns-in_err-write_at-clause-moments : goal.returns-in_err-write_at-clause-moments
returns-in_err-write_at-clause-moments g c = keeps_moments g.met.D.Disk.laws c.args.file.now c.args.disk.now c.write_at.new.self c.args.end 1 c.requires.some
    c.write_at.ensures.moments

pub returns-clause-moments : goal.returns-clause-moments
returns-clause-moments g c =
    then_same g.met.D.Disk.laws c.args.disk.now c.write_at.new.self c.sync.new.self _
    (keeps_moments g.met.D.Disk.laws c.args.file.now c.args.disk.now c.write_at.new.self c.args.end 1 c.requires.some c.write_at.ensures.moments)
    c.sync.ensures.moments

pub returns-clause-written : goal.returns-clause-written
returns-clause-written g c told payloads put =
    let done = gate_on _ _ 0 c.args.end payloads (c.requires.some told) put (c.in_ok-write_at.ensures.told told).here in
    on_ok_weaker c.sync.result (λ _. subst (λ (i : Image). IsPutWith (0 ∷ []) (i c.args.file.now) c.args.end payloads) (sym c.sync.ensures.seen) done)
    c.sync.ensures.durable

pub returns-clause-longer : goal.returns-clause-longer
returns-clause-longer g c told =
    let file = c.args.file.now in
    let done = put_longer c.args.end (0 ∷ []) (g.D.Disk.seen c.args.disk.now file) (g.D.Disk.seen c.write_at.new.self file)
    (c.in_ok-write_at.ensures.told told).here in
    on_ok_weaker c.sync.result
    (λ _. subst (λ (i : Image). length (g.D.Disk.seen c.args.disk.now file) ≤ length (i file)) (sym c.sync.ensures.seen) done) c.sync.ensures.durable
