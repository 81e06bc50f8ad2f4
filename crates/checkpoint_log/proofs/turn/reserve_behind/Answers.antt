use Rattle.std.proofs.Common.{length, ap, arith}
use Rattle.checkpoint_log.proofs.Opened.{put_stays}
use Rattle.checkpoint_log.proofs.Turning.{keeps_moments}
use Rattle.checkpoint_log.proofs.turn.reserve_behind.Goals as goal

pub returns-clause-stays : goal.returns-clause-stays
returns-clause-stays g c told end payloads put = put_stays c.args.to _ _ end payloads (c.reserve.ensures.told told).here.0 put

pub returns-clause-moments : goal.returns-clause-moments
returns-clause-moments g c =
    keeps_moments g.met.D.Disk.laws c.args.file.now c.args.disk.now c.reserve.new.self (length (g.D.Disk.seen c.args.disk.now c.args.file.now)) _
    (λ told. omega (arith, ap length (c.requires.shut told).1)) c.reserve.ensures.moments
