use Rattle.std.proofs.Common.{◌≤◌, ℕ, List, length, subst}
use Rattle.std.proofs.lemmas.Result.{on_ok_weaker}
use Rattle.checkpoint_log.proofs.Turning.{live_behind, reserve_moments, reserve_stands}
use Rattle.checkpoint_log.proofs.slots.SlotsJournal.reserve.Goals as goal

pub returns-clause-any_moment : goal.returns-clause-any_moment
returns-clause-any_moment g c payloads behind =
    reserve_moments g.met.D.Disk.laws c.args.self.now c.args.disk.now c.reserve_in.new.disk payloads c.slot_name.result.now c.slot_name.ensures behind
    (c.reserve_in.ensures.any_moment payloads (live_behind g.met.D.Disk.laws c.args.self.now c.args.disk.now payloads c.slot_name.result.now
    c.slot_name.ensures behind))

pub returns-clause-stays : goal.returns-clause-stays
returns-clause-stays g c payloads behind =
    let live = live_behind g.met.D.Disk.laws c.args.self.now c.args.disk.now payloads c.slot_name.result.now c.slot_name.ensures behind in
    reserve_stands g.met.D.Disk.laws c.args.self.now c.args.disk.now c.reserve_in.new.disk payloads c.slot_name.result.now c.slot_name.ensures behind
    (c.reserve_in.ensures.any_moment payloads live) (c.reserve_in.ensures.stays payloads live)

pub returns-clause-room : goal.returns-clause-room
returns-clause-room g c told =
    on_ok_weaker c.reserve_in.result
    (λ le. subst (λ (name : List ℕ). c.args.to ≤ length (g.D.Disk.seen c.reserve_in.new.disk name)) c.slot_name.ensures le)
    (c.reserve_in.ensures.room told)
