use Rattle.std.proofs.Common.{◌+◌, ◌≤◌, ℕ, List, length, refl, sym, subst}
use Rattle.std.proofs.lemmas.Result.{on_ok_weaker}
use Rattle.checkpoint_log.proofs.Turning.{live_behind, append_moments, append_stands}
use Rattle.checkpoint_log.proofs.slots.SlotsJournal.append.Goals as goal

pub returns-clause-any_moment : goal.returns-clause-any_moment
returns-clause-any_moment g c payloads behind =
    append_moments g.met.D.Disk.laws c.args.self.now c.args.disk.now c.append_in.new.disk payloads c.args.payload.now c.slot_name.result.now
    c.slot_name.ensures behind c.requires.first
    (c.append_in.ensures.any_moment payloads (live_behind g.met.D.Disk.laws c.args.self.now c.args.disk.now payloads c.slot_name.result.now
    c.slot_name.ensures behind))

pub returns-clause-added : goal.returns-clause-added
returns-clause-added g c payloads behind =
    let live = live_behind g.met.D.Disk.laws c.args.self.now c.args.disk.now payloads c.slot_name.result.now c.slot_name.ensures behind in
    on_ok_weaker c.append_in.result
    (λ added. append_stands g.met.D.Disk.laws c.args.self.now _ c.args.disk.now c.append_in.new.disk payloads c.args.payload.now c.slot_name.result.now refl
    refl c.slot_name.ensures behind c.requires.first
    (c.append_in.ensures.any_moment payloads live) added)
    (c.append_in.ensures.added payloads live)

pub returns-clause-fits : goal.returns-clause-fits
returns-clause-fits g c told le =
    c.append_in.ensures.fits told
    (subst (λ (name : List ℕ). c.args.self.now.live.end + 6 + length c.args.payload.now ≤ length (g.D.Disk.seen c.args.disk.now name))
    (sym c.slot_name.ensures) le)

pub returns-clause-room : goal.returns-clause-room
returns-clause-room g c told =
    on_ok_weaker c.append_in.result
    (λ le. subst (λ (name : List ℕ). length (g.D.Disk.seen c.args.disk.now name) ≤ length (g.D.Disk.seen c.append_in.new.disk name)) c.slot_name.ensures le)
    (c.append_in.ensures.longer told)
