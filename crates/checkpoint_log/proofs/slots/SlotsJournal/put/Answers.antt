use Rattle.std.proofs.Common.{◌<◌, ◌≤◌, ℕ, IsTrue, List, length, refl, subst, arith}
use Rattle.checkpoint_log.proofs.Turning.{keep_moments, keep_stands, turn_left}
use Rattle.checkpoint_log.proofs.slots.SlotsJournal.put.Goals as goal

pub returns-in_err-put_behind-clause-any_moment : goal.returns-in_err-put_behind-clause-any_moment
returns-in_err-put_behind-clause-any_moment g c payloads behind =
    let left : c.args.self.now.number < 18446744073709551615 = omega (arith, c.if-self-ge18446744073709551615.false) in
    let begun : IsTrue g.D.Disk.is_modelled → IsTrue c.args.self.now.begun =
    λ told. ((c.requires.begun (turn_left c.args.self.now.number left)).1.there told).0 in
    keep_moments g.met.D.Disk.laws c.args.self.now c.args.disk.now c.put_behind.new.disk payloads c.slot_name.result.now c.slot_name.ensures begun behind
    c.put_behind.ensures.moments

pub returns-clause-any_moment : goal.returns-clause-any_moment
returns-clause-any_moment g c payloads behind =
    let left : c.args.self.now.number < 18446744073709551615 = omega (arith, c.if-self-ge18446744073709551615.false) in
    let begun : IsTrue g.D.Disk.is_modelled → IsTrue c.args.self.now.begun =
    λ told. ((c.requires.begun (turn_left c.args.self.now.number left)).1.there told).0 in
    keep_moments g.met.D.Disk.laws c.args.self.now c.args.disk.now c.put_behind.new.disk payloads c.slot_name.result.now c.slot_name.ensures begun behind
    c.put_behind.ensures.moments

pub returns-clause-stays : goal.returns-clause-stays
returns-clause-stays g c payloads behind =
    let left : c.args.self.now.number < 18446744073709551615 = omega (arith, c.if-self-ge18446744073709551615.false) in
    let begun : IsTrue g.D.Disk.is_modelled → IsTrue c.args.self.now.begun =
    λ told. ((c.requires.begun (turn_left c.args.self.now.number left)).1.there told).0 in
    keep_stands g.met.D.Disk.laws c.args.self.now _ c.args.disk.now c.put_behind.new.disk payloads c.slot_name.result.now refl refl c.slot_name.ensures begun
    behind c.put_behind.ensures.moments

pub put_behind-requires-clause-room : goal.put_behind-requires-clause-room
put_behind-requires-clause-room g c =
    let left : c.args.self.now.number < 18446744073709551615 = omega (arith, c.if-self-ge18446744073709551615.false) in
    c.requires.room (turn_left c.args.self.now.number left)

pub returns-clause-room : goal.returns-clause-room
returns-clause-room g c told =
    subst (λ (name : List ℕ). length (g.D.Disk.seen c.args.disk.now name) ≤ length (g.D.Disk.seen c.put_behind.new.disk name)) c.slot_name.ensures
    (c.in_ok-put_behind.ensures.longer told)
