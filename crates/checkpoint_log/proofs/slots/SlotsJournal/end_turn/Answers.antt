use Rattle.std.proofs.Common.{◌<◌, ◌≤◌, ℕ, List, inl, length, refl, subst, arith}
use Rattle.disk_model.specs.Moments.{weaker}
use Rattle.checkpoint_log.proofs.Turning.{ready, keep_moments, turn_left, turn_moments, turn_stands}
use Rattle.checkpoint_log.proofs.slots.SlotsJournal.end_turn.Goals as goal

pub close_behind-requires-clause-some : goal.close_behind-requires-clause-some
close_behind-requires-clause-some g c =
    let left : c.args.self.now.number < 18446744073709551615 = omega (arith, c.if-self-ge18446744073709551615.false) in
    let turn = c.requires.begun (turn_left c.args.self.now.number left) in
    (ready g.D.Disk.is_modelled g.D.Disk.seen c.args.self.now c.args.disk.now c.slot_name-other.result.now turn.0 turn.0 c.slot_name-other.ensures left turn.1
    turn.2 turn.1).some

pub returns-in_err-close_behind-clause-any_moment : goal.returns-in_err-close_behind-clause-any_moment
returns-in_err-close_behind-clause-any_moment g c payloads more behind is_put =
    let left : c.args.self.now.number < 18446744073709551615 = omega (arith, c.if-self-ge18446744073709551615.false) in
    let turn = c.requires.begun (turn_left c.args.self.now.number left) in
    let r = ready g.D.Disk.is_modelled g.D.Disk.seen c.args.self.now c.args.disk.now c.slot_name-other.result.now turn.0 more c.slot_name-other.ensures left
    turn.1 turn.2 is_put in
    weaker g.met.D.Disk.laws c.args.disk.now c.close_behind.new.disk _ _
    (λ i was. (was.0, was.1, record { here = inl was.2.here; others = was.2.others }))
    (keep_moments g.met.D.Disk.laws c.args.self.now c.args.disk.now c.close_behind.new.disk payloads c.slot_name-other.result.now c.slot_name-other.ensures
    r.begun behind c.close_behind.ensures.moments)

pub returns-in_err-open_gate-clause-any_moment : goal.returns-in_err-open_gate-clause-any_moment
returns-in_err-open_gate-clause-any_moment g c payloads more behind is_put =
    let left : c.args.self.now.number < 18446744073709551615 = omega (arith, c.if-self-ge18446744073709551615.false) in
    let turn = c.requires.begun (turn_left c.args.self.now.number left) in
    let r = ready g.D.Disk.is_modelled g.D.Disk.seen c.args.self.now c.args.disk.now c.slot_name-other.result.now turn.0 more c.slot_name-other.ensures left
    turn.1 turn.2 is_put in
    turn_moments g.met.D.Disk.laws c.args.self.now c.args.disk.now c.close_behind.new.disk c.open_gate.new.disk payloads more c.slot_name-other.result.now
    c.args.self.now.put_end c.slot_name-other.ensures r.begun behind
    c.close_behind.ensures.moments c.in_ok-close_behind.ensures.durable (λ told. c.in_ok-close_behind.ensures.written told more (r.put told)) r.says
    c.open_gate.ensures.moments

pub returns-clause-any_moment : goal.returns-clause-any_moment
returns-clause-any_moment g c payloads more behind is_put =
    let left : c.args.self.now.number < 18446744073709551615 = omega (arith, c.if-self-ge18446744073709551615.false) in
    let turn = c.requires.begun (turn_left c.args.self.now.number left) in
    let r = ready g.D.Disk.is_modelled g.D.Disk.seen c.args.self.now c.args.disk.now c.slot_name-other.result.now turn.0 more c.slot_name-other.ensures left
    turn.1 turn.2 is_put in
    turn_moments g.met.D.Disk.laws c.args.self.now c.args.disk.now c.close_behind.new.disk c.open_gate.new.disk payloads more c.slot_name-other.result.now
    c.args.self.now.put_end c.slot_name-other.ensures r.begun behind
    c.close_behind.ensures.moments c.in_ok-close_behind.ensures.durable (λ told. c.in_ok-close_behind.ensures.written told more (r.put told)) r.says
    c.open_gate.ensures.moments

pub returns-clause-turned : goal.returns-clause-turned
returns-clause-turned g c more turns is_put =
    let left : c.args.self.now.number < 18446744073709551615 = omega (arith, c.if-self-ge18446744073709551615.false) in
    let turn = c.requires.begun (turn_left c.args.self.now.number left) in
    let r = ready g.D.Disk.is_modelled g.D.Disk.seen c.args.self.now c.args.disk.now c.slot_name-other.result.now turn.0 more c.slot_name-other.ensures left
    turn.1 turn.2 is_put in (
      refl,
      refl,
      turn_stands g.met.D.Disk.laws c.args.self.now _ c.args.disk.now c.close_behind.new.disk c.open_gate.new.disk c.requires.open.0 more
          c.slot_name-other.result.now refl (λ yes. (let no : ⊥ = cc in no)) c.slot_name-other.ensures
          c.requires.open.1 c.close_behind.ensures.moments (λ told. c.in_ok-close_behind.ensures.written told more (r.put told)) r.says
          c.open_gate.ensures.moments c.in_ok-open_gate.ensures.durable (λ told. (c.in_ok-open_gate.ensures.written told).here),
    )

pub returns-clause-room : goal.returns-clause-room
returns-clause-room g c told turns =
    let closed = c.in_ok-close_behind.ensures.longer told in
    let opened = c.in_ok-open_gate.ensures.longer told in
    subst (λ (name : List ℕ). length (g.D.Disk.seen c.args.disk.now name) ≤ length (g.D.Disk.seen c.open_gate.new.disk name)) c.slot_name-other.ensures
    (omega (arith, closed, opened))
