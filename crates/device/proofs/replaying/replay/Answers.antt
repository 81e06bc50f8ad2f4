use Rattle.std.proofs.Common.{sym, ◌∙◌, ◌+◌, ◌*◌, ◌≤◌, Option, IfSome, subst, arith}
use Rattle.std.proofs.lemmas.Result.{err_from_is_err_and}
use Rattle.disk_model.specs.Disk.{Image}
use Rattle.disk_model.specs.Moments.{then_same, at_start}
use Rattle.gate_log.specs.Journal.{reads_behind}
use Rattle.gate_log.specs.Place.{IsEntryAt}
use Rattle.device.specs.Devices.{Pending, device_view}
use Rattle.device.specs.Rooms.{left_of}
use Rattle.device.proofs.Marching.{entry_at, next, first_on, later_on, fault_told, has_room, room_lacks, starts, begin_fault, idle_view}
use Rattle.device.proofs.Roomy.{first_ahead, later_ahead, ends_ahead}
use Rattle.device.proofs.replaying.replay.Goals as goal

pub returns-in_err-device-clause-told : goal.returns-in_err-device-clause-told
returns-in_err-device-clause-told g c told payloads stands =
    let p = err_from_is_err_and c.from_residual.result c.from_residual.ensures.1 in
    rw (p.1, p.2) (begin_fault payloads c.in_err-device.field-0.0 (c.in_err-device.ensures.told told payloads stands))

pub loop-at-init : goal.loop-at-init
loop-at-init g c =
    let device = c.in_ok-device.device in
    let at = c.in_ok-device.at in
    let idle = idle_view device.pending c.in_ok-device.ensures.idle in
    record {
      goes = c.begin.ensures.moments;
      seen = c.begin.ensures.seen;
      faults = c.in_ok-device.ensures.quiet (λ h. cc);
      regular = c.in_ok-device.ensures.regular;
      sound = c.in_ok-device.ensures.sound;
      ahead = subst (λ (o : Option Pending). IfSome o (λ q. at + 256 * left_of q ≤ at + 256 * 1283)) (sym idle) tt;
      reached = λ told payloads stands. starts payloads c.end-end.result at at (device_view device)
          (c.end-end.ensures ∙ g.met.J.Journal.laws.ends c.args.log.now (g.D.Disk.seen c.args.disk.now) payloads stands) idle
          (c.in_ok-device.ensures.told told payloads stands);
    }

pub take_entry-requires-clause-place : goal.take_entry-requires-clause-place
take_entry-requires-clause-place g c told =
    let on = reads_behind g.met.D.Disk.laws g.J.Journal.stands c.args.log.now c.args.disk.now c.requires.open.0 c.requires.open.1 told in
    let r = c.loop-at.invariant.reached told c.requires.open.0 on in
    let n = next c.requires.open.0 c.end-end.result c.loop-at.at c.loop-at.behind (device_view c.loop-at.device) r c.loop-at-test.true in (
      n.first,
      subst (λ (i : Image). IsEntryAt g.J.Journal.stands c.args.log.now i c.loop-at.at n.first) (sym c.loop-at.invariant.seen)
          (entry_at g.J.Journal.stands c.args.log.now (g.D.Disk.seen c.args.disk.now) c.requires.open.0 c.end-end.result c.loop-at.at c.loop-at.behind
          (device_view c.loop-at.device) r n on),
    )

pub returns-in_err-next-clause-told : goal.returns-in_err-next-clause-told
returns-in_err-next-clause-told g c told payloads stands =
    let d = device_view c.loop-at.device in
    let r = c.loop-at.invariant.reached told payloads stands in
    let n = next payloads c.end-end.result c.loop-at.at c.loop-at.behind d r c.loop-at-test.true in
    let place = subst (λ (i : Image). IsEntryAt g.J.Journal.stands c.args.log.now i c.loop-at.at n.first) (sym c.loop-at.invariant.seen)
    (entry_at g.J.Journal.stands c.args.log.now (g.D.Disk.seen c.args.disk.now) payloads c.end-end.result c.loop-at.at c.loop-at.behind d r n stands) in
    let p = err_from_is_err_and c.from_residual-in_err-next.result c.from_residual-in_err-next.ensures.1 in
    rw (p.1, p.2) (fault_told payloads c.end-end.result c.loop-at.at c.loop-at.behind d (device_view c.take_entry.new.device) r n c.in_err-next.field-0.0
    (c.in_err-next.ensures.told told n.first place))

pub returns-in_err-next-clause-moments : goal.returns-in_err-next-clause-moments
returns-in_err-next-clause-moments g c =
    then_same g.met.D.Disk.laws c.args.disk.now c.loop-at.disk c.take_entry.new.disk (g.D.Disk.may_leave c.args.disk.now) c.loop-at.invariant.goes
    c.take_entry.ensures.moments

pub loop-at-preserved-then-not-was_pending : goal.loop-at-preserved-then-not-was_pending
loop-at-preserved-then-not-was_pending g c =
    record {
      goes = then_same g.met.D.Disk.laws c.args.disk.now c.loop-at.disk c.take_entry.new.disk (g.D.Disk.may_leave c.args.disk.now) c.loop-at.invariant.goes
          c.take_entry.ensures.moments;
      seen = c.take_entry.ensures.seen ∙ c.loop-at.invariant.seen;
      faults = c.in_ok-next.ensures.quiet (λ h. cc) ∙ c.loop-at.invariant.faults;
      regular = c.take_entry.ensures.regular c.loop-at.invariant.regular;
      sound = c.take_entry.ensures.sound c.loop-at.invariant.sound;
      ahead = first_ahead c.loop-at.at c.in_ok-next.next c.loop-at.device (device_view c.take_entry.new.device)
          (sym c.is_some-was_pending.ensures ∙ c.if-not-was_pending.true) (c.in_ok-next.ensures.room c.loop-at.invariant.sound);
      reached = λ told payloads stands.
          let d = device_view c.loop-at.device in
          let r = c.loop-at.invariant.reached told payloads stands in
          let n = next payloads c.end-end.result c.loop-at.at c.loop-at.behind d r c.loop-at-test.true in
          let place = subst (λ (i : Image). IsEntryAt g.J.Journal.stands c.args.log.now i c.loop-at.at n.first) (sym c.loop-at.invariant.seen)
          (entry_at g.J.Journal.stands c.args.log.now (g.D.Disk.seen c.args.disk.now) payloads c.end-end.result c.loop-at.at c.loop-at.behind d r n stands) in
          let took = c.in_ok-next.ensures.told told n.first place in
          first_on payloads c.end-end.result c.loop-at.at c.loop-at.behind c.in_ok-next.next c.loop-at.device (device_view c.take_entry.new.device) r n took.1
          took.0
          (sym c.is_some-was_pending.ensures ∙ c.if-not-was_pending.true);
    }

pub loop-at-preserved : goal.loop-at-preserved
loop-at-preserved g c =
    record {
      goes = then_same g.met.D.Disk.laws c.args.disk.now c.loop-at.disk c.take_entry.new.disk (g.D.Disk.may_leave c.args.disk.now) c.loop-at.invariant.goes
          c.take_entry.ensures.moments;
      seen = c.take_entry.ensures.seen ∙ c.loop-at.invariant.seen;
      faults = c.in_ok-next.ensures.quiet (λ h. cc) ∙ c.loop-at.invariant.faults;
      regular = c.take_entry.ensures.regular c.loop-at.invariant.regular;
      sound = c.take_entry.ensures.sound c.loop-at.invariant.sound;
      ahead = later_ahead c.loop-at.at c.in_ok-next.next c.loop-at.behind c.loop-at.device (device_view c.take_entry.new.device)
          (sym c.is_some-was_pending.ensures ∙ c.if-not-was_pending.false) c.loop-at.invariant.ahead (c.in_ok-next.ensures.room c.loop-at.invariant.sound);
      reached = λ told payloads stands.
          let d = device_view c.loop-at.device in
          let r = c.loop-at.invariant.reached told payloads stands in
          let n = next payloads c.end-end.result c.loop-at.at c.loop-at.behind d r c.loop-at-test.true in
          let place = subst (λ (i : Image). IsEntryAt g.J.Journal.stands c.args.log.now i c.loop-at.at n.first) (sym c.loop-at.invariant.seen)
          (entry_at g.J.Journal.stands c.args.log.now (g.D.Disk.seen c.args.disk.now) payloads c.end-end.result c.loop-at.at c.loop-at.behind d r n stands) in
          let took = c.in_ok-next.ensures.told told n.first place in
          later_on payloads c.end-end.result c.loop-at.at c.loop-at.behind c.in_ok-next.next c.loop-at.device (device_view c.take_entry.new.device) r n took.1
          took.0
          (sym c.is_some-was_pending.ensures ∙ c.if-not-was_pending.false);
    }

pub returns-then-lacks_room-clause-told : goal.returns-then-lacks_room-clause-told
returns-then-lacks_room-clause-told g c told payloads stands =
    room_lacks payloads c.end-end.result c.loop-at.at c.loop-at.behind c.loop-at.device
    (c.loop-at.invariant.reached told payloads stands) c.loop-at-test.false (sym c.lacks_room.ensures ∙ c.if-lacks_room.true)

pub returns-clause-told : goal.returns-clause-told
returns-clause-told g c told payloads stands =
    has_room payloads c.end-end.result c.loop-at.at c.loop-at.behind c.loop-at.device
    (c.loop-at.invariant.reached told payloads stands) c.loop-at-test.false (sym c.lacks_room.ensures ∙ c.if-lacks_room.false)

pub returns-clause-room : goal.returns-clause-room
returns-clause-room g c =
    let past = c.loop-at-test.false in
    let same = c.end-end.ensures in
    ends_ahead (g.J.Journal.end c.args.log.now) c.loop-at.at c.loop-at.behind c.loop-at.device (omega (arith, past, same))
    (sym c.lacks_room.ensures ∙ c.if-lacks_room.false) c.loop-at.invariant.ahead
