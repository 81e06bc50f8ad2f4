use Rattle.std.proofs.Common.{ℕ, List, [], ◌∷◌, ◌++◌, ap, length, sym, subst, refl, arith}
use Rattle.gate_log.specs.Journal.{IsBehind, reads_behind}
use Rattle.records.specs.Stored as stored
use Rattle.records.specs.Stored.{plan_view}
use Rattle.device.specs.Devices.{Device, device_view}
use Rattle.device.specs.Lawful.{applied}
use Rattle.device.specs.Spares.{IsSpareOf}
use Rattle.device.specs.declared.staged.Stage.TheVariants as stages
use Rattle.deploy_state.specs.States.{IsIn, idle_device}
use Rattle.deploy_state.proofs.Accepted.{left_few, plan_in_hand, plan_short, plan_some, spare_taken, with_plan}
use Rattle.deploy_state.proofs.Meaning.{Reaches, append_rose, has_entry, of_entry}
use Rattle.deploy_state.proofs.Turning.{place_more}
use Rattle.deploy_state.proofs.state.Idle.enter.Goals as goal

pub append-appended-requires-clause-first : goal.append-appended-requires-clause-first
append-appended-requires-clause-first g c = λ is_modelled on.
    let h = c.requires.held.0 in
    let image = g.D.Disk.seen c.args.disk.now in
    let behind = reads_behind g.met.D.Disk.laws g.J.Journal.stands c.args.self.log c.args.disk.now h.payloads h.behind is_modelled in
    let laws = g.met.J.Journal.laws in
    absurd (has_entry h.payloads (idle_device c.args.self) h.origin (h.means is_modelled).0
    (laws.one image h.payloads [] (laws.holds c.args.self.log image h.payloads behind) (laws.holds c.args.self.log image [] on)))

pub append-appended-requires-clause-some : goal.append-appended-requires-clause-some
append-appended-requires-clause-some g c = rw c.as_slice.ensures (plan_some c.args.kit.payload (plan_view c.args.kit.plan) c.requires.payload)

pub append-appended-requires-clause-fits : goal.append-appended-requires-clause-fits
append-appended-requires-clause-fits g c = rw c.as_slice.ensures (plan_short (idle_device c.args.self) c.args.kit.payload
    (plan_view c.args.kit.plan) c.requires.lawful
    c.requires.payload)

pub returns-in-Ok-clause-moments : goal.returns-in-Ok-clause-moments
returns-in-Ok-clause-moments g c =
    let h = c.requires.held.0 in
    let d = idle_device c.args.self in
    let p = c.args.kit.payload in
    let plan = plan_view c.args.kit.plan in
    of_entry g.met.D.Disk.laws g.J.Journal.files g.J.Journal.entries c.args.disk.now c.append-appended.new.disk h.payloads p d
    (applied d (stored.Accepted plan)) h.means
    (λ told.
    let behind = reads_behind g.met.D.Disk.laws g.J.Journal.stands c.args.self.log c.args.disk.now h.payloads h.behind told in
    let ends = g.met.J.Journal.laws.ends c.args.self.log (g.D.Disk.seen c.args.disk.now) h.payloads behind in
    let more = place_more h.payloads p in
    with_plan h.payloads p d plan (h.means told).0 c.requires.payload c.requires.lawful (omega (arith, ends, more, c.requires.room)))
    (rw (sym c.as_slice.ensures) (c.append-appended.ensures.any_moment h.payloads h.behind))

pub returns-in-Err-clause-moments : goal.returns-in-Err-clause-moments
returns-in-Err-clause-moments g c =
    let h = c.requires.held.0 in
    let d = idle_device c.args.self in
    let p = c.args.kit.payload in
    let plan = plan_view c.args.kit.plan in
    of_entry g.met.D.Disk.laws g.J.Journal.files g.J.Journal.entries c.args.disk.now c.append-appended.new.disk h.payloads p d
    (applied d (stored.Accepted plan)) h.means
    (λ told.
    let behind = reads_behind g.met.D.Disk.laws g.J.Journal.stands c.args.self.log c.args.disk.now h.payloads h.behind told in
    let ends = g.met.J.Journal.laws.ends c.args.self.log (g.D.Disk.seen c.args.disk.now) h.payloads behind in
    let more = place_more h.payloads p in
    with_plan h.payloads p d plan (h.means told).0 c.requires.payload c.requires.lawful (omega (arith, ends, more, c.requires.room)))
    (rw (sym c.as_slice.ensures) (c.append-appended.ensures.any_moment h.payloads h.behind))

pub returns-in-Ok-clause-held : goal.returns-in-Ok-clause-held
returns-in-Ok-clause-held g c =
    let h = c.requires.held.0 in
    let d = idle_device c.args.self in
    let p = c.args.kit.payload in
    let plan = plan_view c.args.kit.plan in
    let is = c.take_plan.ensures in
    let place = c.in-Ok.ensures.place in
    let same = ap length c.as_slice.ensures in
    let behind = subst (λ (b : List ℕ). IsBehind g.D.Disk.may_leave g.J.Journal.stands c.append-appended.new.self c.append-appended.new.disk
    (h.payloads ++ b ∷ []))
    c.as_slice.ensures (c.in-Ok.ensures.added h.payloads h.behind) in
    let hand = plan_in_hand g.D.Disk.is_modelled g.D.Disk.may_leave g.J.Journal.stands g.J.Journal.end c.args.self.log c.append-appended.new.self
    c.args.disk.now
    c.append-appended.new.disk d (device_view c.take_plan.new.self) plan p h
    c.requires.held.1 c.requires.lawful c.requires.regular c.requires.payload is behind
    (λ told.
    let on = reads_behind g.met.D.Disk.laws g.J.Journal.stands c.args.self.log c.args.disk.now h.payloads h.behind told in
    let ends = g.met.J.Journal.laws.ends c.args.self.log (g.D.Disk.seen c.args.disk.now) h.payloads on in
    let more = place_more h.payloads p in
    omega (arith, ends, more, c.requires.room))
    (omega (arith, place, c.requires.room, same)) in (
      (hand, subst (λ (e : Device). IsSpareOf c.args.kit.spare e) (sym is) (spare_taken c.args.kit.spare d plan c.requires.spare)),
      subst (λ (e : Device). IsIn stages.Booting e) (sym is) refl,
    )

pub returns-in-Err-clause-cause : goal.returns-in-Err-clause-cause
returns-in-Err-clause-cause g c = record {
  later = c.append-appended.ensures.later;
  failed = append_rose (g.D.Disk.faults c.args.disk.now) (g.D.Disk.faults c.append-appended.new.disk) c.in-Err.field-0
      (λ is. c.in-Err.ensures.cause is)
      (λ at is. let full = (c.in-Err.ensures.full at).0 is in let same = ap length c.as_slice.ensures in omega (arith, full.1, c.requires.room, same));
}

pub returns-in-Ok-clause-ready : goal.returns-in-Ok-clause-ready
returns-in-Ok-clause-ready g c = λ had told.
    let d = idle_device c.args.self in
    let plan = plan_view c.args.kit.plan in
    let place = c.in-Ok.ensures.place in
    let same = ap length c.as_slice.ensures in
    let few = left_few d c.args.kit.payload plan c.requires.held.0.sound c.requires.held.1 c.requires.lawful c.requires.payload in
    let before = had told in
    let kept = c.in-Ok.ensures.room told in
    let after = g.J.Journal.room c.append-appended.new.self (g.D.Disk.seen c.append-appended.new.disk) in
    subst (λ (e : Device). Reaches after (g.J.Journal.end c.append-appended.new.self) e) (sym c.take_plan.ensures)
    (omega (arith, place, same, few, before, kept))
