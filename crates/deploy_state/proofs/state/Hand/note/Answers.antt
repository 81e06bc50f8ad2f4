use Rattle.std.proofs.Common.{◌≡◌, ◌≤◌, ℕ, List, [], length, take, sym, subst, arith}
use Rattle.std.proofs.lemmas.List.{length-take-le}
use Rattle.gate_log.specs.Journal.{reads_behind}
use Rattle.device.specs.Devices.{Device, device_view}
use Rattle.device.specs.Lawful.{applied}
use Rattle.device.specs.Spares.{IsSpareOf}
use Rattle.device.specs.declared.spare.Spare.{Spare}
use Rattle.deploy_state.specs.States.{device_of}
use Rattle.deploy_state.proofs.Meaning.{Reaches, of_entry, means_more, room_more, takes_of, fits, fits_in, next_in, reaches_more, has_entry, append_rose}
use Rattle.deploy_state.proofs.Sparing.{spare_stays, may_as}
use Rattle.deploy_state.proofs.Handing.{handed}
use Rattle.deploy_state.proofs.state.Hand.note.Goals as goal

sized : (into : List ℕ) (n : ℕ) → length into ≡ 1024 → n ≤ 160 → length (take n into) ≡ n
sized into n long small = length-take-le n into (omega (arith, long, small))

pub append-requires-clause-first : goal.append-requires-clause-first
append-requires-clause-first g c = λ is_modelled on.
    let h = c.requires.hand in
    let image = g.D.Disk.seen c.args.disk.now in
    let behind = reads_behind g.met.D.Disk.laws g.J.Journal.stands c.args.self.now.log c.args.disk.now h.payloads h.behind is_modelled in
    let laws = g.met.J.Journal.laws in
    absurd (has_entry h.payloads (device_of c.args.self.now) h.origin (h.means is_modelled).0
    (laws.one image h.payloads [] (laws.holds c.args.self.now.log image h.payloads behind) (laws.holds c.args.self.now.log image [] on)))

pub returns-in-Ok-clause-moments : goal.returns-in-Ok-clause-moments
returns-in-Ok-clause-moments g c = λ r mark.
    let w = c.write_mark-size in
    let h = c.requires.hand in
    let d = device_of c.args.self.now in
    let p = take w.result w.new.into in
    let may = c.requires.may in
    let spelled = w.ensures.spelled r mark in
    let allowed = may_as d c.args.mark may.0 r may.1 mark may.2 in
    of_entry g.met.D.Disk.laws g.J.Journal.files g.J.Journal.entries c.args.disk.now c.append.new.disk h.payloads p d (applied d r) h.means
    (λ told. (
      means_more h.payloads p d (applied d r) (h.means told).0 (takes_of d p r spelled allowed),
      room_more h.payloads p d c.args.mark r spelled mark
          (h.means told).1,
    ))
    (c.append.ensures.any_moment h.payloads h.behind)

pub returns-in-Err-clause-moments : goal.returns-in-Err-clause-moments
returns-in-Err-clause-moments g c = λ r mark.
    let w = c.write_mark-size in
    let h = c.requires.hand in
    let d = device_of c.args.self.now in
    let p = take w.result w.new.into in
    let may = c.requires.may in
    let spelled = w.ensures.spelled r mark in
    let allowed = may_as d c.args.mark may.0 r may.1 mark may.2 in
    of_entry g.met.D.Disk.laws g.J.Journal.files g.J.Journal.entries c.args.disk.now c.append.new.disk h.payloads p d (applied d r) h.means
    (λ told. (
      means_more h.payloads p d (applied d r) (h.means told).0 (takes_of d p r spelled allowed),
      room_more h.payloads p d c.args.mark r spelled mark
          (h.means told).1,
    ))
    (c.append.ensures.any_moment h.payloads h.behind)

pub returns-in-Ok-clause-hand : goal.returns-in-Ok-clause-hand
returns-in-Ok-clause-hand g c =
    let w = c.write_mark-size in
    let h = c.requires.hand in
    let may = c.requires.may in
    handed (g.D.Disk.is_modelled) (g.D.Disk.may_leave) (g.J.Journal.stands) (g.J.Journal.end) c.args.self.now.log c.append.new.self c.args.disk.now
    c.append.new.disk
    (device_of c.args.self.now) _ c.args.mark may.0 (take w.result w.new.into) h may.1 may.2 (w.ensures.spelled may.0 may.1)
    (c.apply_mark.ensures.applied may.0 may.1)
    (c.in-Ok.ensures.added h.payloads h.behind) c.in-Ok.ensures.place

pub returns-in-Ok-clause-spare : goal.returns-in-Ok-clause-spare
returns-in-Ok-clause-spare g c = λ kept.
    let d = device_of c.args.self.now in
    let may = c.requires.may in
    subst (λ (s : Spare). IsSpareOf s (device_view c.apply_mark.new.self)) (sym (c.apply_mark.ensures.kept kept))
    (subst (λ (e : Device). IsSpareOf c.args.self.now.spare e) (sym (c.apply_mark.ensures.applied may.0 may.1))
    (spare_stays c.args.self.now.spare d c.args.mark may.0 kept may.1 c.requires.spare))

pub returns-in-Err-clause-cause : goal.returns-in-Err-clause-cause
returns-in-Err-clause-cause g c =
    let w = c.write_mark-size in
    let h = c.requires.hand in
    let may = c.requires.may in
    let size = sized w.new.into w.result w.array_long w.ensures.small.1 in
    let room = fits (g.J.Journal.end c.args.self.now.log) (device_of c.args.self.now) c.args.mark may.0 h.room h.sound may.1 may.2 in
    record {
      later = c.append.ensures.later;
      failed = append_rose (g.D.Disk.faults c.args.disk.now) (g.D.Disk.faults c.append.new.disk) c.in-Err.field-0
          (λ is. c.in-Err.ensures.cause is)
          (λ at is. let full = (c.in-Err.ensures.full at).0 is in omega (arith, full.1, room, size, w.ensures.small.1));
    }

pub returns-in-Ok-clause-spared : goal.returns-in-Ok-clause-spared
returns-in-Ok-clause-spared g c = λ told ready.
    let w = c.write_mark-size in
    let h = c.requires.hand in
    let may = c.requires.may in
    let size = sized w.new.into w.result w.array_long w.ensures.small.1 in
    let room = fits_in _ (g.J.Journal.end c.args.self.now.log) (device_of c.args.self.now) c.args.mark may.0 ready h.sound may.1 may.2 in
    c.append.ensures.fits told (omega (arith, room, size, w.ensures.small.1))

pub returns-in-Err-clause-spared : goal.returns-in-Err-clause-spared
returns-in-Err-clause-spared g c = λ told ready.
    let w = c.write_mark-size in
    let h = c.requires.hand in
    let may = c.requires.may in
    let size = sized w.new.into w.result w.array_long w.ensures.small.1 in
    let room = fits_in _ (g.J.Journal.end c.args.self.now.log) (device_of c.args.self.now) c.args.mark may.0 ready h.sound may.1 may.2 in
    c.append.ensures.fits told (omega (arith, room, size, w.ensures.small.1))

pub returns-in-Ok-clause-ready : goal.returns-in-Ok-clause-ready
returns-in-Ok-clause-ready g c = λ told ready.
    let w = c.write_mark-size in
    let h = c.requires.hand in
    let may = c.requires.may in
    let d = device_of c.args.self.now in
    let before = g.J.Journal.room c.args.self.now.log (g.D.Disk.seen c.args.disk.now) in
    let after = g.J.Journal.room c.append.new.self (g.D.Disk.seen c.append.new.disk) in
    let next = g.J.Journal.end c.append.new.self in
    let there = next_in before (g.J.Journal.end c.args.self.now.log) next d (take w.result w.new.into) c.args.mark may.0 ready h.sound may.1 may.2
    (w.ensures.spelled may.0 may.1) c.in-Ok.ensures.place in
    subst (λ (e : Device). Reaches after next e) (sym (c.apply_mark.ensures.applied may.0 may.1))
    (reaches_more before after next (applied d may.0) (c.in-Ok.ensures.room told) there)
