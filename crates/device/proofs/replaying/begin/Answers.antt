use Rattle.std.proofs.Common.{◌≡◌, ◌≢◌, ◌∙◌, List, ℕ, Option, Err, refl, sym, ap, subst, arith}
use Rattle.disk_model.specs.Disk.{Image}
use Rattle.disk_model.specs.Moments.{then_same, at_start}
use Rattle.gate_log.specs.Journal.{reads_behind}
use Rattle.gate_log.specs.Place.{IsEntryAt}
use Rattle.records.specs.declared.record.Record as code
use Rattle.records.specs.Layout.{Spelled}
use Rattle.records.specs.Stored.{record_view}
use Rattle.device.specs.Devices.{Device}
use Rattle.device.specs.Sound.{IsSound}
use Rattle.device.proofs.Sounding.{none_sound}
use Rattle.device.specs.Rebuilt.{building_view, BeginOutcome}
use Rattle.device.specs.Standing.{BeginsAt, IsTurn, TurnOf}
use Rattle.device.proofs.Begun.{begins_empty, begins_plain, begins_anew, first_lacks, has_first, first_at}
use Rattle.device.proofs.Walking.{walks_first}
use Rattle.device.proofs.replaying.begin.Goals as goal

pub returns-then-end-eq0-clause-told : goal.returns-then-end-eq0-clause-told
returns-then-end-eq0-clause-told g c told payloads stands =
    let ends = g.met.J.Journal.laws.ends c.args.log.now (g.D.Disk.seen c.args.disk.now) payloads stands in
    subst (λ (d : Device). BeginsAt payloads d 0) (sym c.empty.ensures) (begins_empty payloads (sym ends ∙ sym c.end.ensures ∙ c.if-end-eq0.true))

pub entry-requires : goal.entry-requires
entry-requires g c = record {
  place = λ told.
      let image = g.D.Disk.seen c.args.disk.now in
      let payloads = c.requires.open.0 in
      let on = reads_behind g.met.D.Disk.laws g.J.Journal.stands c.args.log.now c.args.disk.now payloads c.requires.open.1 told in
      let a = has_first payloads (g.J.Journal.end c.args.log.now) (g.met.J.Journal.laws.ends c.args.log.now image payloads on)
      (λ none. c.if-end-eq0.false (c.end.ensures ∙ none)) in
      (a.first, first_at g.J.Journal.stands c.args.log.now image payloads a on);
}

pub returns-in-Ok-None-clause-told : goal.returns-in-Ok-None-clause-told
returns-in-Ok-None-clause-told g c told payloads stands =
    let image = g.D.Disk.seen c.args.disk.now in
    let a = has_first payloads (g.J.Journal.end c.args.log.now) (g.met.J.Journal.laws.ends c.args.log.now image payloads stands)
    (λ none. c.if-end-eq0.false (c.end.ensures ∙ none)) in
    let read = c.in_ok-payload.ensures.told told a.first (first_at g.J.Journal.stands c.args.log.now image payloads a stands) in
    let none = subst (λ (o : Option code.Record). TurnOf c.as_slice.result.now o) c.in-Ok-None.field-0-is c.in-Ok-None.ensures in
    subst (λ (d : Device). BeginsAt payloads d 0) (sym c.empty-in-Ok-None.ensures)
    (begins_plain payloads a (λ turn. none (subst IsTurn (sym (c.as_slice.ensures ∙ read.0)) turn)))

pub take_front-requires-clause-stands : goal.take_front-requires-clause-stands
take_front-requires-clause-stands g c told =
    let payloads = c.requires.open.0 in
    let on = reads_behind g.met.D.Disk.laws g.J.Journal.stands c.args.log.now c.args.disk.now payloads c.requires.open.1 told in
    (payloads, subst (λ (i : Image). g.J.Journal.stands c.args.log.now i payloads) (sym c.entry.ensures.seen) on)

pub take_front-requires-clause-walked : goal.take_front-requires-clause-walked
take_front-requires-clause-walked g c told payloads stands =
    let turned = subst (λ (o : Option code.Record). TurnOf c.as_slice.result.now o) c.in-Ok-Some.field-0-is c.in-Ok-Some.ensures in
    let image = g.D.Disk.seen c.args.disk.now in
    let on = subst (λ (i : Image). g.J.Journal.stands c.args.log.now i payloads) c.entry.ensures.seen stands in
    let a = has_first payloads (g.J.Journal.end c.args.log.now) (g.met.J.Journal.laws.ends c.args.log.now image payloads on)
    (λ none. c.if-end-eq0.false (c.end.ensures ∙ none)) in
    let read = c.in_ok-payload.ensures.told told a.first (first_at g.J.Journal.stands c.args.log.now image payloads a on) in
    let r = record_view c.in-Ok-Some.entry in
    let spelled = subst (λ (p : List ℕ). Spelled p r) (c.as_slice.ensures ∙ read.0) turned.1 in
    walks_first payloads a.others c.in_ok-payload.next a.first r (building_view c.in-Ok.building) a.is read.1 spelled c.in-Ok.ensures.began.0
    c.in-Ok.ensures.began.1

pub returns-in-Ok-clause-told : goal.returns-in-Ok-clause-told
returns-in-Ok-clause-told g c told payloads stands =
    let turned = subst (λ (o : Option code.Record). TurnOf c.as_slice.result.now o) c.in-Ok-Some.field-0-is c.in-Ok-Some.ensures in
    let image = g.D.Disk.seen c.args.disk.now in
    let a = has_first payloads (g.J.Journal.end c.args.log.now) (g.met.J.Journal.laws.ends c.args.log.now image payloads stands)
    (λ none. c.if-end-eq0.false (c.end.ensures ∙ none)) in
    let read = c.in_ok-payload.ensures.told told a.first (first_at g.J.Journal.stands c.args.log.now image payloads a stands) in
    let turn = subst IsTurn (c.as_slice.ensures ∙ read.0) turned.0 in
    begins_anew payloads a turn c.take_front.result (c.take_front.ensures.told told payloads
    (subst (λ (i : Image). g.J.Journal.stands c.args.log.now i payloads) (sym c.entry.ensures.seen) stands))

pub returns-in-Ok-clause-moments : goal.returns-in-Ok-clause-moments
returns-in-Ok-clause-moments g c = then_same g.met.D.Disk.laws c.args.disk.now c.entry.new.disk c.take_front.new.disk (g.D.Disk.may_leave c.args.disk.now)
    c.entry.ensures.moments c.take_front.ensures.moments

pub returns-in-Err-NotSound-clause-told : goal.returns-in-Err-NotSound-clause-told
returns-in-Err-NotSound-clause-told g c told payloads stands =
    let turned = subst (λ (o : Option code.Record). TurnOf c.as_slice.result.now o) c.in-Ok-Some.field-0-is c.in-Ok-Some.ensures in
    let image = g.D.Disk.seen c.args.disk.now in
    let a = has_first payloads (g.J.Journal.end c.args.log.now) (g.met.J.Journal.laws.ends c.args.log.now image payloads stands)
    (λ none. c.if-end-eq0.false (c.end.ensures ∙ none)) in
    let read = c.in_ok-payload.ensures.told told a.first (first_at g.J.Journal.stands c.args.log.now image payloads a stands) in
    let same = c.as_slice.ensures ∙ read.0 in
    let r = record_view c.in-Ok-Some.entry in
    let bad = subst (λ f. BeginOutcome r (Err f)) c.in-Err-NotSound.field-0-is c.in-Err-NotSound.ensures.began in
    first_lacks payloads a r (subst IsTurn same turned.0) (subst (λ (p : List ℕ). Spelled p r) same turned.1) bad

pub returns-in-Ok-None-clause-sound : goal.returns-in-Ok-None-clause-sound
returns-in-Ok-None-clause-sound g c = subst IsSound (sym c.empty-in-Ok-None.ensures) none_sound
