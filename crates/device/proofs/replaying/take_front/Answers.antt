use Rattle.std.proofs.Common.{◌≡◌, ◌∙◌, ◌<◌, ◌≤◌, ◌+◌, ◌⊎◌, inl, inr, List, ℕ, Err, Ok, refl, sym, subst, arith}
use Rattle.std.proofs.lemmas.Bool.{false≢true}
use Rattle.std.proofs.lemmas.Result.{err_from_is_err_and}
use Rattle.disk_model.specs.Disk.{Image}
use Rattle.disk_model.specs.Moments.{then_same, at_start}
use Rattle.gate_log.specs.Place.{IsEntryAt}
use Rattle.device.specs.Rebuilt.{building_view, FinishOutcome}
use Rattle.device.proofs.Walking.{ahead, walks_at, walked_on, entry_fault, front_taken, stops}
use Rattle.device.proofs.replaying.take_front.Goals as goal
use Rattle.device.proofs.replaying.take_front.Goals.{then-loop-building-test+else-at-end, else-loop-building-test}

pub loop-building-init : goal.loop-building-init
loop-building-init g c = record {
  goes = at_start g.met.D.Disk.laws c.args.disk.now;
  seen = refl;
  faults = refl;
  orderly = c.requires.orderly;
  walked = c.requires.walked;
}

pub take_front_entry-requires-clause-place : goal.take_front_entry-requires-clause-place
take_front_entry-requires-clause-place g c told =
    let image = g.D.Disk.seen c.args.disk.now in
    let payloads = (c.requires.stands told).0 in
    let on = (c.requires.stands told).1 in
    let b = building_view c.loop-building.building in
    let w = c.loop-building.invariant.walked told payloads on in
    let a = ahead payloads c.end-end.result c.loop-building.at b w (c.end-end.ensures ∙ g.met.J.Journal.laws.ends c.args.log.now image payloads on)
    c.if-at-end.true in (
      a.first,
      subst (λ (i : Image). IsEntryAt g.J.Journal.stands c.args.log.now i c.loop-building.at a.first) (sym c.loop-building.invariant.seen)
          (walks_at g.J.Journal.stands c.args.log.now image payloads c.loop-building.at b w a on),
    )

pub returns-in_err-at-clause-told : goal.returns-in_err-at-clause-told
returns-in_err-at-clause-told g c told payloads stands =
    let image = g.D.Disk.seen c.args.disk.now in
    let b = building_view c.loop-building.building in
    let w = c.loop-building.invariant.walked told payloads stands in
    let a = ahead payloads c.end-end.result c.loop-building.at b w (c.end-end.ensures ∙ g.met.J.Journal.laws.ends c.args.log.now image payloads stands)
    c.if-at-end.true in
    let place = subst (λ (i : Image). IsEntryAt g.J.Journal.stands c.args.log.now i c.loop-building.at a.first) (sym c.loop-building.invariant.seen)
    (walks_at g.J.Journal.stands c.args.log.now image payloads c.loop-building.at b w a stands) in
    let p = err_from_is_err_and c.from_residual.result c.from_residual.ensures.1 in
    rw (p.1, p.2) (entry_fault payloads c.loop-building.at b (building_view c.take_front_entry.new.building) w a c.in_err-at.field-0.0
    (c.lacks_some.ensures.0 c.loop-building-test.true) (c.in_err-at.ensures.told told a.first place))

pub returns-in_err-at-clause-moments : goal.returns-in_err-at-clause-moments
returns-in_err-at-clause-moments g c =
    then_same g.met.D.Disk.laws c.args.disk.now c.loop-building.disk c.take_front_entry.new.disk (g.D.Disk.may_leave c.args.disk.now)
    c.loop-building.invariant.goes c.take_front_entry.ensures.moments

pub loop-building-preserved : goal.loop-building-preserved
loop-building-preserved g c =
    record {
      goes = then_same g.met.D.Disk.laws c.args.disk.now c.loop-building.disk c.take_front_entry.new.disk (g.D.Disk.may_leave c.args.disk.now)
          c.loop-building.invariant.goes c.take_front_entry.ensures.moments;
      seen = c.take_front_entry.ensures.seen ∙ c.loop-building.invariant.seen;
      faults = c.in_ok-at.ensures.quiet (λ h. cc) ∙ c.loop-building.invariant.faults;
      orderly = c.in_ok-at.ensures.orderly;
      walked = λ told payloads stands.
          let image = g.D.Disk.seen c.args.disk.now in
          let b = building_view c.loop-building.building in
          let w = c.loop-building.invariant.walked told payloads stands in
          let a = ahead payloads c.end-end.result c.loop-building.at b w (c.end-end.ensures ∙ g.met.J.Journal.laws.ends c.args.log.now image payloads stands)
          c.if-at-end.true in
          let place = subst (λ (i : Image). IsEntryAt g.J.Journal.stands c.args.log.now i c.loop-building.at a.first) (sym c.loop-building.invariant.seen)
          (walks_at g.J.Journal.stands c.args.log.now image payloads c.loop-building.at b w a stands) in
          walked_on payloads c.loop-building.at c.in_ok-at.at b (building_view c.take_front_entry.new.building) w a
          (c.in_ok-at.ensures.told told a.first place);
    }

pub returns-in-Ok-clause-told : goal.returns-in-Ok-clause-told
returns-in-Ok-clause-told g c told payloads stands =
    front_taken payloads c.loop-building.at (building_view c.loop-building.building) c.in-Ok.device (c.loop-building.invariant.walked told payloads stands)
    c.loop-building.invariant.orderly c.in-Ok.ensures.finished

pub returns-in-Err-NotSound-clause-told : goal.returns-in-Err-NotSound-clause-told
returns-in-Err-NotSound-clause-told g c told payloads stands =
    let b = building_view c.loop-building.building in
    let bad = subst (λ f. FinishOutcome b (Err f)) c.in-Err-NotSound.field-0-is c.in-Err-NotSound.ensures.finished in
    let end : (0 < b.groups_to_come + b.items_to_come + b.closed_to_come → ⊥) ⊎ (c.end-end.result ≤ c.loop-building.at) = elim c.loop-building-test.branch [
      | then-loop-building-test+else-at-end w ↦ inr w.if-at-end.false
      | else-loop-building-test w ↦ inl (λ lt. false≢true (sym w.loop-building-test.false ∙ c.lacks_some.ensures.1 lt))
    ] in (
      refl,
      stops payloads c.end-end.result c.loop-building.at b (c.loop-building.invariant.walked told payloads stands)
          (c.end-end.ensures ∙ g.met.J.Journal.laws.ends c.args.log.now (g.D.Disk.seen c.args.disk.now) payloads stands) end bad,
    )
