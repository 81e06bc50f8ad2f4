use Rattle.std.proofs.Common.{◌∙◌, ◌≤◌, List, ℕ, refl, sym, subst, arith}
use Rattle.disk_model.specs.Disk.{Image}
use Rattle.disk_model.specs.Moments.{then_same, at_start}
use Rattle.gate_log.specs.Place.{IsEntryAt}
use Rattle.checkpoint_log.specs.Laws.{slots_laws}
use Rattle.checkpoint_log.specs.Slots.{slots_stands}
use Rattle.store_root.proofs.Counting.{ahead, counted_all, counted_on, entry_at, starts}
use Rattle.store_root.proofs.tally.count_entries.Goals as goal

pub loop-at-init : goal.loop-at-init
loop-at-init g c = record {
  goes = at_start g.met.D.Disk.laws c.args.disk.now;
  seen = refl;
  faults = refl;
  few = omega arith;
  counted = λ told payloads stands. starts payloads _ refl refl;
}

pub count_entry-requires-clause-place : goal.count_entry-requires-clause-place
count_entry-requires-clause-place g c told =
    let image = g.D.Disk.seen c.args.disk.now in
    let payloads = (c.requires.stands told).0 in
    let on = (c.requires.stands told).1 in
    let r = c.loop-at.invariant.counted told payloads on in
    let a = ahead payloads c.end-end.result c.loop-at.at c.loop-at.tally r (c.end-end.ensures ∙ slots_laws.ends c.args.log.now image payloads on)
    c.loop-at-test.true in (
      a.first,
      subst (λ (i : Image). IsEntryAt slots_stands c.args.log.now i c.loop-at.at a.first) (sym c.loop-at.invariant.seen)
          (entry_at c.args.log.now image payloads c.loop-at.at c.loop-at.tally r a on),
    )

pub returns-in_err-at-clause-moments : goal.returns-in_err-at-clause-moments
returns-in_err-at-clause-moments g c =
    then_same g.met.D.Disk.laws c.args.disk.now c.loop-at.disk c.count_entry.new.disk (g.D.Disk.may_leave c.args.disk.now) c.loop-at.invariant.goes
    c.count_entry.ensures.moments

pub loop-at-preserved : goal.loop-at-preserved
loop-at-preserved g c = record {
  goes = then_same g.met.D.Disk.laws c.args.disk.now c.loop-at.disk c.count_entry.new.disk (g.D.Disk.may_leave c.args.disk.now) c.loop-at.invariant.goes
      c.count_entry.ensures.moments;
  seen = c.count_entry.ensures.seen ∙ c.loop-at.invariant.seen;
  faults = c.in_ok-at.ensures.quiet (λ h. cc) ∙ c.loop-at.invariant.faults;
  few = c.in_ok-at.ensures.few.1;
  counted = λ told payloads stands.
      let image = g.D.Disk.seen c.args.disk.now in
      let r = c.loop-at.invariant.counted told payloads stands in
      let a = ahead payloads c.end-end.result c.loop-at.at c.loop-at.tally r (c.end-end.ensures ∙ slots_laws.ends c.args.log.now image payloads stands)
      c.loop-at-test.true in
      let place = subst (λ (i : Image). IsEntryAt slots_stands c.args.log.now i c.loop-at.at a.first) (sym c.loop-at.invariant.seen)
      (entry_at c.args.log.now image payloads c.loop-at.at c.loop-at.tally r a stands) in
      let took = c.in_ok-at.ensures.told told a.first place in
      counted_on payloads c.loop-at.at c.in_ok-at.at c.loop-at.tally c.count_entry.new.tally r a took.0 took.1 took.2;
}

pub returns-clause-told : goal.returns-clause-told
returns-clause-told g c told payloads stands =
    counted_all payloads c.end-end.result c.loop-at.at c.loop-at.tally (c.loop-at.invariant.counted told payloads stands)
    (c.end-end.ensures ∙ slots_laws.ends c.args.log.now (g.D.Disk.seen c.args.disk.now) payloads stands) c.loop-at-test.false
