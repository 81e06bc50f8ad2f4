use Rattle.std.proofs.Common.{◌∙◌, ℕ, Bool, List, IsTrue, refl, sym, ap, subst, arith}
use Rattle.gate_log.specs.Place.{place_behind}
use Rattle.gate_log.specs.Turned.{IsPut}
use Rattle.device.specs.Devices.{device_view}
use Rattle.deploy_state.proofs.Turning.{no_payloads, none_spelled}
use Rattle.deploy_state.proofs.Within.{again_within, start_within}
use Rattle.deploy_state.proofs.turn.put_front.Goals as goal

pub loop-at-init : goal.loop-at-init
loop-at-init g c =
    let d = device_view c.args.device.now in
    let none = sym (no_payloads c.args.number d) in
    record {
      put = subst (λ (l : List (List ℕ)). IsPut g.D.Disk.is_modelled g.D.Disk.seen g.J.Journal.put_there c.args.log.now c.args.disk.now l) none c.requires.put;
      put_end = c.requires.put_end ∙ ap place_behind none;
      spelled = none_spelled c.args.number d;
      stays = λ payloads behind. behind;
      moments = λ payloads behind. start_within g.met.D.Disk.laws g.J.Journal.files c.args.disk.now (λ i. g.J.Journal.entries i payloads)
          (λ i left. g.met.J.Journal.laws.holds c.args.log.now i payloads (behind.each i left));
      end = refl;
      number = refl;
      turns = refl;
      room = λ told. omega arith;
      others = λ told name other. refl;
      faults = refl;
    }

pub put_next-requires-clause-open : goal.put_next-requires-clause-open
put_next-requires-clause-open g c = (c.requires.open.0, c.loop-at.invariant.stays c.requires.open.0 c.requires.open.1)

pub put_next-requires-clause-begun : goal.put_next-requires-clause-begun
put_next-requires-clause-begun g c = subst (λ (b : Bool). IsTrue b) (sym c.loop-at.invariant.turns) c.requires.begun

pub loop-at-preserved : goal.loop-at-preserved
loop-at-preserved g c =
    let was = c.loop-at.invariant in
    let done = c.in_ok-put_next.ensures in
    record {
      put = done.put;
      put_end = done.put_end;
      spelled = done.spelled;
      stays = λ payloads behind. done.stays (λ h. cc) payloads (was.stays payloads behind);
      moments = λ payloads behind. again_within g.met.D.Disk.laws g.J.Journal.files c.args.disk.now c.loop-at.disk c.put_next.new.disk
          (λ i. g.J.Journal.entries i payloads) (was.moments payloads behind) (c.put_next.ensures.moments payloads (was.stays payloads behind));
      end = c.put_next.ensures.same.0 ∙ was.end;
      number = c.put_next.ensures.same.1 ∙ was.number;
      turns = c.put_next.ensures.same.2 ∙ was.turns;
      room = λ told. omega (arith, was.room told, done.room told);
      others = λ told name other. c.put_next.ensures.others told name other ∙ was.others told name other;
      faults = done.quiet (λ h. cc) ∙ was.faults;
    }

pub returns-in_err-put_next-clause-moments : goal.returns-in_err-put_next-clause-moments
returns-in_err-put_next-clause-moments g c payloads behind =
    let was = c.loop-at.invariant in
    again_within g.met.D.Disk.laws g.J.Journal.files c.args.disk.now c.loop-at.disk c.put_next.new.disk (λ i. g.J.Journal.entries i payloads)
    (was.moments payloads behind) (c.put_next.ensures.moments payloads (was.stays payloads behind))
