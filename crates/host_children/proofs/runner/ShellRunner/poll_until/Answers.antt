use Rattle.std.proofs.Common.{◌≡◌, ◌∙◌, ◌+◌, ◌<◌, ◌≤◌, Contains, IfSome, arith, subst, sym}
use Rattle.host_children.proofs.Numbers.{gives_none, not_none}
use Rattle.host_children.proofs.runner.ShellRunner.poll_until.Goals as goal

pub returns-then-is_some-2-clause-lived : goal.returns-then-is_some-2-clause-lived
returns-then-is_some-2-clause-lived g c =
    subst (λ ns. IfSome c.look-ended-in-polling.result (λ e. Contains ns e.0)) c.polling.invariant.living c.look-ended-in-polling.ensures.lived

pub returns-then-is_some-2-clause-none : goal.returns-then-is_some-2-clause-none
returns-then-is_some-2-clause-none g c =
    not_none c.look-ended-in-polling.result (c.args.until ≤ c.look-ended-in-polling.new.self.clock) (sym c.if-is_some-2.true ∙ c.is_some-in-polling.ensures)

pub polling-smaller : goal.polling-smaller
polling-smaller g c =
    let later : c.polling.self.clock + 1 ≤ c.look-ended-in-polling.new.self.clock =
    gives_none c.look-ended-in-polling.result (c.polling.self.clock + 1 ≤ c.look-ended-in-polling.new.self.clock)
    (sym c.if-is_some-2.false ∙ c.is_some-in-polling.ensures) c.look-ended-in-polling.ensures.none in
    let before : c.polling.self.clock < c.args.until = c.polling-test.true in
    omega arith

pub returns-then-is_some-clause-none : goal.returns-then-is_some-clause-none
returns-then-is_some-clause-none g c =
    not_none c.look-ended.result (c.args.until ≤ c.look-ended.new.self.clock) (sym c.if-is_some.true ∙ c.is_some.ensures)

pub polling-preserved : goal.polling-preserved
polling-preserved g c = record {
  living = c.look-ended-in-polling.ensures.living ∙ c.polling.invariant.living;
  next = c.look-ended-in-polling.ensures.same.0 ∙ c.polling.invariant.next;
  told = c.look-ended-in-polling.ensures.same.1 ∙ c.polling.invariant.told;
  asked = c.look-ended-in-polling.ensures.same.2 ∙ c.polling.invariant.asked;
  faults = c.look-ended-in-polling.ensures.same.3 ∙ c.polling.invariant.faults;
  later = omega (arith, c.look-ended-in-polling.ensures.later, c.polling.invariant.later);
  in_time = c.look-ended-in-polling.new.self.in_time;
  past = c.look-ended-in-polling.new.self.past;
  numbered = c.look-ended-in-polling.new.self.numbered;
}
