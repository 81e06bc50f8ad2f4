use Rattle.std.proofs.Common.{◌≡◌, ◌∙◌, ◌<◌, ◌≤◌, ℕ, List, All, Contains, IfSome, ap, arith, map, subst, sym}
use Rattle.host_children.proofs.runner.ShellRunner.look.Goals as goal

pub invariant_of-self : goal.invariant_of-self
invariant_of-self g c = record {
  in_time = c.moment_at-self.ensures.bound;
  past = omega (arith, c.moment_at-self.ensures.later, c.requires.least.0, c.args.self.now.past);
  numbered = subst (λ ns. All (λ (m : ℕ). m < c.args.self.now.next) ns) (sym c.look_at.ensures) c.args.self.now.numbered;
}

pub invariant_of-self-else-is_none : goal.invariant_of-self-else-is_none
invariant_of-self-else-is_none g c = record {
  in_time = c.args.self.now.in_time;
  past = c.args.self.now.past;
  numbered = subst (λ ns. All (λ (m : ℕ). m < c.args.self.now.next) ns) (sym c.look_at.ensures) c.args.self.now.numbered;
}

pub returns-else-is_none-clause-lived : goal.returns-else-is_none-clause-lived
returns-else-is_none-clause-lived g c =
    subst (λ ns. IfSome c.first_ended-ended.result (λ e. Contains ns e.0)) (ap (map (λ r. r.number)) c.as_slice-2.ensures.value ∙ c.look_at.ensures)
    c.first_ended-ended.ensures.lived

pub returns-then-is_some-clause-lived : goal.returns-then-is_some-clause-lived
returns-then-is_some-clause-lived g c =
    subst (λ ns. IfSome c.first_ended-untold.result (λ e. Contains ns e.0)) (ap (map (λ r. r.number)) c.as_slice.ensures.value)
    c.first_ended-untold.ensures.lived
