use Rattle.std.proofs.Common.{ℕ, All, ◌<◌, subst, sym}
use Rattle.host_children.proofs.Numbers.{numbers_left}
use Rattle.host_children.proofs.runner.ShellRunner.end_child.Goals as goal

pub invariant_of-self : goal.invariant_of-self
invariant_of-self g c = record {
  in_time = c.args.self.now.in_time;
  past = c.args.self.now.past;
  numbered = subst (λ ns. All (λ (m : ℕ). m < c.args.self.now.next) ns) (sym c.remove_numbered.ensures.numbers)
      (numbers_left c.args.child c.args.self.now.next _ c.args.self.now.numbered);
}
