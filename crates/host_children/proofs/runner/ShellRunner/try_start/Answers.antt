use Rattle.std.proofs.Common.{ℕ}
use Rattle.host_children.proofs.Numbers.{numbers_kept, numbers_more}
use Rattle.host_children.proofs.runner.ShellRunner.try_start.Goals as goal

pub invariant_of-self : goal.invariant_of-self
invariant_of-self g c = record {
  in_time = c.args.self.now.in_time;
  past = c.args.self.now.past;
  numbered = numbers_kept _ _ _ _ c.reserve.ensures.items c.args.self.now.numbered;
}

pub invariant_of-self-in-Break-branch-2 : goal.invariant_of-self-in-Break-branch-2
invariant_of-self-in-Break-branch-2 g c = record {
  in_time = c.args.self.now.in_time;
  past = c.args.self.now.past;
  numbered = numbers_kept _ _ _ _ c.reserve.ensures.items c.args.self.now.numbered;
}

pub invariant_of-self-in-Some : goal.invariant_of-self-in-Some
invariant_of-self-in-Some g c = record {
  in_time = c.args.self.now.in_time;
  past = c.args.self.now.past;
  numbered = numbers_more _ _ c.new.result _ _ _ c.in_ok-insert.ensures.items c.reserve.ensures.items c.new.ensures c.args.self.now.numbered;
}

pub invariant_of-self-in_default : goal.invariant_of-self-in_default
invariant_of-self-in_default g c = record {
  in_time = c.args.self.now.in_time;
  past = c.args.self.now.past;
  numbered = numbers_more _ _ c.new.result _ _ _ c.in_ok-insert.ensures.items c.reserve.ensures.items c.new.ensures c.args.self.now.numbered;
}
