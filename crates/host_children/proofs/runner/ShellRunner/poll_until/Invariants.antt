use Rattle.std.proofs.Common.{◌-◌, ◌≡◌, ◌<◌, ◌≤◌, ◌^◌, ℕ, All, map}
use Rattle.host_children.proofs.runner.ShellRunner.poll_until.Given as goal

abbrev pub invariant-polling : goal.invariant-polling
invariant-polling g l = record {
  living : map (λ c. c.number) l.self.children.items ≡ map (λ c. c.number) l.fn.self.children.items;
  next : l.self.next ≡ l.fn.self.next;
  told : l.self.told ≡ l.fn.self.told;
  asked : l.self.asked ≡ l.fn.self.asked;
  faults : l.self.faults ≡ l.fn.self.faults;
  later : l.fn.self.clock ≤ l.self.clock;
  in_time : l.self.clock < 2 ^ 62;
  past : l.self.told ≤ l.self.clock;
  numbered : All (λ (c : ℕ). c < l.self.next) (map (λ c. c.number) l.self.children.items);
}

abbrev pub decreases-polling : goal.decreases-polling
decreases-polling g l = l.until - l.self.clock
