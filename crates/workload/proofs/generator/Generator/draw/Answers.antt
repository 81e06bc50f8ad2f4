use Rattle.std.proofs.Common.{refl, ◌*◌, ◌^◌}
use Rattle.std.proofs.Math.Nat.{mod-add-mod}
use Rattle.workload.specs.Generator.{multiplier, increment, next_state, next_draw}
use Rattle.workload.proofs.generator.Generator.draw.Goals as goal

pub returns-clause-state : goal.returns-clause-state
unfolding next_state
returns-clause-state c = mod-add-mod (c.args.self.now.state * multiplier) (2 ^ 64) increment

pub returns-clause-value : goal.returns-clause-value
unfolding next_draw
returns-clause-value c = rw (returns-clause-state c) refl
