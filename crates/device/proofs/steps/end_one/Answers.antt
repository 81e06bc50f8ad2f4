use Rattle.std.proofs.Common.{arith}
use Rattle.device.proofs.Flags.{few_ended}
use Rattle.device.proofs.steps.end_one.Goals as goal

pub overflow_add-pending : goal.overflow_add-pending
overflow_add-pending c = let few = few_ended c.args.pending.now c.args.pending.now.few c.requires in omega (arith, few)
