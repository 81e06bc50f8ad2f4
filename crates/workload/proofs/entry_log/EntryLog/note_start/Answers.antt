use Rattle.step_runner.specs.declared.entries.Seen.TheVariants as seen
use Rattle.workload.proofs.entry_log.EntryLog.note_start.Goals as goal

pub returns : goal.returns
returns c = c.note_made.ensures (seen.Started c.args.child c.args.command.now) c.started-seen.ensures
