use Rattle.std.proofs.Common.{false}
use Rattle.step_runner.specs.declared.entries.Seen.TheVariants as seen
use Rattle.workload.proofs.entry_log.EntryLog.note_absent_path.Goals as goal

pub returns : goal.returns
returns c = c.note_made.ensures (seen.Exists c.args.path.now false) c.absent_path-seen.ensures
