use Rattle.std.proofs.Common.{false}
use Rattle.step_runner.specs.declared.entries.Seen.TheVariants as seen
use Rattle.workload.proofs.entry_log.EntryLog.note_absent_program.Goals as goal

pub returns : goal.returns
returns c = c.note_made.ensures (seen.OnPath c.args.word.now false) c.absent_program-seen.ensures
