use Rattle.step_runner.specs.declared.entries.Seen.TheVariants as seen
use Rattle.workload.proofs.entry_log.EntryLog.note_refusal.Goals as goal

pub returns : goal.returns
returns c = c.note_made.ensures (seen.Refused c.args.command.now) c.refused-seen.ensures
