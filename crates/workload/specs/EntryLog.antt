-- What a log of entries tells.
use Rattle.std.specs.Prelude.{List, Option, Some, None, if◌then◌else◌}
use Rattle.step_runner.specs.declared.entries.RunnerEntry.{RunnerEntry}
use Rattle.step_runner.specs.Entries.{Told}
use Rattle.workload.specs.declared.entry_log.EntryLog.{EntryLog}

-- the entries for which there was memory up to the first one without it
abbrev pub log_kept : EntryLog → List RunnerEntry
log_kept l = l.entries

abbrev pub log_list : EntryLog → Option (List RunnerEntry)
log_list l = if l.is_told then Some (log_kept l) else None

abbrev pub log_told : EntryLog → Told
log_told l = record { list = log_list l; moment = l.moment; asked = l.asked }
