use Rattle.std.proofs.Common.{List, ℕ, sym, subst}
use Rattle.disk_model.specs.Disk.{Image}
use Rattle.gate_log.specs.Journal.{log_stands}
use Rattle.gate_log.specs.Laws.{first_there}
use Rattle.gate_log.specs.Place.{IsEntryAt}
use Rattle.test_journals.proofs.logs.first_entry.Goals as goal

pub entry-requires : goal.entry-requires
entry-requires g c = record {
  place = λ told.
      let found = c.in-Ok.ensures.told told in
      subst (λ (i : Image). (payload : List ℕ) × IsEntryAt log_stands c.in-Ok.log i 0 payload) (sym c.in-Ok.ensures.seen)
      (first_there log_stands c.in-Ok.log (g.D.Disk.seen c.args.disk.now) found.0 found.1 found.2);
}
