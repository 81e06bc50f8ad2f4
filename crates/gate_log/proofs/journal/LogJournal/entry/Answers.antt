use Rattle.std.proofs.Common.{◌∙◌, ap, sym, arith, length}
use Rattle.gate_log.proofs.Behind.{if_ok, entry_there}
use Rattle.gate_log.proofs.journal.LogJournal.entry.Goals as goal

pub entry_in-requires : goal.entry_in-requires
entry_in-requires g c = record {
  place = λ told.
      let h = c.requires.place told in
      let e = entry_there _ c.args.self.now (g.D.Disk.seen c.args.disk.now) c.args.at h.0 h.1 in
      (e.0, e.2);
}

pub returns-clause-told : goal.returns-clause-told
returns-clause-told g c told payload is =
    let e = entry_there _ c.args.self.now (g.D.Disk.seen c.args.disk.now) c.args.at payload is in
    if_ok _ _ c.entry_in.result (λ r h. (h.0 ∙ e.1, omega (arith, h.1, ap length e.1))) (c.entry_in.ensures.told told e.0 e.2)
