use Rattle.std.proofs.Common.{◌∙◌, ap, arith, length}
use Rattle.gate_log.proofs.Behind.{if_ok, entry_there}
use Rattle.checkpoint_log.proofs.Turning.{live_entry}
use Rattle.checkpoint_log.proofs.slots.SlotsJournal.entry.Goals as goal

pub entry_in-requires : goal.entry_in-requires
entry_in-requires g c = record {
  place = λ told.
      let image = g.D.Disk.seen c.args.disk.now in
      let h = c.requires.place told in
      let e = entry_there c.slot_name.result.now c.args.self.now.live image c.args.at h.0
      (live_entry c.args.self.now image c.args.at h.0 c.slot_name.result.now c.slot_name.ensures h.1) in
      (e.0, e.2);
}

pub returns-clause-told : goal.returns-clause-told
returns-clause-told g c told payload h =
    let image = g.D.Disk.seen c.args.disk.now in
    let e = entry_there c.slot_name.result.now c.args.self.now.live image c.args.at payload
    (live_entry c.args.self.now image c.args.at payload c.slot_name.result.now c.slot_name.ensures h) in
    if_ok _ _ c.entry_in.result (λ r x. (x.0 ∙ e.1, omega (arith, x.1, ap length e.1))) (c.entry_in.ensures.told told e.0 e.2)
