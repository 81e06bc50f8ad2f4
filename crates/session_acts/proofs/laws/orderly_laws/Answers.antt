use Rattle.session_acts.proofs.laws.orderly_laws.Goals as goal

pub returns : goal.returns
returns c = record {
  keeps_moved = c.events_keep_order.ensures.moves;
  owner_moved = c.moves_keep.ensures.owners;
  keeps_started = c.events_keep_order.ensures.starts;
  owner_started = c.starts_keep.ensures.owners;
  keeps_refused = c.events_keep_order.ensures.refusals;
  owner_refused = c.refusals_keep.ensures.owners;
  keeps_skipped = c.events_keep_order.ensures.skips;
  owner_skipped = c.skips_keep.ensures.owners;
  keeps_killed = c.events_keep_order.ensures.kills;
  owner_killed = c.children_go_alone.ensures.kills;
  keeps_ended = c.events_keep_order.ensures.ends;
  owner_ended = c.children_go_alone.ensures.ends;
  keeps_told = c.events_keep_order.ensures.tellings;
  owner_heard = c.tellings_keep.ensures.owners;
  keeps_later = c.events_keep_order.ensures.time;
}
