use Rattle.session_startup.proofs.laws.driving_laws.Goals as goal

pub returns : goal.returns
returns c = record {
  keeps_moved = c.moves_keep.ensures.keeps;
  owner_moved = c.moves_keep.ensures.owners;
  keeps_started = c.starts_keep.ensures.keeps;
  owner_started = c.starts_keep.ensures.owners;
  keeps_refused = c.refusals_keep.ensures.keeps;
  owner_refused = c.refusals_keep.ensures.owners;
  keeps_skipped = c.skips_keep.ensures.keeps;
  owner_skipped = c.skips_keep.ensures.owners;
  keeps_killed = c.kills_keep.ensures.keeps;
  owner_killed = c.kills_keep.ensures.owners;
  keeps_ended = c.ends_keep.ensures.keeps;
  owner_ended = c.ends_keep.ensures.owners;
  keeps_told = c.tellings_keep.ensures.keeps;
  owner_heard = c.tellings_keep.ensures.owners;
  keeps_later = c.time_keeps.ensures.keeps;
}
