use Rattle.fleet_core.proofs.Lasting.{known_is_kept, kept_is_sent, kept_stays, known_stays}
use Rattle.fleet_core.proofs.Rising.{taken_revisions_rise, taken_was_sent}
use Rattle.fleet_core.proofs.laws.fleet_laws.Goals as goal

pub returns : goal.returns
returns c = record {
  rises = taken_revisions_rise;
  sent = taken_was_sent;
  known_is_kept = known_is_kept;
  kept_is_sent = kept_is_sent;
  kept_stays = kept_stays;
  known_stays = known_stays;
}
