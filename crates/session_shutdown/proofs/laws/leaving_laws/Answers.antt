use Rattle.session_shutdown.proofs.Leaving.{moved_keeps, started_keeps, refused_keeps, skipped_keeps, killed_keeps, ended_keeps}
use Rattle.law_supervisor.proofs.Answered.{refused_owner, skipped_owner}
use Rattle.law_supervisor.proofs.Begun.{started_owns}
use Rattle.law_supervisor.proofs.Gone.{ended_owns, killed_owns}
use Rattle.law_supervisor.proofs.Moved.{moved_owner}
use Rattle.session_shutdown.proofs.laws.leaving_laws.Goals as goal

pub returns : goal.returns
returns c = record {
  keeps_moved = moved_keeps;
  owner_moved = moved_owner;
  keeps_started = started_keeps;
  owner_started = started_owns;
  keeps_refused = refused_keeps;
  owner_refused = refused_owner;
  keeps_skipped = skipped_keeps;
  owner_skipped = skipped_owner;
  keeps_killed = killed_keeps;
  owner_killed = λ n m w i. killed_owns n m w i.orderly;
  keeps_ended = ended_keeps;
  owner_ended = λ n m e w i. ended_owns n m e w i.orderly;
  keeps_later = λ m w i. record { orderly = record { sound = i.orderly.sound; differ = i.orderly.differ; names = i.orderly.names }; each = i.each };
}
