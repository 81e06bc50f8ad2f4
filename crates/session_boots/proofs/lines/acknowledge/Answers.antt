use Rattle.session_boots.proofs.Written.{accepted_joined}
use Rattle.session_boots.proofs.lines.acknowledge.Goals as goal

pub returns-clause-line : goal.returns-clause-line
returns-clause-line g c = rw (← c.id.ensures, ← accepted_joined c.id.result.now, ← c.as_str.ensures.value) c.write_pieces.ensures.bytes
