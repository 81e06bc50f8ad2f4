use Rattle.components.proofs.Handed.{started-handed, refused-handed, skipped-handed}
use Rattle.components.proofs.laws.answers_meet_starts.Goals as goal

pub returns-clause-started : goal.returns-clause-started
returns-clause-started c = started-handed

pub returns-clause-refused : goal.returns-clause-refused
returns-clause-refused c = refused-handed

pub returns-clause-skipped : goal.returns-clause-skipped
returns-clause-skipped c = skipped-handed
