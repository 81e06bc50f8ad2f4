use Rattle.law_whole.proofs.Changing.{changes_keep_group}
use Rattle.law_whole.proofs.laws.changes_keep_groups.Goals as goal

pub returns : goal.returns
returns c = changes_keep_group
