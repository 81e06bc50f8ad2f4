use Rattle.law_whole.proofs.Grouping.{kept_group_stays, other_groups_stay}
use Rattle.law_whole.proofs.laws.groups_stay.Goals as goal

pub returns-clause-kept : goal.returns-clause-kept
returns-clause-kept c = kept_group_stays

pub returns-clause-others : goal.returns-clause-others
returns-clause-others c = other_groups_stay
