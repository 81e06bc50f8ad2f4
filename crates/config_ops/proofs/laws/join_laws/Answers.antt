use Rattle.config_ops.specs.Join.{first, second}
use Rattle.config_ops.proofs.KeyByKey.{same_members, joins_objects, not_both}
use Rattle.config_ops.proofs.Sound.{first_keeps, second_keeps, joined_nests}
use Rattle.config_ops.proofs.laws.join_laws.Goals as goal

pub returns-clause-finite_map : goal.returns-clause-finite_map
returns-clause-finite_map c = same_members

pub returns-clause-merge : goal.returns-clause-merge
returns-clause-merge c = joins_objects second second_keeps

pub returns-clause-merge_replaces : goal.returns-clause-merge_replaces
returns-clause-merge_replaces c = not_both second

pub returns-clause-merge_nests : goal.returns-clause-merge_nests
returns-clause-merge_nests c = joined_nests second second_keeps

pub returns-clause-fill : goal.returns-clause-fill
returns-clause-fill c = joins_objects first first_keeps

pub returns-clause-fill_keeps : goal.returns-clause-fill_keeps
returns-clause-fill_keeps c = not_both first

pub returns-clause-fill_nests : goal.returns-clause-fill_nests
returns-clause-fill_nests c = joined_nests first first_keeps
