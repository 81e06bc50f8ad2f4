use Rattle.nucleus_top.proofs.Lasting.{runs_close_more, runs_lose_nothing, runs_take}
use Rattle.nucleus_top.proofs.laws.nothing_is_lost.Goals as goal

pub returns-clause-kept : goal.returns-clause-kept
returns-clause-kept c = runs_lose_nothing

pub returns-clause-taken : goal.returns-clause-taken
returns-clause-taken c = runs_take

pub returns-clause-closes : goal.returns-clause-closes
returns-clause-closes c = runs_close_more
