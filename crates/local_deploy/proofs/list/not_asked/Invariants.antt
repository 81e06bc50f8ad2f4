use Rattle.std.proofs.Common.{take, option_map}
use Rattle.local_deploy.specs.Documents.{IsLeastOf, IsNotAsked}
use Rattle.local_deploy.specs.Lists.{asked_in}
use Rattle.local_deploy.proofs.list.not_asked.Given as goal

abbrev pub invariant-loop-name : goal.invariant-loop-name
invariant-loop-name l = IsLeastOf (IsNotAsked (asked_in l.asked) (take l.name-index l.remove)) (option_map (λ n. n.now) l.least)
