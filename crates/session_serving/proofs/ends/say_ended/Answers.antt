use Rattle.std.specs.Prelude.{ℕ, List, ◌++◌, codes}
use Rattle.std.proofs.Common.{ap}
use Rattle.session.proofs.Printing.{says_as}
use Rattle.session_serving.specs.Served.{ended_line}
use Rattle.session_serving.proofs.ends.say_ended.Goals as goal

pub returns-clause-says : goal.returns-clause-says
returns-clause-says g c =
    says_as (g.K.Sink.held c.args.sink.now) (g.K.Sink.held c.say.new.sink) c.say.result (codes "ended 17 " ++ (c.format.result.now ++ codes "\n"))
    (ended_line c.args.turns) (ap (λ (l : List ℕ). codes "ended 17 " ++ (l ++ codes "\n")) c.format.ensures.text) c.say.ensures.says
