use Rattle.std.specs.Prelude.{ℕ, List, ◌++◌, codes, decimal}
use Rattle.std.proofs.Common.{ap}
use Rattle.session.proofs.Printing.{says_as}
use Rattle.session.specs.Unasked.{said_of}
use Rattle.session.proofs.unasked.say_too_many.Goals as goal

pub returns-clause-says : goal.returns-clause-says
returns-clause-says g c =
    says_as (g.K.Sink.held c.args.sink.now) (g.K.Sink.held c.say.new.sink) c.say.result
    (codes "refused 2 local TooManyLocal " ++ (c.format.result.now ++ codes "\n")) (said_of (codes "refused 2 local TooManyLocal ") (decimal c.args.count))
    (ap (λ (l : List ℕ). codes "refused 2 local TooManyLocal " ++ (l ++ codes "\n")) c.format.ensures.text) c.say.ensures.says
