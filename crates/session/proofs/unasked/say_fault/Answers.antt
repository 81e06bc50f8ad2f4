use Rattle.std.specs.Prelude.{ℕ, List, ◌++◌, codes}
use Rattle.std.proofs.Common.{ap}
use Rattle.local_deploy.specs.Reasons.{reason_of}
use Rattle.session.proofs.Printing.{reason_joined, says_as}
use Rattle.session.specs.Unasked.{said_of}
use Rattle.session.proofs.unasked.say_fault.Goals as goal

pub returns-clause-says : goal.returns-clause-says
returns-clause-says g c =
    let word = c.reason.result.0.now in
    let space = c.reason.result.1.now in
    let field = c.reason.result.2.now in
    says_as (g.K.Sink.held c.args.sink.now) (g.K.Sink.held c.say.new.sink) c.say.result
    (codes "refused 2 local " ++ (word ++ (space ++ (field ++ codes "\n"))))
    (said_of (codes "refused 2 local ") (reason_of c.args.fault.now))
    (ap (λ (l : List ℕ). codes "refused 2 local " ++ l) (reason_joined word space field (reason_of c.args.fault.now) c.reason.ensures)) c.say.ensures.says
