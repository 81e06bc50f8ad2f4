use Rattle.std.specs.Prelude.{ℕ, List, ◌++◌, codes}
use Rattle.std.proofs.Common.{ap}
use Rattle.deploy_state.specs.States.{loaded_device}
use Rattle.session_boots.specs.Lines.{id_of}
use Rattle.session.proofs.Printing.{says_as}
use Rattle.session.proofs.ends.say_again.Goals as goal

pub returns-clause-says : goal.returns-clause-says
returns-clause-says g c =
    let word = c.args.word.now in
    says_as (g.K.Sink.held c.args.sink.now) (g.K.Sink.held c.say.new.sink) c.say.result (word ++ (c.pending_id.result.now ++ codes "\n"))
    (word ++ (id_of (loaded_device c.args.state.now) ++ codes "\n"))
    (ap (λ (l : List ℕ). word ++ (l ++ codes "\n")) c.pending_id.ensures) c.say.ensures.says
