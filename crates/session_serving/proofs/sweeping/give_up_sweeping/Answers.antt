use Rattle.session_serving.proofs.Swept.{disk_gives}
use Rattle.session_serving.proofs.sweeping.give_up_sweeping.Goals as goal

pub returns-clause-trace : goal.returns-clause-trace
returns-clause-trace g c = λ p d serving.
    let t = c.give_up_serving.ensures.trace p d serving in
    (t.0, t.1, λ rose. t.2 c.say.result rose (disk_gives c.say.result c.say.ensures.answers))
