use Rattle.std.proofs.Common.{◌≤◌, arith, not}
use Rattle.std.proofs.lemmas.Result.{IfOk-weaker}
use Rattle.components.specs.Answers.{standing_count}
use Rattle.components.specs.Readied.{Readied}
use Rattle.components.specs.Components.{ComponentState, is_over}
use Rattle.supervisor.proofs.Readies.{filter_few}
use Rattle.supervisor.proofs.supervisor.Supervisor.ready.Goals as goal

pub returns-clause-room : goal.returns-clause-room
returns-clause-room c =
    let f = filter_few (λ (p : ComponentState). not (is_over p)) c.self.inside.slots.items in
    IfOk-weaker c.make_ready.result _ (λ (r : Readied). standing_count c.args.self.now ≤ r.room) (λ r h. rw (← c.self.view_is) (omega (arith, f, h)))
    c.make_ready.ensures.room
