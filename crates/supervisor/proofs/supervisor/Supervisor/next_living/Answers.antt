use Rattle.std.proofs.Common.{◌∙◌, List, ap}
use Rattle.components.specs.Answers.{living_numbers}
use Rattle.components.specs.Numbers.{least_above}
use Rattle.components.specs.Components.{Components, ComponentState}
use Rattle.components.proofs.Numbers.{next_living}
use Rattle.supervisor.proofs.supervisor.Supervisor.next_living.Goals as goal

pub returns : goal.returns
returns c =
    let i = c.self.inside in
    let w : Components = record { parts = i.slots.items; moment = i.moment; steady = i.steady } in
    rw (← c.self.view_is) (next_living w c.args.last c.next_number.result
    (c.next_number.ensures ∙ ap (λ (ps : List ComponentState). least_above c.args.last (living_numbers ps)) c.as_slice.ensures.value))
