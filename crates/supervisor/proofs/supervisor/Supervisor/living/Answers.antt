use Rattle.std.proofs.Common.{List, sym, subst}
use Rattle.components.specs.Answers.{living_numbers}
use Rattle.components.specs.Readied.{AreApart}
use Rattle.components.specs.Components.{Components, ComponentState}
use Rattle.components.specs.Numbers.{IsNumberAt}
use Rattle.components.proofs.Numbers.{living_is}
use Rattle.supervisor.proofs.supervisor.Supervisor.living.Goals as goal

pub living_at-requires : goal.living_at-requires
living_at-requires c = subst (λ (ps : List ComponentState). AreApart (living_numbers ps)) (sym c.as_slice.ensures.value) c.self.invariant.0.apart

pub returns : goal.returns
returns c =
    let i = c.self.inside in
    let w : Components = record { parts = i.slots.items; moment = i.moment; steady = i.steady } in
    rw (← c.self.view_is) (living_is w c.args.at c.living_at.result
    (subst (λ (ps : List ComponentState). IsNumberAt (living_numbers ps) c.args.at c.living_at.result) c.as_slice.ensures.value c.living_at.ensures))
