use Rattle.std.proofs.Common.{sym, subst}
use Rattle.components.specs.Readied.{IsKept}
use Rattle.components.specs.Components.{Components}
use Rattle.components.specs.Whole.{AreWhole}
use Rattle.supervisor.proofs.Goings.{event_whole}
use Rattle.components.proofs.Kept.{event_kept}
use Rattle.supervisor.proofs.Worlds.{answers_later}
use Rattle.supervisor.proofs.supervisor.Supervisor.event.Goals as goal

pub befall_in-requires-clause-answers : goal.befall_in-requires-clause-answers
befall_in-requires-clause-answers c =
    let i = c.self.inside in
    let w : Components = record { parts = i.slots.items; moment = i.moment; steady = i.steady } in
    answers_later w c.args.moment c.args.event (rw (← c.self.view_is) at c.requires.answers)

pub befall_in-requires-clause-names : goal.befall_in-requires-clause-names
befall_in-requires-clause-names c = record { apart = c.self.invariant.0.names; named = c.self.invariant.0.named }

pub invariant_of-self : goal.invariant_of-self
invariant_of-self c =
    let i = c.self.inside in
    let w : Components = record { parts = i.slots.items; moment = i.moment; steady = i.steady } in
    let q = rw (← c.self.view_is) at c.requires.answers in
    let l = rw (← c.self.view_is) at c.requires.late in (
      subst IsKept (sym c.befall_in.ensures.noticed) (event_kept w c.args.event c.args.moment c.self.invariant.0 l c.requires.in_time q
          c.befall_in.ensures.short),
      c.befall_in.ensures.many,
      subst (λ (v : Components). AreWhole v.parts) (sym c.befall_in.ensures.noticed)
          (event_whole w c.args.event c.args.moment c.self.invariant.0.apart c.self.invariant.2),
    )
