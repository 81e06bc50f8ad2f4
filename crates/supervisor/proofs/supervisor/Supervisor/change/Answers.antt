use Rattle.std.proofs.Common.{◌<◌, Bool, List, length, ap, sym, subst, ◌∙◌}
use Rattle.std.specs.Prelude.{◌^◌}
use Rattle.components.specs.Answers.{is_steady}
use Rattle.components.specs.Changes.{changed_to, counted}
use Rattle.components.specs.Readied.{IsKept}
use Rattle.components.specs.Components.{ComponentState, Components}
use Rattle.components.specs.Whole.{AreWhole}
use Rattle.components.proofs.Changed.{changed_kept}
use Rattle.supervisor.proofs.Wholly.{items_whole}
use Rattle.supervisor.proofs.supervisor.Supervisor.change.Goals as goal

pub change_in-requires-clause-room : goal.change_in-requires-clause-room
change_in-requires-clause-room c = rw (← c.self.view_is) at c.requires.room

pub change_in-requires-clause-names : goal.change_in-requires-clause-names
change_in-requires-clause-names c = record { apart = c.self.invariant.0.names; named = c.self.invariant.0.named }

pub change_in-requires-clause-same : goal.change_in-requires-clause-same
change_in-requires-clause-same c = rw (← c.self.view_is) at c.requires.same

pub invariant_of-self : goal.invariant_of-self
invariant_of-self c =
    let i = c.self.inside in
    let w : Components = record { parts = i.slots.items; moment = i.moment; steady = i.steady } in
    let s : Bool = c.is_steady-self-inside.result in
    let e = c.change_in.ensures.changed in
    let few = subst (λ (ps : List ComponentState). length ps < 2 ^ 32) e c.change_in.ensures.few in (
      subst (λ (ps : List ComponentState). IsKept (record w { parts = ps; steady = s })) (sym e)
          (changed_kept w c.args.ready.coming c.args.failures.now s c.self.invariant.0 c.change_in.ensures.coming_apart few),
      c.change_in.ensures.many,
      subst AreWhole (sym e) (items_whole (counted 0 c.args.failures.now c.args.ready.coming) i.slots.items c.self.invariant.2),
    )

pub returns : goal.returns
returns c =
    let i = c.self.inside in
    let w : Components = record { parts = i.slots.items; moment = i.moment; steady = i.steady } in
    let s : Bool = c.is_steady-self-inside.result in
    ap (λ (ps : List ComponentState). record w { parts = ps; steady = s }) c.change_in.ensures.changed
    ∙ ap (λ (b : Bool). changed_to c.args.ready.coming c.args.failures.now b w) c.is_steady-self-inside.ensures
    ∙ ap (changed_to c.args.ready.coming c.args.failures.now (is_steady c.args.mode)) c.self.view_is
