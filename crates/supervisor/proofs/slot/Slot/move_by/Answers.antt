use Rattle.std.proofs.Common.{refl, sym, ◌∙◌, ap, false, Bool}
use Rattle.std.specs.Prelude.{◌&&◌, if◌then◌else◌}
use Rattle.lifecycle.specs.Life.{Life}
use Rattle.components.specs.Components.{ComponentState, is_again}
use Rattle.components.specs.Lives.{lived}
use Rattle.components.specs.Rows.{next_of, owed_after}
use Rattle.components.proofs.Lived.{fresh, moved, still_kept, lived_none, no_row, succeeds_same, completed_same}
use Rattle.supervisor.proofs.slot.Slot.move_by.Goals as goal

pub returns-then-not-awaits : goal.returns-then-not-awaits
returns-then-not-awaits c =
    let i = c.self.inside in
    let p : ComponentState = record {
      fitted = i.fitted;
      life = i.life;
      children = i.children;
      handed = i.handed;
      owed = i.owed;
      stop = i.stop;
      next =
          next_of i.fitted i.next;
    } in
    sym c.self.view_is ∙ sym (lived_none c.args.steady c.args.event p (no_row i.life c.args.event false refl c.if-not-awaits.ensures.row)) ∙ ap
    (λ (q : ComponentState). lived c.args.steady c.args.event q) c.self.view_is

pub take_where-requires-clause-stopped : goal.take_where-requires-clause-stopped
take_where-requires-clause-stopped c =
    let i = c.self.inside in
    let p : ComponentState = record {
      fitted = i.fitted;
      life = i.life;
      children = i.children;
      handed = i.handed;
      owed = i.owed;
      stop = i.stop;
      next =
          next_of i.fitted i.next;
    } in
    let d : Life = c.step-act.new.self in
    let b = c.both.ensures ∙ ap (λ (x : Bool). c.args.steady && x)
    (c.succeeds.ensures ∙ succeeds_same _ _ _ _ _ _ c.state-was.ensures.state c.busy-busy.ensures c.state-now.ensures.state) in
    let forgets = c.forget_where.ensures ∙ ap (λ (x : Bool). if x then record d { failures = 0 } else d) b in
    let again = c.is_again-again.ensures ∙ ap is_again (c.completed.ensures ∙ completed_same c.args.event _ _ _ _ _ _ c.state-was.ensures.state
    c.stop-way.ensures c.state-now.ensures.state) in
    fresh c.args.steady c.args.event p c.step-act.result d c.forget_where.new.life c.is_again-again.result c.state-was.ensures.sound c.step-act.ensures
    forgets again

pub invariant_of-self : goal.invariant_of-self
invariant_of-self c =
    let i = c.self.inside in
    let p : ComponentState = record {
      fitted = i.fitted;
      life = i.life;
      children = i.children;
      handed = i.handed;
      owed = i.owed;
      stop = i.stop;
      next =
          next_of i.fitted i.next;
    } in
    let d : Life = c.step-act.new.self in
    let b = c.both.ensures ∙ ap (λ (x : Bool). c.args.steady && x)
    (c.succeeds.ensures ∙ succeeds_same _ _ _ _ _ _ c.state-was.ensures.state c.busy-busy.ensures c.state-now.ensures.state) in
    let forgets = c.forget_where.ensures ∙ ap (λ (x : Bool). if x then record d { failures = 0 } else d) b in
    let again = c.is_again-again.ensures ∙ ap is_again (c.completed.ensures ∙ completed_same c.args.event _ _ _ _ _ _ c.state-was.ensures.state
    c.stop-way.ensures c.state-now.ensures.state) in
    let owes = c.owed_after-self-inside.ensures ∙ ap (λ (x : Bool). owed_after c.step-act.result x i.owed) c.is_spared-spared.ensures in
    still_kept c.args.steady c.args.event p c.step-act.result d c.forget_where.new.life c.is_again-again.result c.state-was.ensures.sound c.step-act.ensures
    forgets again
    c.owed_after-self-inside.result c.stop_after-self-inside.result c.take_where.new.fitted c.take_where.new.life
    (next_of c.take_where.new.fitted c.take_where.new.next) c.self.invariant owes c.stop_after-self-inside.ensures c.take_where.ensures

pub returns : goal.returns
returns c =
    let i = c.self.inside in
    let p : ComponentState = record {
      fitted = i.fitted;
      life = i.life;
      children = i.children;
      handed = i.handed;
      owed = i.owed;
      stop = i.stop;
      next =
          next_of i.fitted i.next;
    } in
    let d : Life = c.step-act.new.self in
    let b = c.both.ensures ∙ ap (λ (x : Bool). c.args.steady && x)
    (c.succeeds.ensures ∙ succeeds_same _ _ _ _ _ _ c.state-was.ensures.state c.busy-busy.ensures c.state-now.ensures.state) in
    let forgets = c.forget_where.ensures ∙ ap (λ (x : Bool). if x then record d { failures = 0 } else d) b in
    let again = c.is_again-again.ensures ∙ ap is_again (c.completed.ensures ∙ completed_same c.args.event _ _ _ _ _ _ c.state-was.ensures.state
    c.stop-way.ensures c.state-now.ensures.state) in
    let owes = c.owed_after-self-inside.ensures ∙ ap (λ (x : Bool). owed_after c.step-act.result x i.owed) c.is_spared-spared.ensures in
    moved c.args.steady c.args.event p c.step-act.result d c.forget_where.new.life c.is_again-again.result c.state-was.ensures.sound c.step-act.ensures
    forgets again
    c.owed_after-self-inside.result c.stop_after-self-inside.result c.take_where.new.fitted c.take_where.new.life
    (next_of c.take_where.new.fitted c.take_where.new.next) c.self.invariant owes c.stop_after-self-inside.ensures c.take_where.ensures
    ∙ ap (λ (q : ComponentState). lived c.args.steady c.args.event q) c.self.view_is
