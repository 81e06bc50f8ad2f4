use Rattle.std.specs.Prelude.{ℕ, List, true}
use Rattle.std.proofs.Common.{◌≡◌, ◌∙◌, refl, sym, ap, subst}
use Rattle.deploy_state.specs.States.{idle_device}
use Rattle.components.specs.Components.{Components}
use Rattle.session_serving.specs.Pauses.{came_by}
use Rattle.session_serving.specs.States.{AreUp}
use Rattle.session_serving.proofs.Pausing.{due_unopened}
use Rattle.session_serving.proofs.restarting.come_again.Goals as goal

-- ---- it is not due

pub returns-then-not-is_due-clause-exact : goal.returns-then-not-is_due-clause-exact
returns-then-not-is_due-clause-exact g c = sym (ap came_by (sym c.is_due.ensures ∙ c.if-not-is_due.true))

pub returns-then-not-is_due-clause-trace : goal.returns-then-not-is_due-clause-trace
returns-then-not-is_due-clause-trace g c = λ p told living asking. refl

-- ---- it is

pub open_set-requires-clause-from_state : goal.open_set-requires-clause-from_state
open_set-requires-clause-from_state g c =
    let q = c.requires.from_state in
    let due = sym c.is_due.ensures ∙ c.if-not-is_due.false in (
      q.0,
      q.1,
      q.2,
      due_unopened c.args.pause c.args.now q.0 (idle_device c.args.idle.now) (g.S.Supervise.world c.args.supervisor.now) q.1 q.2 due c.requires.looked q.3,
    )

pub returns-in-Ok-clause-exact : goal.returns-in-Ok-clause-exact
returns-in-Ok-clause-exact g c = sym (ap came_by (sym c.is_due.ensures ∙ c.if-not-is_due.false))

pub returns-in-Ok-clause-trace : goal.returns-in-Ok-clause-trace
returns-in-Ok-clause-trace g c = λ p told living asking.
    let due = sym c.is_due.ensures ∙ c.if-not-is_due.false in
    let t = c.in-Ok.ensures.trace p told living
    (due_unopened c.args.pause c.args.now p (idle_device c.args.idle.now) (g.S.Supervise.world c.args.supervisor.now) told living due c.requires.looked asking)
    in (t.0, t.4, t.1, t.2)

pub returns-in-Ok-clause-up : goal.returns-in-Ok-clause-up
returns-in-Ok-clause-up g c = c.in-Ok.ensures.up

pub returns-in-Err-clause-wanting : goal.returns-in-Err-clause-wanting
returns-in-Err-clause-wanting g c = sym c.is_due.ensures ∙ c.if-not-is_due.false

pub returns-in-Err-clause-up : goal.returns-in-Err-clause-up
returns-in-Err-clause-up g c =
    subst (λ (w : Components). AreUp (idle_device c.args.idle.now) w) (sym c.in-Err.ensures.same) c.requires.up
