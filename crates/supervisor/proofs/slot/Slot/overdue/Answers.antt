use Rattle.std.proofs.Common.{◌∙◌, ap, subst, List, Some, None}
use Rattle.std.specs.Prelude.{◌||◌}
use Rattle.std.specs.List.{find}
use Rattle.components.specs.Deadlines.{has_passed}
use Rattle.supervisor.specs.Deeds.{HasChild}
use Rattle.components.specs.Rows.{next_of}
use Rattle.components.specs.Turns.{is_late}
use Rattle.components.specs.Components.{Child, ComponentState, has_orphan, is_orphan}
use Rattle.supervisor.proofs.Asked.{overdue_child, overdue_some}
use Rattle.supervisor.proofs.slot.Slot.overdue.Goals as goal

pub returns-in-None-clause-is_some : goal.returns-in-None-clause-is_some
returns-in-None-clause-is_some c =
    let i = c.self.inside in
    let p : ComponentState = record {
      fitted = i.fitted;
      life = i.life;
      children = i.children;
      handed = i.handed;
      owed = i.owed;
      stop = i.stop;
      next =
          next_of i.fitted i.next;
    } in
    let m = c.args.moment in
    let e = c.in-None.ensures ∙ ap (λ (cs : List Child). find (λ (d : Child). has_passed m d.deadline || is_orphan i.life d.of) cs) c.as_slice.ensures in
    overdue_some m p None e ∙ ap (λ (q : ComponentState). is_late m q || has_orphan q) c.self.view_is

pub returns-in-Some-clause-is_some : goal.returns-in-Some-clause-is_some
returns-in-Some-clause-is_some c =
    let i = c.self.inside in
    let p : ComponentState = record {
      fitted = i.fitted;
      life = i.life;
      children = i.children;
      handed = i.handed;
      owed = i.owed;
      stop = i.stop;
      next =
          next_of i.fitted i.next;
    } in
    let m = c.args.moment in
    let e = c.in-Some.ensures ∙ ap (λ (cs : List Child). find (λ (d : Child). has_passed m d.deadline || is_orphan i.life d.of) cs) c.as_slice.ensures in
    overdue_some m p (Some c.in-Some.child.now) e ∙ ap (λ (q : ComponentState). is_late m q || has_orphan q) c.self.view_is

pub returns-in-Some-clause-child : goal.returns-in-Some-clause-child
returns-in-Some-clause-child c =
    let i = c.self.inside in
    let p : ComponentState = record {
      fitted = i.fitted;
      life = i.life;
      children = i.children;
      handed = i.handed;
      owed = i.owed;
      stop = i.stop;
      next =
          next_of i.fitted i.next;
    } in
    let m = c.args.moment in
    let e = c.in-Some.ensures ∙ ap (λ (cs : List Child). find (λ (d : Child). has_passed m d.deadline || is_orphan i.life d.of) cs) c.as_slice.ensures in
    subst (λ (q : ComponentState). HasChild (λ (d : Child). has_passed m d.deadline || is_orphan q.life d.of) c.in-Some.child.now.number q) c.self.view_is
    (overdue_child m p c.in-Some.child.now e)
