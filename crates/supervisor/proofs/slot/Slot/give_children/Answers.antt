use Rattle.std.proofs.Common.{◌∙◌, List, ap}
use Rattle.components.specs.Rows.{next_of}
use Rattle.components.specs.Components.{Child, ComponentState}
use Rattle.supervisor.proofs.slot.Slot.give_children.Goals as goal

pub invariant_of-self : goal.invariant_of-self
invariant_of-self c = record { steps = c.self.invariant.steps; own = c.self.invariant.own; coming = c.self.invariant.coming }

pub invariant_of-other : goal.invariant_of-other
invariant_of-other c = record { steps = c.other.invariant.steps; own = c.other.invariant.own; coming = c.other.invariant.coming }

pub returns : goal.returns
returns c =
    let i = c.other.inside in
    let p : ComponentState = record {
      fitted = i.fitted;
      life = i.life;
      children = i.children;
      handed = i.handed;
      owed = i.owed;
      stop = i.stop;
      next =
          next_of i.fitted i.next;
    } in
    ap (λ (cs : List Child). record p { children = cs }) (c.swap.ensures.y_after ∙ ap (λ (q : ComponentState). q.children) c.self.view_is) ∙ ap
    (λ (q : ComponentState). record q { children = c.args.self.now.children }) c.other.view_is
