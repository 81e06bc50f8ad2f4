use Rattle.std.proofs.Common.{◌∙◌, ap}
use Rattle.components.specs.Changes.{fresh_part}
use Rattle.components.specs.Rows.{next_of}
use Rattle.components.specs.Components.{ComponentState}
use Rattle.supervisor.proofs.Slots.{begun_with}
use Rattle.supervisor.proofs.slot.Slot.begin_with.Goals as goal

pub returns : goal.returns
returns c =
    let i = c.self.inside in
    let p : ComponentState = record {
      fitted = i.fitted;
      life = i.life;
      children = i.children;
      handed = i.handed;
      owed = i.owed;
      stop = i.stop;
      next =
          next_of i.fitted i.next;
    } in
    let f = rw (← c.self.view_is) at c.requires.fresh in
    begun_with p c.args.failures c.set_failures.new.self f c.set_failures.ensures ∙ ap (λ (q : ComponentState). fresh_part (q.fitted, c.args.failures))
    c.self.view_is
