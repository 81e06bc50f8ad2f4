use Rattle.std.proofs.Common.{◌∙◌, ap, sym}
use Rattle.components.specs.Changes.{replacing}
use Rattle.components.specs.Rows.{next_of, taken_item}
use Rattle.components.specs.Components.{ComponentState}
use Rattle.supervisor.proofs.Slots.{replacing_good, replacing_plain}
use Rattle.supervisor.proofs.slot.Slot.replace.Goals as goal

pub returns-then-not-stops_for_good : goal.returns-then-not-stops_for_good
returns-then-not-stops_for_good c =
    let i = c.self.inside in
    let p : ComponentState = record {
      fitted = i.fitted;
      life = i.life;
      children = i.children;
      handed = i.handed;
      owed = i.owed;
      stop = i.stop;
      next =
          next_of i.fitted i.next;
    } in
    replacing_plain (taken_item i.fitted c.args.item, c.args.failures) p (sym c.if-not-stops_for_good.ensures) ∙ ap
    (λ (q : ComponentState). replacing (taken_item q.fitted c.args.item, c.args.failures) q) c.self.view_is

pub returns : goal.returns
returns c =
    let i = c.self.inside in
    let p : ComponentState = record {
      fitted = i.fitted;
      life = i.life;
      children = i.children;
      handed = i.handed;
      owed = i.owed;
      stop = i.stop;
      next =
          next_of i.fitted i.next;
    } in
    replacing_good (taken_item i.fitted c.args.item, c.args.failures) p c.end_as_restart.new.life (sym c.if-not-stops_for_good.ensures)
    c.end_as_restart.ensures ∙ ap
    (λ (q : ComponentState). replacing (taken_item q.fitted c.args.item, c.args.failures) q) c.self.view_is
