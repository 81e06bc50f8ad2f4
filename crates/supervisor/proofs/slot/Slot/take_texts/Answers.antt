use Rattle.std.proofs.Common.{◌∙◌, ap, sym}
use Rattle.components.specs.Changes.{with_texts}
use Rattle.components.specs.Fitted.{Fitted}
use Rattle.components.specs.Rows.{next_of}
use Rattle.components.specs.Components.{ComponentState}
use Rattle.supervisor.proofs.Slots.{texts_kept, texts_other, texts_same}
use Rattle.supervisor.proofs.slot.Slot.take_texts.Goals as goal

pub returns-then-not-is_same_item-clause-texts : goal.returns-then-not-is_same_item-clause-texts
returns-then-not-is_same_item-clause-texts c =
    let i = c.self.inside in
    let p : ComponentState = record {
      fitted = i.fitted;
      life = i.life;
      children = i.children;
      handed = i.handed;
      owed = i.owed;
      stop = i.stop;
      next =
          next_of i.fitted i.next;
    } in
    sym c.self.view_is ∙ texts_other c.args.item p (sym c.if-not-is_same_item.ensures) ∙ ap (with_texts c.args.item) c.self.view_is

pub invariant_of-self : goal.invariant_of-self
invariant_of-self c =
    let i = c.self.inside in
    let p : ComponentState = record {
      fitted = i.fitted;
      life = i.life;
      children = i.children;
      handed = i.handed;
      owed = i.owed;
      stop = i.stop;
      next =
          next_of i.fitted i.next;
    } in
    let n = c.keep_next.ensures c.args.item ∙ ap (λ (f : Fitted). next_of f c.take.result) c.replace-earlier.ensures.value ∙ ap (next_of i.fitted)
    c.take.ensures.value in
    let s = rw (← c.self.view_is) at c.requires.same in
    rw c.replace-earlier.ensures.after (texts_kept c.args.item p (next_of c.args.item c.keep_next.result) (s (sym c.if-not-is_same_item.ensures)) n
    c.self.invariant)

pub returns-clause-texts : goal.returns-clause-texts
returns-clause-texts c =
    let i = c.self.inside in
    let p : ComponentState = record {
      fitted = i.fitted;
      life = i.life;
      children = i.children;
      handed = i.handed;
      owed = i.owed;
      stop = i.stop;
      next =
          next_of i.fitted i.next;
    } in
    let n = c.keep_next.ensures c.args.item ∙ ap (λ (f : Fitted). next_of f c.take.result) c.replace-earlier.ensures.value ∙ ap (next_of i.fitted)
    c.take.ensures.value in
    rw c.replace-earlier.ensures.after (texts_same c.args.item p (next_of c.args.item c.keep_next.result) (sym c.if-not-is_same_item.ensures) n) ∙ ap
    (with_texts c.args.item) c.self.view_is
