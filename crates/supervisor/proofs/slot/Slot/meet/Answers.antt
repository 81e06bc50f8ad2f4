use Rattle.std.proofs.Common.{◌≡◌, ◌<◌, ap, subst, sym, true}
use Rattle.components.specs.Changes.{Coming}
use Rattle.components.specs.Fitted.{is_same_item, steps_of}
use Rattle.components.specs.Readied.{coming_of}
use Rattle.components.specs.Components.{ComponentState}
use Rattle.supervisor.proofs.Slots.{comes_by, meets_by}
use Rattle.supervisor.proofs.slot.Slot.meet.Goals as goal

pub come_again-requires : goal.come_again-requires
come_again-requires c = c.requires.fresh

pub returns-then-is_gone : goal.returns-then-is_gone
returns-then-is_gone c = comes_by (coming_of c.args.coming) c.args.self.now c.come_again.new.self c.if-is_gone.ensures c.come_again.ensures

pub meet_item-requires-clause-few : goal.meet_item-requires-clause-few
meet_item-requires-clause-few c = subst (λ (n : Coming). n.1 < 3) (sym c.into_coming-coming.ensures) c.requires.fresh.few

pub meet_item-requires-clause-same : goal.meet_item-requires-clause-same
meet_item-requires-clause-same c =
    let p : ComponentState = c.args.self.now in
    subst (λ (n : Coming). is_same_item n.0.item p.fitted.item ≡ true → steps_of n.0 ≡ steps_of p.fitted) (sym c.into_coming-coming.ensures) c.requires.same

pub returns-else-is_gone : goal.returns-else-is_gone
returns-else-is_gone c =
    let n : Coming = c.into_coming-coming.result in
    meets_by n.0 c.args.coming.fitted n.1 c.args.coming.life.failures c.args.self.now c.meet_item.new.self
    (ap (λ (m : Coming). m.0) c.into_coming-coming.ensures) (ap (λ (m : Coming). m.1) c.into_coming-coming.ensures) c.if-is_gone.ensures c.meet_item.ensures
