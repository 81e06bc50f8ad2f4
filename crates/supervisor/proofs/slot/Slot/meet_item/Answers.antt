use Rattle.std.proofs.Common.{◌∙◌, sym}
use Rattle.components.specs.Rows.{taken_item}
use Rattle.components.specs.Components.{ComponentState}
use Rattle.supervisor.proofs.Slots.{met_replacing, met_staying}
use Rattle.supervisor.proofs.slot.Slot.meet_item.Goals as goal

pub take_texts-other-requires : goal.take_texts-other-requires
take_texts-other-requires c = record { same = c.requires.same }

pub stay-requires : goal.stay-requires
stay-requires c = c.requires.few

pub replace-requires : goal.replace-requires
replace-requires c = c.requires.few

pub returns-else-anew : goal.returns-else-anew
returns-else-anew c =
    let q : ComponentState = c.take_texts-other.new.self in
    met_staying c.args.item c.args.failures c.args.self.now q c.stay.new.self (sym c.if-anew.false ∙ c.is_replaced-anew.ensures)
    c.take_texts-other.ensures.texts c.stay.ensures

pub returns-then-anew : goal.returns-then-anew
returns-then-anew c =
    let q : ComponentState = c.take_texts-other.new.self in
    met_replacing c.args.item (taken_item q.fitted c.take_texts-other.result) c.args.failures c.args.self.now q c.replace.new.self
    (sym c.if-anew.true ∙ c.is_replaced-anew.ensures) c.take_texts-other.ensures.texts c.take_texts-other.ensures.other c.replace.ensures
