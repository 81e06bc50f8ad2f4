use Rattle.std.proofs.Common.{◌∙◌, ap, sym, List}
use Rattle.std.specs.Prelude.{slice_get}
use Rattle.components.specs.Components.{Child}
use Rattle.supervisor.proofs.Asked.{stop_awaits, stop_first, stop_moves, stop_none}
use Rattle.supervisor.proofs.slot.Slot.stop_deed.Goals as goal

pub stop_kills-requires : goal.stop_kills-requires
stop_kills-requires c = stop_awaits c.args.self.now c.args.after c.requires.asked c.requires.ready

pub returns-then-not-stop_kills : goal.returns-then-not-stop_kills
returns-then-not-stop_kills c = λ m b. stop_moves c.args.self.now c.args.after c.requires.asked c.requires.ready (sym c.if-not-stop_kills.ensures) m b

pub returns : goal.returns
returns c = λ m b. stop_first c.args.self.now c.args.after c.in-Some.child.now (sym c.if-not-stop_kills.ensures)
    (c.in-Some.ensures.value ∙ ap (λ (cs : List Child). slice_get cs 0) c.children.ensures) m b

pub unreachable-requires : goal.unreachable-requires
unreachable-requires c = stop_none c.args.self.now c.args.after c.requires.whole c.requires.asked c.requires.ready (sym c.if-not-stop_kills.ensures)
    (c.in-None.ensures.value ∙ ap (λ (cs : List Child). slice_get cs 0) c.children.ensures)
