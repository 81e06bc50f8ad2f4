use Rattle.lifecycle.specs.Awaits.{is_same_step, is_busy_with}
use Rattle.std.specs.List.{list_any}
use Rattle.components.specs.Components.{Child}
use Rattle.components.proofs.Lived.{and_not}
use Rattle.supervisor.proofs.slot.Slot.start_child.Goals as goal

pub push-requires : goal.push-requires
push-requires c = and_not (is_busy_with c.args.step c.self.inside.life.busy) (list_any (λ (d : Child). is_same_step c.args.step d.of) c.self.inside.children)
    (rw (← c.self.view_is) at c.requires.begun)
