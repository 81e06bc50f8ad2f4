use Rattle.std.proofs.Common.{refl}
use Rattle.components.specs.Components.{component_name}
use Rattle.components.proofs.Held.{far_too}
use Rattle.supervisor.specs.Holds.{asks_for_good}
use Rattle.supervisor.proofs.Held.{never}
use Rattle.supervisor.proofs.holds.asks_alone.Goals as goal

pub returns-then-not-asks_for_good : goal.returns-then-not-asks_for_good
returns-then-not-asks_for_good c = λ e a. never (asks_for_good c.args.slot.now) c.if-not-asks_for_good.ensures a

pub returns-then-is_held_by_user : goal.returns-then-is_held_by_user
returns-then-is_held_by_user c = λ e a. far_too (component_name c.args.slot.now) c.args.slots.now (c.if-is_held_by_user.ensures refl)
