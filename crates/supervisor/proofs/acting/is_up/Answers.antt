use Rattle.std.proofs.Common.{◌≡◌, ◌∙◌, true}
use Rattle.std.specs.Str.{bytes_eq}
use Rattle.components.specs.Components.{component_name, stands_up}
use Rattle.components.proofs.Each.{at_below}
use Rattle.supervisor.proofs.Found.{met_here}
use Rattle.supervisor.proofs.acting.is_up.Goals as goal

pub bounds-slots-at : goal.bounds-slots-at
bounds-slots-at c = at_below (λ p. bytes_eq c.args.need.now (component_name p) ≡ true) c.args.slots.now c.in-Some.at c.in-Some.ensures

pub returns-in-Some : goal.returns-in-Some
returns-in-Some c = c.stands_up.ensures ∙ met_here stands_up c.args.slots.now c.in-Some.at c.args.need.now c.index-slots-at.result c.requires
    c.in-Some.ensures c.index-slots-at.is
