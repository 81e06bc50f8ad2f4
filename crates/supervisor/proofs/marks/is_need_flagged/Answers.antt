use Rattle.std.proofs.Common.{◌≡◌, arith, true}
use Rattle.std.specs.Str.{bytes_eq}
use Rattle.components.specs.Components.{component_name}
use Rattle.components.proofs.Each.{at_below}
use Rattle.supervisor.proofs.Found.{flagged_place}
use Rattle.supervisor.proofs.marks.is_need_flagged.Goals as goal

pub bounds-flags-at : goal.bounds-flags-at
bounds-flags-at c =
    let l = at_below (λ p. bytes_eq c.args.need.now (component_name p) ≡ true) c.args.slots.now c.in-Some.at c.in-Some.ensures in
    omega (arith, l, c.requires.many)

pub returns-in-Some : goal.returns-in-Some
returns-in-Some c = flagged_place c.args.slots.now c.args.flags.now c.in-Some.at c.args.need.now c.requires.many c.requires.names c.in-Some.ensures
