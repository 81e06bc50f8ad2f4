use Rattle.std.proofs.Common.{List, ap, refl}
use Rattle.components.specs.Flags.{at_moment}
use Rattle.components.specs.Components.{ComponentState}
use Rattle.supervisor.proofs.Deeds.{owed_below, tells}
use Rattle.supervisor.proofs.acting.tell_first.Goals as goal

pub tell_at-requires : goal.tell_at-requires
tell_at-requires c = owed_below c.in-Some.at c.args.slots.now c.in-Some.act c.in-Some.ensures

pub returns-in-None-clause-none : goal.returns-in-None-clause-none
returns-in-None-clause-none c = λ e. (c.in-None.ensures, refl)

pub returns-in-Some-clause-some : goal.returns-in-Some-clause-some
returns-in-Some-clause-some c = λ m s.
    tells (at_moment c.args.slots.now m s) (at_moment c.tell_at.new.slots m s) c.in-Some.at c.in-Some.act c.requires.names c.in-Some.ensures
    (ap (λ (ps : List ComponentState). at_moment ps m s) c.tell_at.ensures)

pub returns-in-Some-clause-handed_out : goal.returns-in-Some-clause-handed_out
returns-in-Some-clause-handed_out c = (c.in-Some.at, c.tell_at.ensures)
