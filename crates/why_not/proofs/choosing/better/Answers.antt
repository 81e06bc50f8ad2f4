use Rattle.std.proofs.Common.{refl, subst}
use Rattle.why_not.specs.Picks.{IsPick}
use Rattle.why_not.proofs.Picking.{pick_first, pick_changes, pick_stays}
use Rattle.why_not.proofs.choosing.better.Goals as goal

pub returns-in_default : goal.returns-in_default
returns-in_default c = λ ms form taken names out zero h.
    pick_first ms form taken names c.args.pick.name.now c.args.pick refl out zero (subst (IsPick ms form taken names) c.in_default.is h)

pub returns-then-comes_before : goal.returns-then-comes_before
returns-then-comes_before c = λ ms form taken names out zero h.
    pick_changes ms form taken names c.args.pick.name.now c.args.pick refl out zero c.in-Some.other (c.comes_before.ensures.yes c.if-comes_before.true)
    (subst (IsPick ms form taken names) c.in-Some.is h)

pub returns : goal.returns
returns c = λ ms form taken names out zero h.
    pick_stays ms form taken names c.args.pick.name.now c.args.pick refl out zero c.in-Some.other (c.comes_before.ensures.no c.if-comes_before.false)
    (subst (IsPick ms form taken names) c.in-Some.is h)
