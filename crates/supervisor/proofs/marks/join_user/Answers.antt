use Rattle.std.proofs.Common.{◌≡◌, arith, refl, true}
use Rattle.components.specs.Flags.{with_flags}
use Rattle.components.specs.Marks.{needs_flagged}
use Rattle.components.proofs.Each.{at_below}
use Rattle.supervisor.proofs.Flags.{grows_join, grows_none}
use Rattle.supervisor.proofs.marks.join_user.Goals as goal

pub returns-then-not-joins_as : goal.returns-then-not-joins_as
returns-then-not-joins_as c = grows_none c.args.slots.now c.args.flags.now

pub bounds-flags-at : goal.bounds-flags-at
bounds-flags-at c =
    let l = at_below (λ p. needs_flagged p.fitted.hard (with_flags c.args.slots.now c.args.flags.now) ≡ true) c.args.slots.now c.args.user.component
    (c.if-not-joins_as.ensures refl) in
    omega (arith, l, c.requires.many)

pub returns : goal.returns
returns c = grows_join c.args.slots.now c.args.flags.now c.args.user.component (c.if-not-joins_as.ensures refl)
