use Rattle.std.proofs.Common.{◌+◌, ◌<◌, List, subst, sym}
use Rattle.fleet_core.specs.declared.history.Taking.{Taking}
use Rattle.fleet_core.specs.Takings.{level, AreBy, IsRising}
use Rattle.fleet_core.proofs.Levels.{rising-push}
use Rattle.fleet_core.proofs.history.History.add.Goals as goal

pub invariant_of-self-2 : goal.invariant_of-self-2
invariant_of-self-2 c =
    let ts = c.self.inside.takings.items in
    subst IsRising (sym c.in_ok-push.ensures.items) (rising-push ts c.args.taking c.self.invariant
    (subst (AreBy c.args.taking.reports) (sym c.self.view_is) c.requires.later)
    (subst (λ (l : List Taking). level (c.args.taking.reports + 1) l < c.args.taking.revision) (sym c.self.view_is) c.requires.newer))
