use Rattle.std.proofs.Common.{arith, map, sym, subst}
use Rattle.records.specs.Stored.{item_view}
use Rattle.components.specs.Made.{IsFittedAt}
use Rattle.components.specs.Components.{ComponentState}
use Rattle.supervisor.proofs.Slots.{fresh_is}
use Rattle.supervisor.proofs.ready.fit_one.Goals as goal

pub returns-clause-fitted : goal.returns-clause-fitted
returns-clause-fitted c = subst (λ (p : ComponentState). IsFittedAt c.args.origin.now (map item_view c.args.items.now) c.args.at p.fitted)
    (sym c.fresh.ensures) c.in_ok-fitted.ensures

pub returns-clause-fresh : goal.returns-clause-fresh
returns-clause-fresh c = fresh_is (c.in_ok-fitted.fitted, 0) c.fresh.result c.fresh.ensures (omega arith)
