use Rattle.std.proofs.Common.{◌+◌, map, arith, sym, subst, List}
use Rattle.std.proofs.lemmas.List.{length-map}
use Rattle.records.specs.Stored.{item_view}
use Rattle.components.specs.Components.{ComponentState}
use Rattle.supervisor.proofs.Readies.{AreReady, none_ready, one_more, all_ready, has_scope}
use Rattle.supervisor.proofs.ready.fit_all.Goals as goal

pub loop-at-init : goal.loop-at-init
loop-at-init c = subst (λ (ps : List ComponentState). AreReady c.args.origin.now (map item_view c.args.items.now) 0 ps) (sym c.in_ok-slots.ensures.items)
    (none_ready c.args.origin.now (map item_view c.args.items.now))

pub fit_one-requires-clause-recipe : goal.fit_one-requires-clause-recipe
fit_one-requires-clause-recipe c =
    let l = length-map c.args.items.now item_view in
    has_scope c.args.origin.now (map item_view c.args.items.now) c.loop-at.at (omega (arith, l, c.loop-at-test.true)) c.requires.recipes

pub loop-at-preserved : goal.loop-at-preserved
loop-at-preserved c = subst (λ (ps : List ComponentState). AreReady c.args.origin.now (map item_view c.args.items.now) (c.loop-at.at + 1) ps)
    (sym c.in_ok-push.ensures.items)
    (one_more c.args.origin.now (map item_view c.args.items.now) c.loop-at.at c.loop-at.slots.items c.in_ok-fit_one.field-0 c.loop-at.invariant
    c.in_ok-fit_one.ensures.fitted c.in_ok-fit_one.ensures.fresh)

pub returns-clause-fresh : goal.returns-clause-fresh
returns-clause-fresh c = c.loop-at.invariant.fresh

pub returns-clause-fitted : goal.returns-clause-fitted
returns-clause-fitted c =
    let l = length-map c.args.items.now item_view in
    all_ready c.args.origin.now (map item_view c.args.items.now) c.loop-at.at c.loop-at.slots.items (omega (arith, l)) c.loop-at.invariant
