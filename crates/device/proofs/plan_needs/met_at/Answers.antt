use Rattle.std.proofs.Common.{sym, true, ◌≡◌, ◌∙◌}
use Rattle.std.proofs.lemmas.Bool.{false≢true}
use Rattle.device.proofs.PlanPlaces.{unmet, meets_there, fails_there}
use Rattle.device.proofs.plan_needs.met_at.Goals as goal

pub returns-in_default : goal.returns-in_default
returns-in_default c = unmet c.args.items.now c.args.dependency.now c.in_default.ensures

pub returns-then-holds : goal.returns-then-holds
returns-then-holds c = meets_there c.args.items.now c.args.dependency.now c.in-Some.at c.index-items-at.result c.in-Some.ensures
    (c.holds.ensures.0 c.if-holds.true)

pub returns-else-holds : goal.returns-else-holds
returns-else-holds c =
    fails_there c.args.items.now c.args.dependency.now c.in-Some.at c.index-items-at.result c.requires c.in-Some.ensures
    (λ m. let yes : c.holds.result ≡ true = c.holds.ensures.1 m in false≢true (sym c.if-holds.false ∙ yes))
