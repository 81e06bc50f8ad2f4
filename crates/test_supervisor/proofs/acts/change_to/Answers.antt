use Rattle.std.proofs.Common.{map}
use Rattle.records.specs.Stored.{item_view}
use Rattle.components.specs.Changes.{standing}
use Rattle.components.specs.Platforms.{RunsFor}
use Rattle.components.proofs.Changed.{all_standing}
use Rattle.test_supervisor.proofs.Free.{free_answered}
use Rattle.test_supervisor.proofs.Handing.{stands_changed}
use Rattle.test_supervisor.proofs.Recipes.{some_recipes}
use Rattle.test_supervisor.proofs.acts.change_to.Goals as goal

pub ready-requires-clause-recipes : goal.ready-requires-clause-recipes
ready-requires-clause-recipes c = some_recipes c.args.origin.now.platform (map item_view c.args.items.now) c.requires.items.recipes

pub change-requires-clause-answered : goal.change-requires-clause-answered
change-requires-clause-answered c = free_answered c.args.supervisor.now c.requires.stands.answered

pub change-requires-clause-same : goal.change-requires-clause-same
change-requires-clause-same c =
    let platform = c.args.origin.now.platform in
    let parts = c.args.supervisor.now.parts in
    c.one_platform.ensures.same platform c.in_ok-ready.ready.coming (standing parts)
    (c.one_platform.ensures.ready c.args.origin.now (map item_view c.args.items.now) c.in_ok-ready.ready.coming c.in_ok-ready.ensures.made)
    (all_standing (RunsFor platform) parts c.requires.stands.ready)

pub returns-clause-stands : goal.returns-clause-stands
returns-clause-stands c =
    stands_changed c.args.origin.now.platform c.in_ok-ready.ready.coming _ _ c.args.supervisor.now c.change.new.self c.change.ensures
    (c.one_platform.ensures.ready c.args.origin.now (map item_view c.args.items.now) c.in_ok-ready.ready.coming c.in_ok-ready.ensures.made)
    c.requires.stands
