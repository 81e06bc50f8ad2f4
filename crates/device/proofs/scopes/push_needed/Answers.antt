use Rattle.std.proofs.Common.{sym, ◌∙◌}
use Rattle.device.proofs.ScopeLoops.{adds_place}
use Rattle.device.proofs.scopes.push_needed.Goals as goal

pub returns-in_ok-push : goal.returns-in_ok-push
returns-in_ok-push c =
    adds_place c.args.recipe.now c.args.item.now c.in_ok-place.place c.args.places.now.items c.push.new.self.items (sym c.names.ensures ∙ c.if-names.true)
    c.in_ok-place.ensures c.in_ok-push.ensures.items
