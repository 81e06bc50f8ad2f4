use Rattle.std.proofs.Common.{map}
use Rattle.records.specs.Stored.{item_view}
use Rattle.plan_core.specs.Boots.{IsBootScript}
use Rattle.interpolation.specs.Variables.{Expanded}
use Rattle.plan_core.proofs.Facts.{if_ok}
use Rattle.plan_core.proofs.boots.boot_script.Goals as goal

-- src/boots.rt:76:1
pub returns : goal.returns
returns c = if_ok
    c.expand.result
    (λ t. Expanded c.in_ok-scope.scope c.args.step.now.script t)
    (λ text. IsBootScript c.args.origin.now (map item_view c.args.items.now) c.args.at text)
    (λ text expanded. record {
      item = c.requires.step.item;
      there = c.requires.step.there;
      recipe = c.args.recipe.now;
      reads = c.requires.step.reads;
      step = c.args.step.now;
      is_step = c.requires.step.is_step;
      scope = c.in_ok-scope.scope;
      is_scope = c.in_ok-scope.ensures;
      expanded = expanded;
    })
    c.expand.ensures
