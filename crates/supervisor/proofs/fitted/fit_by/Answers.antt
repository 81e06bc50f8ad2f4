use Rattle.std.proofs.Common.{◌≡◌, ◌∙◌, ap, subst, sym}
use Rattle.std.proofs.lemmas.Result.{IfOk-weaker}
use Rattle.serde_json.specs.Written.{compact_text}
use Rattle.records.specs.Stored.{Item, item_view}
use Rattle.components.specs.Fitted.{Fitted}
use Rattle.components.specs.Runs.{IsFittedBy}
use Rattle.supervisor.proofs.fitted.fit_by.Goals as goal

pub parts_by-requires : goal.parts_by-requires
parts_by-requires c = c.requires.scope

pub config_of-requires : goal.config_of-requires
config_of-requires c = c.requires.config

pub fit_with-requires : goal.fit_with-requires
fit_with-requires c = c.in_ok-config.ensures ∙ ap (λ (i : Item). compact_text i.config) (sym c.in_ok-item.ensures)

pub returns : goal.returns
returns c =
    let parts = c.in_ok-parts.parts in
    let made : Fitted = record {
      item = item_view c.in_ok-item.item;
      hard = parts.needs.hard.items;
      soft = parts.needs.soft.items;
      install =
          parts.first.install;
      run = parts.first.run;
      startup = parts.first.startup;
      shutdown = parts.last.shutdown;
      recover = parts.last.recover;
    } in
    IfOk-weaker c.fit_with.result (λ (f : Fitted). f ≡ made) (IsFittedBy c.args.scope.now c.args.recipe.now (item_view c.args.item.now))
    (λ f e. subst (IsFittedBy c.args.scope.now c.args.recipe.now (item_view c.args.item.now)) (sym e)
    (record {
      item_is = c.in_ok-item.ensures;
      hard_are = c.in_ok-parts.ensures.hard;
      soft_are = c.in_ok-parts.ensures.soft;
      first_are =
          c.in_ok-parts.ensures.first;
      last_are = c.in_ok-parts.ensures.last;
    }))
    c.fit_with.ensures
