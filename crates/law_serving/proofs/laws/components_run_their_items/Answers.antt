use Rattle.law_serving.proofs.Running.{all_run}
use Rattle.law_serving.proofs.laws.components_run_their_items.Goals as goal

pub returns : goal.returns
returns c =
    let laws = c.events_keep_recipes.ensures in
    all_run (record { moves = laws.moves; kills = laws.kills; tellings = laws.tellings })
