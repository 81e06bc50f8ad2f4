use Rattle.std.proofs.lemmas.Bool.{false≢true}
use Rattle.device.proofs.plan_recipes.recipe_in.Goals as goal

pub returns-else-is_memory : goal.returns-else-is_memory
returns-else-is_memory c = λ r h. false≢true (c.if-is_memory.ensures.1
    (c.recipe_laws.ensures.no_fault c.args.bytes.now c.args.platform.now r c.in-Err.fault h c.in-Err.ensures.exact))
