use Rattle.std.proofs.Common.{IfSome, sym, subst, arith, rules}
use Rattle.std.proofs.lemmas.Grind.{common_steps}
use Rattle.tree_core.specs.Regular.{IsRegular}
use Rattle.tree_core.specs.View.{view}
use Rattle.tree_core.proofs.RegularParts.{get_regular}
use Rattle.config_ops.proofs.walk.is_open.Goals as goal

pub loop-key-preserved : goal.loop-key-preserved
loop-key-preserved c = (
  first_of (grind (arith, common_steps), search rules),
  subst (λ o. IfSome o IsRegular) (sym c.in-Some.ensures) (get_regular c.as_str.result.now (view c.loop-key.here.now) c.loop-key.invariant.1),
)
