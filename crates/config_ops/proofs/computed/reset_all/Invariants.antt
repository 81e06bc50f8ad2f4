use Rattle.std.proofs.Common.{◌≡◌, drop}
use Rattle.tree_core.specs.View.{view}
use Rattle.tree_core.specs.Regular.{IsRegular}
use Rattle.config_ops.specs.NewConfig.{after_resets}
use Rattle.config_ops.proofs.computed.reset_all.Given as goal

abbrev pub invariant-loop-at : goal.invariant-loop-at
invariant-loop-at l =
    (after_resets (view l.default) l.resets (view l.initial.set_back) ≡ after_resets (view l.default) (drop l.at-index l.at-items) (view l.set_back))
    × IsRegular (view l.set_back)
