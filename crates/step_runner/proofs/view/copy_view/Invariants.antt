use Rattle.std.proofs.Common.{◌≡◌, take}
use Rattle.step_runner.specs.Views.{those_shown}
use Rattle.step_runner.proofs.view.copy_view.Given as goal

abbrev pub invariant-loop-place : goal.invariant-loop-place
invariant-loop-place g l = l.shown.items ≡ those_shown (take l.place (g.V.View.components l.view))
