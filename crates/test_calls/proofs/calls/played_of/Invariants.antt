use Rattle.std.proofs.Common.{◌≡◌, true}
use Rattle.std.specs.List.{list_all}
use Rattle.step_runner.specs.Waits.{is_own}
use Rattle.step_runner.specs.declared.ends.ScriptedEnd.{ScriptedEnd}
use Rattle.test_calls.proofs.calls.played_of.Given as goal

abbrev pub invariant-loop-part : goal.invariant-loop-part
invariant-loop-part l = list_all (λ (e : ScriptedEnd). is_own e.exit) l.played ≡ true
