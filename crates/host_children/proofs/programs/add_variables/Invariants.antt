use Rattle.std.proofs.Common.{◌≡◌, ℕ, List, Some, take}
use Rattle.std.specs.Process.{command_var, clears_env, var_after, SameProgramAndArgs}
use Rattle.host_children.proofs.programs.add_variables.Given as goal

abbrev pub invariant-loop-variable : goal.invariant-loop-variable
invariant-loop-variable l = record {
  call : SameProgramAndArgs l.fn.child l.child;
  variables : (name : List ℕ) → command_var l.child name ≡
      var_after (λ k. Some k) (λ v. Some v) name (command_var l.fn.child name) (take l.variable-index l.variables);
  inherits : clears_env l.child ≡ clears_env l.fn.child;
}
