use Rattle.std.proofs.Common.{◌≡◌, ◌∙◌, ap, arith, rules}
use Rattle.std.specs.Process.{command_var}
use Rattle.host_children.proofs.Variables.{said_more}
use Rattle.host_children.proofs.programs.add_variables.Goals as goal

pub loop-variable-preserved : goal.loop-variable-preserved
loop-variable-preserved c = record {
  call = search rules;
  variables = λ name. said_more name c.as_str.result.now c.as_str-in-loop-variable.result.now c.args.variables.now c.loop-variable.variable-index
      c.variable-item.result (command_var c.args.child.now name) (command_var c.add_variable.new.child name) (command_var c.loop-variable.child name)
      (omega arith) c.variable-item.is c.as_str.ensures c.as_str-in-loop-variable.ensures
      (λ e. ap (command_var c.add_variable.new.child) e ∙ c.in_ok-add_variable.ensures.set) (c.in_ok-add_variable.ensures.others name)
      (c.loop-variable.invariant.variables name);
  inherits = search rules;
}
