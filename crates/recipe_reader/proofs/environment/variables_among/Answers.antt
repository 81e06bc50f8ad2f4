use Rattle.std.proofs.Common.{◌<◌, ◌≤◌, List, length, arith}
use Rattle.tree_core.proofs.Fields.{Field}
use Rattle.tree_core.specs.View.{field_view}
use Rattle.tree_core.proofs.Among.{field_among, among_start, among_more, among_fault, among_end}
use Rattle.recipe_reader.specs.Environment.{variable_lines, IsVariable}
use Rattle.recipe_reader.specs.declared.fault.RecipeFault.TheVariants.{NoMemory}
use Rattle.recipe_reader.proofs.environment.variables_among.Goals as goal

pub loop-name-init : goal.loop-name-init
loop-name-init c = among_start field_view variable_lines IsVariable c.deref-name-items.result.now _ c.in_ok-variables.ensures.items

pub loop-name-preserved : goal.loop-name-preserved
loop-name-preserved c =
    let xs : List Field = c.deref-name-items.result.now in
    let i = c.loop-name.name-index in
    let below : i < length xs = omega arith in
    among_more field_view variable_lines IsVariable xs i c.loop-name-item.result c.loop-name.variables.items _ c.in_ok-variable.variable below
    c.loop-name-item.is c.loop-name.invariant c.in_ok-variable.ensures c.in_ok-push.ensures.items

pub returns-in_err-variable : goal.returns-in_err-variable
returns-in_err-variable c =
    let xs : List Field = c.deref-name-items.result.now in
    let i = c.loop-name.name-index in
    let below : i < length xs = omega arith in
    among_fault field_view variable_lines IsVariable NoMemory xs c.args.fields.now.items i c.loop-name-item.result c.loop-name.variables.items
    c.in_err-variable.field-0.0 _ c.deref-name-items.ensures.value below c.loop-name-item.is c.loop-name.invariant c.in_err-variable.ensures
    c.from_residual-in_err-variable.ensures.1

pub returns : goal.returns
returns c =
    let xs : List Field = c.deref-name-items.result.now in
    let i = c.loop-name.name-index in
    let past : length xs ≤ i = omega arith in
    among_end field_view variable_lines IsVariable xs c.args.fields.now.items i c.loop-name.variables.items _ c.deref-name-items.ensures.value past
    c.loop-name.invariant c.new.ensures

pub variable_of-requires : goal.variable_of-requires
variable_of-requires c =
    let xs : List Field = c.deref-name-items.result.now in
    let i = c.loop-name.name-index in
    let below : i < length xs = omega arith in
    field_among xs c.args.fields.now.items i c.loop-name-item.result c.deref-name-items.ensures.value c.requires below c.loop-name-item.is
