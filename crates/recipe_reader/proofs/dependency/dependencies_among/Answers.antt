use Rattle.std.proofs.Common.{◌<◌, ◌≤◌, List, length, arith}
use Rattle.tree_core.proofs.Fields.{Field}
use Rattle.tree_core.specs.View.{field_view}
use Rattle.tree_core.proofs.Among.{among_start, among_more, among_fault, among_end}
use Rattle.recipe_reader.specs.Dependencies.{dependency_lines, IsDependency}
use Rattle.recipe_reader.specs.declared.fault.RecipeFault.TheVariants.{NoMemory}
use Rattle.recipe_reader.proofs.dependency.dependencies_among.Goals as goal

pub loop-name-init : goal.loop-name-init
loop-name-init c = among_start field_view dependency_lines IsDependency c.deref-name-items.result.now _ c.in_ok-dependencies.ensures.items

pub loop-name-preserved : goal.loop-name-preserved
loop-name-preserved c =
    let xs : List Field = c.deref-name-items.result.now in
    let i = c.loop-name.name-index in
    let below : i < length xs = omega arith in
    among_more field_view dependency_lines IsDependency xs i c.loop-name-item.result c.loop-name.dependencies.items _ c.in_ok-dependency.dependency below
    c.loop-name-item.is c.loop-name.invariant c.in_ok-dependency.ensures c.in_ok-push.ensures.items

pub returns-in_err-dependency : goal.returns-in_err-dependency
returns-in_err-dependency c =
    let xs : List Field = c.deref-name-items.result.now in
    let i = c.loop-name.name-index in
    let below : i < length xs = omega arith in
    among_fault field_view dependency_lines IsDependency NoMemory xs c.args.fields.now.items i c.loop-name-item.result c.loop-name.dependencies.items
    c.in_err-dependency.field-0.0 _ c.deref-name-items.ensures.value below c.loop-name-item.is c.loop-name.invariant c.in_err-dependency.ensures
    c.from_residual-in_err-dependency.ensures.1

pub returns : goal.returns
returns c =
    let xs : List Field = c.deref-name-items.result.now in
    let i = c.loop-name.name-index in
    let past : length xs ≤ i = omega arith in
    among_end field_view dependency_lines IsDependency xs c.args.fields.now.items i c.loop-name.dependencies.items _ c.deref-name-items.ensures.value past
    c.loop-name.invariant c.new.ensures
