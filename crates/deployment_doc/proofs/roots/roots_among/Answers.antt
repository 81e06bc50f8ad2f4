use Rattle.std.proofs.Common.{◌<◌, ◌≤◌, List, length, arith}
use Rattle.tree_core.proofs.Fields.{Field}
use Rattle.tree_core.specs.View.{field_view}
use Rattle.tree_core.proofs.Among.{field_among, among_start, among_more, among_fault, among_end}
use Rattle.deployment_doc.specs.Lines.{component_lines}
use Rattle.deployment_doc.specs.Named.{IsRoot}
use Rattle.deployment_doc.specs.declared.fault.DocFault.TheVariants.{NoMemory}
use Rattle.deployment_doc.proofs.roots.roots_among.Goals as goal

pub loop-name-init : goal.loop-name-init
loop-name-init c = among_start field_view component_lines IsRoot c.deref-name-items.result.now _ c.in_ok-roots.ensures.items

pub loop-name-preserved : goal.loop-name-preserved
loop-name-preserved c =
    let xs : List Field = c.deref-name-items.result.now in
    let i = c.loop-name.name-index in
    let below : i < length xs = omega arith in
    among_more field_view component_lines IsRoot xs i c.loop-name-item.result c.loop-name.roots.items _ c.in_ok-root.root below c.loop-name-item.is
    c.loop-name.invariant c.in_ok-root.ensures c.in_ok-push.ensures.items

pub returns-in_err-root : goal.returns-in_err-root
returns-in_err-root c =
    let xs : List Field = c.deref-name-items.result.now in
    let i = c.loop-name.name-index in
    let below : i < length xs = omega arith in
    among_fault field_view component_lines IsRoot NoMemory xs c.args.fields.now.items i c.loop-name-item.result c.loop-name.roots.items
    c.in_err-root.field-0.0 _ c.deref-name-items.ensures.value below c.loop-name-item.is c.loop-name.invariant c.in_err-root.ensures
    c.from_residual-in_err-root.ensures.1

pub returns : goal.returns
returns c =
    let xs : List Field = c.deref-name-items.result.now in
    let i = c.loop-name.name-index in
    let past : length xs ≤ i = omega arith in
    among_end field_view component_lines IsRoot xs c.args.fields.now.items i c.loop-name.roots.items _ c.deref-name-items.ensures.value past
    c.loop-name.invariant c.new.ensures

pub root_of-requires : goal.root_of-requires
root_of-requires c =
    let xs : List Field = c.deref-name-items.result.now in
    let i = c.loop-name.name-index in
    let below : i < length xs = omega arith in
    field_among xs c.args.fields.now.items i c.loop-name-item.result c.deref-name-items.ensures.value c.requires below c.loop-name-item.is
