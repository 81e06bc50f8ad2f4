use Rattle.std.proofs.Common.{◌<◌, ◌≤◌, List, length, arith}
use Rattle.tree_core.specs.declared.tree.Tree.{Tree}
use Rattle.tree_core.specs.View.{view}
use Rattle.tree_core.proofs.Among.{among_start, among_more, among_fault, among_end}
use Rattle.local_deploy.specs.Lines.{removed_lines}
use Rattle.local_deploy.specs.Named.{IsNamed}
use Rattle.local_deploy.specs.declared.fault.LocalFault.TheVariants.{NoMemory}
use Rattle.local_deploy.proofs.remove.names_among.Goals as goal

pub loop-item-init : goal.loop-item-init
loop-item-init c = among_start view removed_lines IsNamed c.deref-item-items.result.now _ c.in_ok-names.ensures.items

pub loop-item-preserved : goal.loop-item-preserved
loop-item-preserved c =
    let xs : List Tree = c.deref-item-items.result.now in
    let i = c.loop-item.item-index in
    let below : i < length xs = omega arith in
    among_more view removed_lines IsNamed xs i c.item-item.result c.loop-item.names.items _ c.in_ok-name.name below c.item-item.is
    c.loop-item.invariant c.in_ok-name.ensures c.in_ok-push.ensures.items

pub returns-in_err-name : goal.returns-in_err-name
returns-in_err-name c =
    let xs : List Tree = c.deref-item-items.result.now in
    let i = c.loop-item.item-index in
    let below : i < length xs = omega arith in
    among_fault view removed_lines IsNamed NoMemory xs c.args.items.now.items i c.item-item.result c.loop-item.names.items
    c.in_err-name.field-0.0 _ c.deref-item-items.ensures.value below c.item-item.is c.loop-item.invariant c.in_err-name.ensures
    c.from_residual-in_err-name.ensures.1

pub returns : goal.returns
returns c =
    let xs : List Tree = c.deref-item-items.result.now in
    let i = c.loop-item.item-index in
    let past : length xs ≤ i = omega arith in
    among_end view removed_lines IsNamed xs c.args.items.now.items i c.loop-item.names.items _ c.deref-item-items.ensures.value past
    c.loop-item.invariant c.new.ensures
