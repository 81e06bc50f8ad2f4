use Rattle.std.proofs.Common.{◌<◌, ◌≤◌, List, length, arith}
use Rattle.tree_core.specs.declared.tree.Tree.{Tree}
use Rattle.tree_core.specs.View.{view}
use Rattle.tree_core.proofs.Among.{among_start, among_more, among_fault, among_end}
use Rattle.deployment_doc.specs.Lines.{pointer_lines}
use Rattle.deployment_doc.specs.Named.{IsReset}
use Rattle.deployment_doc.specs.declared.fault.DocFault.TheVariants.{NoMemory}
use Rattle.deployment_doc.proofs.update.resets_among.Goals as goal

pub loop-item-init : goal.loop-item-init
loop-item-init c = among_start view (pointer_lines c.args.name.now) IsReset c.deref-item-items.result.now _ c.in_ok-resets.ensures.items

pub loop-item-preserved : goal.loop-item-preserved
loop-item-preserved c =
    let xs : List Tree = c.deref-item-items.result.now in
    let i = c.loop-item.item-index in
    let below : i < length xs = omega arith in
    among_more view (pointer_lines c.args.name.now) IsReset xs i c.item-item.result c.loop-item.resets.items _ c.in_ok-reset.reset below c.item-item.is
    c.loop-item.invariant c.in_ok-reset.ensures c.in_ok-push.ensures.items

pub returns-in_err-reset : goal.returns-in_err-reset
returns-in_err-reset c =
    let xs : List Tree = c.deref-item-items.result.now in
    let i = c.loop-item.item-index in
    let below : i < length xs = omega arith in
    among_fault view (pointer_lines c.args.name.now) IsReset NoMemory xs c.args.items.now.items i c.item-item.result c.loop-item.resets.items
    c.in_err-reset.field-0.0 _ c.deref-item-items.ensures.value below c.item-item.is c.loop-item.invariant c.in_err-reset.ensures
    c.from_residual-in_err-reset.ensures.1

pub returns : goal.returns
returns c =
    let xs : List Tree = c.deref-item-items.result.now in
    let i = c.loop-item.item-index in
    let past : length xs ≤ i = omega arith in
    among_end view (pointer_lines c.args.name.now) IsReset xs c.args.items.now.items i c.loop-item.resets.items _ c.deref-item-items.ensures.value past
    c.loop-item.invariant c.new.ensures
