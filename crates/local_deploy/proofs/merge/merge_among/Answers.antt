use Rattle.std.proofs.Common.{◌<◌, ◌≤◌, List, length, arith}
use Rattle.tree_core.proofs.Fields.{Field}
use Rattle.tree_core.specs.View.{field_view}
use Rattle.tree_core.proofs.Among.{among_start, among_more, among_fault, among_end}
use Rattle.local_deploy.specs.Lines.{merged_lines}
use Rattle.local_deploy.specs.Named.{IsMerged}
use Rattle.local_deploy.specs.declared.fault.LocalFault.TheVariants.{NoMemory}
use Rattle.local_deploy.proofs.merge.merge_among.Goals as goal

pub loop-name-init : goal.loop-name-init
loop-name-init c = among_start field_view merged_lines IsMerged c.deref-name-items.result.now _ c.in_ok-merge.ensures.items

pub loop-name-preserved : goal.loop-name-preserved
loop-name-preserved c =
    let xs : List Field = c.deref-name-items.result.now in
    let i = c.loop-name.name-index in
    let below : i < length xs = omega arith in
    among_more field_view merged_lines IsMerged xs i c.loop-name-item.result c.loop-name.merge.items _ c.in_ok-merged.merged below c.loop-name-item.is
    c.loop-name.invariant c.in_ok-merged.ensures c.in_ok-push.ensures.items

pub returns-in_err-merged : goal.returns-in_err-merged
returns-in_err-merged c =
    let xs : List Field = c.deref-name-items.result.now in
    let i = c.loop-name.name-index in
    let below : i < length xs = omega arith in
    among_fault field_view merged_lines IsMerged NoMemory xs c.args.fields.now.items i c.loop-name-item.result c.loop-name.merge.items
    c.in_err-merged.field-0.0 _ c.deref-name-items.ensures.value below c.loop-name-item.is c.loop-name.invariant c.in_err-merged.ensures
    c.from_residual-in_err-merged.ensures.1

pub returns : goal.returns
returns c =
    let xs : List Field = c.deref-name-items.result.now in
    let i = c.loop-name.name-index in
    let past : length xs ≤ i = omega arith in
    among_end field_view merged_lines IsMerged xs c.args.fields.now.items i c.loop-name.merge.items _ c.deref-name-items.ensures.value past
    c.loop-name.invariant c.new.ensures
