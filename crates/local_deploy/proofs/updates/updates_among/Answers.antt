use Rattle.std.proofs.Common.{◌<◌, ◌≤◌, List, length, arith}
use Rattle.tree_core.proofs.Fields.{Field}
use Rattle.tree_core.specs.View.{field_view}
use Rattle.tree_core.proofs.Among.{field_among, among_start, among_more, among_fault, among_end}
use Rattle.local_deploy.specs.Lines.{updated_lines}
use Rattle.local_deploy.specs.Named.{IsUpdated}
use Rattle.local_deploy.specs.declared.fault.LocalFault.TheVariants.{NoMemory}
use Rattle.local_deploy.proofs.updates.updates_among.Goals as goal

pub loop-name-init : goal.loop-name-init
loop-name-init c = among_start field_view updated_lines IsUpdated c.deref-name-items.result.now _ c.in_ok-updates.ensures.items

pub loop-name-preserved : goal.loop-name-preserved
loop-name-preserved c =
    let xs : List Field = c.deref-name-items.result.now in
    let i = c.loop-name.name-index in
    let below : i < length xs = omega arith in
    among_more field_view updated_lines IsUpdated xs i c.loop-name-item.result c.loop-name.updates.items _ c.in_ok-updated.updated below c.loop-name-item.is
    c.loop-name.invariant c.in_ok-updated.ensures c.in_ok-push.ensures.items

pub returns-in_err-updated : goal.returns-in_err-updated
returns-in_err-updated c =
    let xs : List Field = c.deref-name-items.result.now in
    let i = c.loop-name.name-index in
    let below : i < length xs = omega arith in
    among_fault field_view updated_lines IsUpdated NoMemory xs c.args.fields.now.items i c.loop-name-item.result c.loop-name.updates.items
    c.in_err-updated.field-0.0 _ c.deref-name-items.ensures.value below c.loop-name-item.is c.loop-name.invariant c.in_err-updated.ensures
    c.from_residual-in_err-updated.ensures.1

pub returns : goal.returns
returns c =
    let xs : List Field = c.deref-name-items.result.now in
    let i = c.loop-name.name-index in
    let past : length xs ≤ i = omega arith in
    among_end field_view updated_lines IsUpdated xs c.args.fields.now.items i c.loop-name.updates.items _ c.deref-name-items.ensures.value past
    c.loop-name.invariant c.new.ensures

pub updated_of-requires : goal.updated_of-requires
updated_of-requires c =
    let xs : List Field = c.deref-name-items.result.now in
    let i = c.loop-name.name-index in
    let below : i < length xs = omega arith in
    field_among xs c.args.fields.now.items i c.loop-name-item.result c.deref-name-items.ensures.value c.requires below c.loop-name-item.is
