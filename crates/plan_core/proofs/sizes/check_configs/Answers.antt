use Rattle.std.proofs.Common.{[], ◌+◌, map, drop, subst}
use Rattle.nuc_base.specs.Tables.{AllHold, IsFaultBy, each}
use Rattle.nuc_base.proofs.Tables.{map_next, map_end}
use Rattle.records.specs.Stored.{item_view}
use Rattle.plan_core.specs.Plans.{config_lines}
use Rattle.plan_core.specs.declared.fault.PlanFault.TheVariants as fault
use Rattle.plan_core.proofs.Growing.{Checked, checked_more, checked_fault, regular_at, handed}
use Rattle.plan_core.proofs.sizes.check_configs.Goals as goal

pub check_config-requires : goal.check_config-requires
check_config-requires c = regular_at c.args.items.now c.loop-item.item-index c.item-item.result c.loop-item-test.true c.item-item.is c.requires

pub returns-in_err-check_config : goal.returns-in_err-check_config
returns-in_err-check_config c =
    let xs = c.args.items.now in
    let i = c.loop-item.item-index in
    let x = c.item-item.result in
    let all = map item_view xs in
    let rest = map item_view (drop (i + 1) xs) in
    let f = c.in_err-check_config.field-0.0 in
    handed (λ _. AllHold (each config_lines all)) (IsFaultBy fault.NoMemory (each config_lines all)) c.from_residual.result f c.from_residual.ensures.1
    (checked_fault all rest (item_view x) f (subst (Checked all) (map_next item_view xs i x c.loop-item-test.true c.item-item.is) c.loop-item.invariant)
    c.in_err-check_config.ensures)

pub loop-item-preserved : goal.loop-item-preserved
loop-item-preserved c =
    let xs = c.args.items.now in
    let i = c.loop-item.item-index in
    let x = c.item-item.result in
    let all = map item_view xs in
    checked_more all (map item_view (drop (i + 1) xs)) (item_view x)
    (subst (Checked all) (map_next item_view xs i x c.loop-item-test.true c.item-item.is) c.loop-item.invariant) c.in_ok-check_config.ensures

pub returns : goal.returns
returns c =
    let xs = c.args.items.now in
    let all = map item_view xs in
    let done : Checked all [] = subst (Checked all) (map_end item_view xs c.loop-item.item-index c.loop-item-test.false) c.loop-item.invariant in
    done.holds tt
